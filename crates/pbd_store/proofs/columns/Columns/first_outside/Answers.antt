use Rattle.std.proofs.Common.{◌<◌, arith, sym, ap, ◌∙◌, ℕ, subst, IsTrue, inl, inr}
use Rattle.std.proofs.lemmas.Int.{to_z-of_z}
use Rattle.pbd_num.specs.Vectors.{is_within}
use Rattle.pbd_num.proofs.Ranges.{within_facts}
use Rattle.pbd_num.proofs.VectorSizes.{word}
use Rattle.pbd_world.specs.Particles.{particle_at}
use Rattle.pbd_store.specs.Listed.{place_at}
use Rattle.pbd_store.proofs.Listing.{count_is, place_is}
use Rattle.pbd_store.proofs.columns.Columns.first_outside.Goals as goal
use Rattle.pbd_store.proofs.columns.Columns.first_outside.Goals.{At-loop-i}
use Rattle.pbd_num.proofs.Below.{split_below}

pub returns-then-is_within : goal.returns-then-is_within
returns-then-is_within g c =
    let l = c.ranges.limit in
    let all = simp to_z-of_z at c.is_within.ensures in
    λ i lt. (within_facts c.args.limit (particle_at c.args.self.now i).at c.requires.low).1
    (all c.if-is_within.true (particle_at c.args.self.now i).at (c.requires.reach i lt))

pub get-requires : goal.get-requires
get-requires g c = omega (arith, c.self.invariant.padded.places)

-- the places that were looked at are within, as those of the particles
looked_at : (g : _) (c : At-loop-i g) (k : ℕ) → k < c.loop-i.i → IsTrue (is_within c.args.limit (particle_at c.args.self.now k).at)
looked_at g c k lt =
    let l = c.ranges.limit in
    let below = simp to_z-of_z at c.loop-i.invariant.below in
    ap (is_within c.args.limit) (place_is c.self.invariant.padded c.self.view_is k) ∙ below k lt

pub returns-then-not-inside : goal.returns-then-not-inside
returns-then-not-inside g c =
    let l = c.ranges.limit in
    let test = simp to_z-of_z at c.within-inside.ensures.test in
    record {
      one = omega (arith, count_is c.self.invariant.padded c.self.view_is);
      before = looked_at g (goal.at.returns-then-not-inside g c).At-loop-i;
      leaves = ap (is_within c.args.limit) (place_is c.self.invariant.padded c.self.view_is c.loop-i.i ∙ sym c.get.ensures) ∙ sym test
          ∙ c.if-not-inside.true;
    }

pub loop-i-preserved : goal.loop-i-preserved
loop-i-preserved g c = record {
  below = λ (k : ℕ) q. elim (split_below k c.loop-i.i q) [
    | inl p ↦ c.loop-i.invariant.below k p
    | inr e ↦ subst (λ (m : ℕ). IsTrue (is_within (word c.args.limit) (place_at c.self.inside.at m))) (sym e)
        (ap (is_within (word c.args.limit)) (sym c.get.ensures) ∙ sym c.within-inside.ensures.test ∙ c.if-not-inside.false)
  ];
}

pub returns : goal.returns
returns g c = λ i lt. looked_at g (goal.at.returns g c).At-loop-i i (omega (arith, count_is c.self.invariant.padded c.self.view_is))
