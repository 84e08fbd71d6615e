use Rattle.std.proofs.Common.{◌≡◌, arith, sym, ap, ◌∙◌, ◌&&◌, ℕ, subst, IsTrue, inl, inr, rules, w64, FitsSigned}
use Rattle.std.proofs.lemmas.Int.{to_z-of_z}
use Rattle.pbd_num.specs.Vectors.{is_within}
use Rattle.pbd_store.specs.Stored.{Stored}
use Rattle.pbd_store.specs.Pairs.{ends_within}
use Rattle.pbd_store.proofs.store.Store.find_outside.Goals as goal
use Rattle.pbd_store.proofs.store.Store.find_outside.Goals.{After-both_within-inside}
use Rattle.pbd_num.proofs.Below.{split_below}

-- what the test of a pair says
tested : (g : _) (c : After-both_within-inside g) → ends_within c.args.self.now.limit c.args.self.now.particles
    c.args.pairs.first.now c.args.pairs.second.now c.loop-j.j ≡ c.both_within-inside.result
tested g c =
    let l : FitsSigned w64 c.self.inside.limit = search rules in
    let test = simp to_z-of_z at c.both_within-inside.ensures in
    let limit = ap (λ (s : Stored). s.limit) (sym c.self.view_is) in
    (λ t. is_within (limit t) (sym c.ends_of-ends.ensures.first t) && is_within (limit t) (sym c.ends_of-ends.ensures.second t)) ∙ sym test

pub returns-then-not-inside : goal.returns-then-not-inside
returns-then-not-inside g c = record {
  one = omega arith;
  before = c.loop-j.invariant.below;
  leaves = tested g (goal.at.returns-then-not-inside g c).After-both_within-inside ∙ c.if-not-inside.true;
}

pub loop-j-preserved : goal.loop-j-preserved
loop-j-preserved g c = record {
  below = λ k q. elim (split_below k c.loop-j.j q) [
    | inl p ↦ c.loop-j.invariant.below k p
    | inr e ↦ subst (λ (m : ℕ). IsTrue (ends_within c.args.self.now.limit c.args.self.now.particles c.args.pairs.first.now
        c.args.pairs.second.now m)) (sym e)
        (tested g (goal.at.loop-j-preserved g c).After-both_within-inside ∙ c.if-not-inside.false)
  ];
}
