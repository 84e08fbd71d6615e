use Rattle.std.proofs.Common.{◌≡◌, refl, ap, ◌∙◌, ◌^◌, ◌<◌, ℕ, zero, suc, arith, subst, List, [], ◌∷◌, Bool, length, length-take-le, take}
use Rattle.pbd_num.specs.declared.Vec3.{Vec3}
use Rattle.pbd_num.specs.Vectors.{Within}
use Rattle.pbd_lanes.specs.Lane.{is_set}
use Rattle.pbd_world.specs.declared.parts.Particle.{Particle}
use Rattle.pbd_store.proofs.Listing.{count_is, row_is, place_is}
use Rattle.pbd_store.proofs.Landed.{flown_padded, flown_listed, flown_summed}
use Rattle.pbd_store.proofs.columns.Columns.fly.Goals as goal
use Rattle.pbd_store.proofs.columns.Columns.fly.Goals.{After-deref, After-fly}

-- the flags that were lent
flags_long : (g : _) (c : After-deref g) → length (take c.self.inside.count c.deref.result.now) ≡ c.self.inside.count
flags_long g c =
    let flags = ap (λ (bs : List Bool). length bs) c.deref.ensures.value in
    length-take-le c.self.inside.count c.deref.result.now (omega (arith, c.self.invariant.padded.flags, flags))

pub fly-requires-clause-at : goal.fly-requires-clause-at
fly-requires-clause-at g c =
    let long = flags_long g (goal.at.fly-requires-clause-at g c).After-deref in
    λ j lt. subst (λ (v : Vec3). Within (2 ^ 29) v) (place_is c.self.invariant.padded c.self.view_is j)
    (c.requires.at j (omega (arith, long, count_is c.self.invariant.padded c.self.view_is)))

pub fly-requires-clause-before : goal.fly-requires-clause-before
fly-requires-clause-before g c =
    let long = flags_long g (goal.at.fly-requires-clause-before g c).After-deref in
    λ j lt. subst (λ (v : Vec3). Within (2 ^ 29) v) (ap (λ (p : Particle). p.before) (row_is c.self.invariant.padded c.self.view_is j))
    (c.requires.before j (omega (arith, long, count_is c.self.invariant.padded c.self.view_is)))

long : (g : _) (c : After-fly g) → length (take c.self.inside.count c.deref.result.now) ≡ c.self.inside.count
long g c = flags_long g (goal.at.returns-clause-particles g c).After-deref

cut_at : (flags : List Bool) (n j : ℕ) → j < n → is_set (take n flags) j ≡ is_set flags j
cut_at flags zero j lt = absurd (omega arith)
cut_at [] (suc n) j lt = refl
cut_at (b ∷ flags) (suc n) zero lt = refl
cut_at (b ∷ flags) (suc n) (suc j) lt = cut_at flags n j (omega arith)

held_as_flagged : (g : _) (c : After-fly g) (j : ℕ) → j < c.self.inside.count
    → is_set (take c.self.inside.count c.deref.result.now) j ≡ is_set c.self.inside.held.items j
held_as_flagged g c j lt = cut_at c.deref.result.now c.self.inside.count j lt ∙ ap (λ (bs : List Bool). is_set bs j) c.deref.ensures.value

pub invariant_of-self : goal.invariant_of-self
invariant_of-self g c = record {
  padded = flown_padded c.self.invariant.padded c.self.view_is c.args.forces _ (long g c) (held_as_flagged g c) c.fly.new.self c.fly.new.before
      c.fly.ensures.at c.fly.ensures.before;
  long = c.self.invariant.long;
  weighs = c.self.invariant.weighs;
}

pub returns-clause-particles : goal.returns-clause-particles
returns-clause-particles g c = flown_listed c.self.invariant.padded c.self.view_is c.args.forces _ (long g c) (held_as_flagged g c) c.fly.new.self
    c.fly.new.before c.fly.ensures.at c.fly.ensures.before

pub returns-clause-sums : goal.returns-clause-sums
returns-clause-sums g c = flown_summed c.self.invariant.padded c.self.view_is c.args.forces _ (long g c) (held_as_flagged g c) c.fly.new.self
    c.fly.new.before c.fly.ensures.at c.fly.ensures.before c.fly.result c.fly.ensures.sums

pub returns-clause-few : goal.returns-clause-few
returns-clause-few g c = omega (arith, count_is c.self.invariant.padded c.self.view_is, c.self.invariant.padded.size)
