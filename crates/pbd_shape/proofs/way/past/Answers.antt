use Rattle.std.proofs.Common.{◌≡◌, refl, sym, ◌∙◌, w64, FitsSigned, ℤ, Bool}
use Rattle.std.proofs.lemmas.Int.{to_z-of_z}
use Rattle.pbd_num.specs.declared.Vec3.{Vec3}
use Rattle.pbd_num.specs.Vectors.{is_within}
use Rattle.pbd_num.proofs.VectorSizes.{word}
use Rattle.pbd_shape.proofs.way.past.Goals as goal

-- what a test against a limit that was handed in tells of the limit itself
told : {limit : ℤ} (at : Vec3) {inside : Bool} → FitsSigned w64 limit → inside ≡ is_within (word limit) at → inside ≡ is_within limit at
told at fit e = simp to_z-of_z at e

pub returns-then-within-clause-value : goal.returns-then-within-clause-value
returns-then-within-clause-value c = rw (c.in-Some.is, sym (told _ c.ranges.limit c.within.ensures.test) ∙ c.if-within.true) refl

pub returns-else-within-clause-value : goal.returns-else-within-clause-value
returns-else-within-clause-value c = rw (c.in-Some.is, sym (told _ c.ranges.limit c.within.ensures.test) ∙ c.if-within.false) refl

pub returns-then-within-clause-within : goal.returns-then-within-clause-within
returns-then-within-clause-within c =
    let f : FitsSigned w64 c.args.limit = c.ranges.limit in
    let h = simp to_z-of_z at c.within.ensures.facts in
    h.0 c.if-within.true
