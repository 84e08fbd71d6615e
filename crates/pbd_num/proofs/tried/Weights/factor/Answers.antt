use Rattle.std.proofs.Common.{arith, ◌≡◌, ap, ◌&&◌, ℤ, pos, ◌*ℤ◌, ◌≤◌, unsigned_abs, to_z, of_z, w32, w64, FitsSigned}
use Rattle.std.specs.Prelude.{IsTrue, int_lt}
use Rattle.std.proofs.lemmas.Int.{to_z-of_z, fits_signed_from_abs}
use Rattle.std.proofs.lemmas.Bool.{and_parts, false≢true}
use Rattle.pbd_num.proofs.Sizes.{fits, size-mul}
use Rattle.pbd_num.proofs.VectorSizes.{word}
use Rattle.pbd_num.proofs.tried.Weights.factor.Goals as goal
use Rattle.pbd_num.proofs.tried.Weights.factor.Goals.{then-both, else-both}

-- where both are above 0, neither is 0
first_free : (a b : ℤ) → IsTrue (int_lt (pos 0) a && int_lt (pos 0) b) → a ≡ pos 0 → ⊥
first_free a b both none = let above = (and_parts (int_lt (pos 0) a) (int_lt (pos 0) b) both).0 in false≢true (rw none at above)

second_free : (a b : ℤ) → IsTrue (int_lt (pos 0) a && int_lt (pos 0) b) → b ≡ pos 0 → ⊥
second_free a b both none = let above = (and_parts (int_lt (pos 0) a) (int_lt (pos 0) b) both).1 in false≢true (rw none at above)

-- where not both are, the factor is twice the stiffness
alone : (k f : ℤ) → FitsSigned w64 k → unsigned_abs k ≤ 256 → f ≡ word (pos 2 *ℤ word k) → to_z w32 (of_z w32 f) ≡ pos 2 *ℤ k
alone k f k_fits h is =
    let size = size-mul (pos 2) k 2 256 (omega arith) h in
    let short = fits_signed_from_abs w32 (pos 2 *ℤ k) (omega (arith, size)) in
    let long = fits (pos 2 *ℤ k) (omega (arith, size)) in
    let twice = simp to_z-of_z at is in
    rw twice (simp to_z-of_z)

pub returns-clause-first : goal.returns-clause-first
returns-clause-first c = λ none. elim c.if-both.branch [
  | then-both w ↦ absurd (second_free (word c.args.self.first) (word c.args.self.second) w.if-both.true (ap (λ (s : ℤ). word s) none))
  | else-both w ↦ alone c.args.k _ c.ranges.k c.requires.k w.result-is
]

pub returns-clause-second : goal.returns-clause-second
returns-clause-second c = λ none. elim c.if-both.branch [
  | then-both w ↦ absurd (first_free (word c.args.self.first) (word c.args.self.second) w.if-both.true (ap (λ (s : ℤ). word s) none))
  | else-both w ↦ alone c.args.k _ c.ranges.k c.requires.k w.result-is
]
