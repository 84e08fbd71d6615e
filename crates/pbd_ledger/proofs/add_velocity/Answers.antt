use Rattle.std.proofs.Common.{◌≡◌, ◌∙◌, sym, subst, arith, ◌+◌, ◌≤◌, ◌^◌, ℤ, ◌+ℤ◌, ◌-ℤ◌, unsigned_abs, w64, of_z, to_z, FitsSigned}
use Rattle.std.specs.Int.{w128}
use Rattle.std.proofs.lemmas.Int.{to_z-of_z, ints}
use Rattle.pbd_num.proofs.Sizes.{size-add, size-sub, size_le}
use Rattle.pbd_ledger.proofs.Adding.{wide}
use Rattle.pbd_ledger.proofs.add_velocity.Goals as goal

size_of_64 : (z : ℤ) → FitsSigned w64 z → unsigned_abs z ≤ 2 ^ 63
size_of_64 z h = size_le z (2 ^ 63) (omega (arith, ints)) (omega (arith, ints))

apart : (at before : ℤ) → FitsSigned w64 at → FitsSigned w64 before → unsigned_abs (at -ℤ before) ≤ 2 ^ 64
apart at before a b = omega (arith, size-sub at before, size_of_64 at a, size_of_64 before b)

-- a sum with the difference of two numbers, where all on the way fits
module _ (sum at before : ℤ) (sums : FitsSigned w128 sum) (small : unsigned_abs sum ≤ 2 ^ 80) (a : FitsSigned w64 at)
    (b : FitsSigned w64 before) where
  added : (p q : ℤ) → p ≡ to_z w64 (of_z w64 at) → q ≡ to_z w64 (of_z w64 before)
      → to_z w128 (of_z w128 (to_z w128 (of_z w128 sum) +ℤ to_z w128 (of_z w128 (to_z w128 (of_z w128 p) -ℤ to_z w128 (of_z w128 q)))))
      ≡ sum +ℤ (at -ℤ before)
  added p q ep eq =
      let fits_at : FitsSigned w128 at = wide at (omega (arith, size_of_64 at a)) in
      let fits_before : FitsSigned w128 before = wide before (omega (arith, size_of_64 before b)) in
      let fits_way : FitsSigned w128 (at -ℤ before) = wide (at -ℤ before) (omega (arith, apart at before a b)) in
      let fits_all : FitsSigned w128 (sum +ℤ (at -ℤ before)) =
      wide (sum +ℤ (at -ℤ before)) (omega (arith, size-add sum (at -ℤ before), apart at before a b, small)) in
      rw (ep ∙ to_z-of_z w64 at a, eq ∙ to_z-of_z w64 before b) (simp to_z-of_z)

  grown : unsigned_abs (sum +ℤ (at -ℤ before)) ≤ unsigned_abs sum + 2 ^ 64
  grown = omega (arith, size-add sum (at -ℤ before), apart at before a b)

pub returns-clause-value : goal.returns-clause-value
returns-clause-value c = added c.args.sum c.args.at c.args.before c.ranges.sum c.requires c.ranges.at c.ranges.before c.from.result
    c.from-2.result c.from.ensures c.from-2.ensures

pub returns-clause-size : goal.returns-clause-size
returns-clause-size c =
    let value = added c.args.sum c.args.at c.args.before c.ranges.sum c.requires c.ranges.at c.ranges.before c.from.result c.from-2.result
    c.from.ensures c.from-2.ensures in
    subst (λ (z : ℤ). unsigned_abs z ≤ unsigned_abs c.args.sum + 2 ^ 64) (sym value)
    (grown c.args.sum c.args.at c.args.before c.ranges.sum c.requires c.ranges.at c.ranges.before)
