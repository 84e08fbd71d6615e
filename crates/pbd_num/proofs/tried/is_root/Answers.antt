use Rattle.std.proofs.Common.{arith, ℤ, ◌*◌, ◌*ℤ◌, ◌-ℤ◌, ◌≤ℤ◌, ◌^◌, ◌<◌, pos, unsigned_abs, w64, FitsSigned}
use Rattle.std.proofs.lemmas.Int.{ints, to_z-of_z}
use Rattle.std.proofs.lemmas.Bool.{and_parts}
use Rattle.std.proofs.Math.Nat.{mul-le-mul}
use Rattle.pbd_num.proofs.Sizes.{fits, square_of, size_at_most}
use Rattle.pbd_num.proofs.Tests.{at_most, root_by_rest}
use Rattle.pbd_num.proofs.tried.is_root.Goals as goal

-- what fits
record Rest (n r : ℤ) : Type 0 where
  square : FitsSigned w64 (r *ℤ r)
  rest : FitsSigned w64 (n -ℤ r *ℤ r)
  twice : FitsSigned w64 (pos 2 *ℤ r)

rest_fits : (n r : ℤ) → FitsSigned w64 n → pos 0 ≤ℤ n → pos 0 ≤ℤ r → r ≤ℤ pos 3037000499 → Rest n r
rest_fits n r n_fits low r_low high =
    let short = size_at_most r 3037000499 r_low high in
    let square : unsigned_abs r * unsigned_abs r < 2 ^ 63 = omega (arith, mul-le-mul short short) in
    record {
      square = fits _ (omega (arith, ints, square_of r, square));
      rest = fits _ (omega (arith, ints, square_of r, square));
      twice = fits _ (omega (arith, ints));
    }

pub overflow_mul-over : goal.overflow_mul-over
overflow_mul-over c =
    let r_fits = c.ranges.r in
    simp to_z-of_z (rest_fits c.args.n c.args.r c.ranges.n c.requires.n c.requires.low c.requires.high).square

pub overflow_sub-over : goal.overflow_sub-over
overflow_sub-over c =
    let n_fits = c.ranges.n in
    let r_fits = c.ranges.r in
    let known = rest_fits c.args.n c.args.r n_fits c.requires.n c.requires.low c.requires.high in
    let square = known.square in
    simp to_z-of_z known.rest

pub returns : goal.returns
returns c t =
    let n_fits = c.ranges.n in
    let r_fits = c.ranges.r in
    let known = rest_fits c.args.n c.args.r n_fits c.requires.n c.requires.low c.requires.high in
    let square = known.square in
    let rest = known.rest in
    let twice = known.twice in
    let t' = simp to_z-of_z at t in
    let both = and_parts _ _ t' in
    let low = at_most _ _ both.0 in
    let high = at_most _ _ both.1 in
    root_by_rest c.args.n c.args.r c.requires.n c.requires.low low high
