use Rattle.std.proofs.Common.{arith, ◌≡◌, ◌≤◌, ◌-ℤ◌, ◌*ℤ◌, ◌≤ℤ◌, pos, min, to_z, w32}
use Rattle.std.proofs.lemmas.Int.{ints, to_z-of_z, to_z_pos, fits_signed_from_abs}
use Rattle.std.proofs.lemmas.Bool.{and_parts}
use Rattle.pbd_num.proofs.Sizes.{size_le}
use Rattle.pbd_num.proofs.Tests.{at_most}
use Rattle.pbd_near.proofs.Mending.{tested_root}
use Rattle.pbd_near.proofs.shares.is_length.Goals as goal

pub returns : goal.returns
returns c = λ t.
    let l = c.ranges.length in
    let m = c.min.result in
    let s = c.square_of.result in
    let cut : m ≤ 2147483647 = omega (arith, c.min.ensures) in
    let m_is : to_z w32 m ≡ pos m = to_z_pos w32 m (omega arith) in
    let s_is : to_z w32 s ≡ pos s = to_z_pos w32 s (omega (arith, c.square_of.ensures.size)) in
    let s_size = c.square_of.ensures.size in
    let over = size_le (pos m -ℤ pos s) 2147483647 (omega (arith, ints)) (omega (arith, ints)) in
    let difference = fits_signed_from_abs w32 (pos m -ℤ pos s) (omega (arith, over)) in
    let long = size_le (pos 2 *ℤ c.args.length) 65534 (omega (arith, ints)) (omega (arith, ints)) in
    let twice = fits_signed_from_abs w32 (pos 2 *ℤ c.args.length) (omega (arith, long)) in
    let t' = simp (to_z-of_z, m_is, s_is) at t in
    let both = and_parts _ _ t' in
    let low : pos 0 ≤ℤ (pos m -ℤ pos s) = at_most _ _ both.0 in
    let high : (pos m -ℤ pos s) ≤ℤ (pos 2 *ℤ c.args.length) = at_most _ _ both.1 in
    let l_is = simp to_z-of_z at c.square_of.ensures.value in
    let sum : m ≡ min c.args.square 2147483647 = c.min.ensures in
    let low' = simp (sum, l_is) at low in
    let high' = simp (sum, l_is) at high in
    tested_root _ c.args.length c.requires.low c.requires.high low' high'
