use Rattle.std.proofs.Common.{◌≡◌, ◌+◌, ◌/◌, ◌≤◌, ◌^◌, ◌∙◌, sym, arith, pos, ◌-ℤ◌, ◌*ℤ◌, unsigned_abs, to_z, of_z, w64}
use Rattle.std.proofs.lemmas.Int.{ints, to_z-of_z}
use Rattle.pbd_num.proofs.Sizes.{size-mul, size_above}
use Rattle.pbd_store.proofs.Axes.{part_of_raised}
use Rattle.pbd_store.proofs.flight.part_of_1024.Goals as goal

pub returns : goal.returns
returns c =
    let fs = c.ranges.s in
    let ff = c.ranges.f in
    let p = c.args.s *ℤ c.args.f in
    let n = c.raised_product-raised.result in
    let raised = simp to_z-of_z at c.raised_product-raised.ensures in
    let size : unsigned_abs p ≤ 2 ^ 40 = omega (arith, size-mul c.args.s c.args.f (2 ^ 30) 1024 c.requires.s c.requires.f) in
    let high : n ≤ 2 ^ 42 = omega (arith, ints, raised, size, size_above p) in
    let value : to_z w64 (of_z w64 (to_z w64 ((n + (511 + n / 2199023255552)) / 1024) -ℤ pos 2147483648))
    ≡ pos ((n + (511 + n / 2199023255552)) / 1024) -ℤ pos 2147483648 = omega (arith, ints, high) in
    value ∙ sym (part_of_raised p n raised size)
