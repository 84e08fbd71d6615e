-- Limits, and what lies within them.
use Rattle.std.proofs.Common.{◌^◌, ℤ, pos, ◌≤ℤ◌, arith}
use Rattle.std.proofs.lemmas.Int.{ints}
use Rattle.pbd_world.specs.declared.bond.Bond.{Bond}
use Rattle.pbd_pair.specs.Bonds.{IsBound, HasPull}

pub rest_fits : (limit : ℤ) (b : Bond) → IsBound limit → HasPull limit b → b.rest ≤ℤ pos (2 ^ 31)
rest_fits limit b h d = omega (arith, ints, h.high, d.rest_high)
