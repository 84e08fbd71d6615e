use Rattle.std.proofs.Common.{arith}
use Rattle.pbd_tests_numbers.proofs.tests.lanes.compared.Goals as goal

pub from_array-x-requires : goal.from_array-x-requires
from_array-x-requires g c = omega (arith, c.requires)

pub from_array-y-requires : goal.from_array-y-requires
from_array-y-requires g c = omega (arith, c.requires)

pub from_array-other-requires : goal.from_array-other-requires
from_array-other-requires g c = omega (arith, c.requires)

pub are_in_range-requires : goal.are_in_range-requires
are_in_range-requires g c = (omega (arith, c.requires), c.requires)

pub are_in_range-requires-2 : goal.are_in_range-requires-2
are_in_range-requires-2 g c = (omega (arith, c.requires), c.requires)

pub are_above_0-requires : goal.are_above_0-requires
are_above_0-requires g c = (omega (arith, c.requires), c.requires)
