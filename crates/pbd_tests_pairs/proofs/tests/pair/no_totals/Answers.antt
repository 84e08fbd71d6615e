use Rattle.pbd_world.specs.Ledger.{ledger_of}
use Rattle.pbd_pair.proofs.Examples.{room_of_zero}
use Rattle.pbd_tests_pairs.proofs.tests.pair.no_totals.Goals as goal

pub returns : goal.returns
returns c = room_of_zero (ledger_of c.zero.result) c.zero.ensures
