use Rattle.std.proofs.Common.{length, unsigned_abs, arith}
use Rattle.pbd_grid.proofs.Counting.{before_least, before_few}
use Rattle.pbd_grid.proofs.laws.searches_read_eight_chains_a_particle.Goals as goal

pub returns-clause-least : goal.returns-clause-least
returns-clause-least c = λ chains thickness places. before_least chains (unsigned_abs thickness) places (length places)

pub returns-clause-most : goal.returns-clause-most
returns-clause-most c = λ chains thickness places. before_few chains (unsigned_abs thickness) places (length places) (omega arith)
