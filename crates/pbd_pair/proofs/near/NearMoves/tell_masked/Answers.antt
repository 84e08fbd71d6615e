use Rattle.std.proofs.Common.{arith}
use Rattle.pbd_pair.specs.Chunks.{lying_in}
use Rattle.pbd_pair.proofs.Settled.{above_zero, free_masked}
use Rattle.pbd_pair.proofs.Telling.{free_sums, masked_sums, weighed_in}
use Rattle.pbd_pair.proofs.near.NearMoves.tell_masked.Goals as goal

pub least_weight-least-requires-clause-even : goal.least_weight-least-requires-clause-even
least_weight-least-requires-clause-even c = omega (arith, c.requires.columns.first_long, c.requires.columns.second_long)

pub least_weight-least-requires-clause-weighed : goal.least_weight-least-requires-clause-weighed
least_weight-least-requires-clause-weighed c = weighed_in c.requires.columns

pub returns-then-free : goal.returns-then-free
returns-then-free c = free_sums c.args.found.now c.requires.near (free_masked (lying_in c.args.found.now) c.args.self.now.moves c.requires.near.long
    c.requires.columns.first_long (above_zero (record { sfits = c.least_weight-least.type_inv }) c.if-free.true)
    c.least_weight-least.ensures.first c.least_weight-least.ensures.second)

pub returns : goal.returns
returns c = masked_sums c.args.found.now c.requires.near c.mask-pins.ensures.masked c.mask-pins.ensures.sum c.mask-pins.ensures.size
