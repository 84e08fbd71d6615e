use Rattle.std.proofs.Common.{length}
use Rattle.pbd_chain.specs.Linked.{chain_at}
use Rattle.pbd_grid.specs.Blocks.{slot_of}
use Rattle.pbd_grid.proofs.Looking.{finds}
use Rattle.pbd_grid.proofs.Counting.{IsFollowed}
use Rattle.pbd_grid.proofs.lookup.Crowd.follow.Given as goal

abbrev pub invariant-behind : goal.invariant-behind
invariant-behind g l = IsFollowed (finds l.self.places.now l.self.cells.side (g.F.PairFilter.test l.filter) l.i l.begun.cell)
    (chain_at l.self.chains.now.chains (slot_of (length l.self.chains.now.chains) l.begun.cell)) l.i l.j l.looks l.fn.found l.found

abbrev pub decreases-behind : goal.decreases-behind
decreases-behind g l = l.j
