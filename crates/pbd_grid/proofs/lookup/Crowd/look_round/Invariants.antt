use Rattle.std.proofs.Common.{◌≡◌}
use Rattle.pbd_grid.specs.Looks.{looks_round}
use Rattle.pbd_grid.proofs.Walking.{IsRound}
use Rattle.pbd_grid.proofs.lookup.Crowd.look_round.Given as goal

abbrev pub invariant-loop-n : goal.invariant-loop-n
invariant-loop-n g l = record {
  kept : IsRound l.self.chains.now.chains l.self.places.now l.self.cells.side (g.F.PairFilter.test l.filter) l.i l.from l.fn.found l.found l.n;
  looks : l.looks ≡ looks_round l.self.cells.count l.self.cells.side l.self.places.now l.i l.from l.n;
}
