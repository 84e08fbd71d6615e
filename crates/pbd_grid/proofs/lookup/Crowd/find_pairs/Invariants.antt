use Rattle.std.proofs.Common.{◌≡◌, pos}
use Rattle.pbd_grid.specs.Looks.{looks_before}
use Rattle.pbd_grid.proofs.Finding.{IsFoundRows}
use Rattle.pbd_grid.proofs.lookup.Crowd.find_pairs.Given as goal

abbrev pub invariant-loop-i : goal.invariant-loop-i
invariant-loop-i g l = record {
  rows : IsFoundRows l.self.places.now (pos l.self.cells.side) (g.F.PairFilter.test l.filter) l.i l.fn.out l.out;
  kept : l.found.room ≡ l.fn.found.room;
  looks : l.looks ≡ looks_before l.self.cells.count l.self.cells.side l.self.places.now l.i;
}
