use Rattle.std.proofs.Common.{pos}
use Rattle.pbd_store.specs.Gathering.{index_at}
use Rattle.pbd_store.specs.Listed.{place_at}
use Rattle.pbd_store.proofs.Filling.{Filled}
use Rattle.pbd_store.proofs.rows.PlaceRows.picked.Given as goal

abbrev pub invariant-loop-j : goal.invariant-loop-j
invariant-loop-j g l = record {
  x : Filled (pos 0) g.row.L (λ k. (place_at l.self (index_at l.numbers k)).x) l.j l.x;
  y : Filled (pos 0) g.row.L (λ k. (place_at l.self (index_at l.numbers k)).y) l.j l.y;
  z : Filled (pos 0) g.row.L (λ k. (place_at l.self (index_at l.numbers k)).z) l.j l.z;
}
