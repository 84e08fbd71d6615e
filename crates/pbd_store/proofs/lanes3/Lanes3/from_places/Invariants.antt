use Rattle.std.proofs.Common.{pos, get_or}
use Rattle.pbd_num.specs.Vectors.{zero_vector}
use Rattle.pbd_store.proofs.Filling.{Filled}
use Rattle.pbd_store.proofs.lanes3.Lanes3.from_places.Given as goal

abbrev pub invariant-loop-j : goal.invariant-loop-j
invariant-loop-j g l = record {
  x : Filled (pos 0) g.row.L (λ k. (get_or l.places k zero_vector).x) l.j l.x;
  y : Filled (pos 0) g.row.L (λ k. (get_or l.places k zero_vector).y) l.j l.y;
  z : Filled (pos 0) g.row.L (λ k. (get_or l.places k zero_vector).z) l.j l.z;
}
