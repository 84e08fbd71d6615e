use Rattle.std.proofs.Common.{◌≡◌, ℕ, ◌+◌, ◌*◌, ◌^◌, ◌<◌, length, get_or, unsigned_abs}
use Rattle.pbd_num.specs.Vectors.{Within, zero_vector}
use Rattle.pbd_world.specs.Ledger.{ledger_of, HaveRoom}
use Rattle.pbd_shape.specs.Way.{all_shapes}
use Rattle.pbd_shape.proofs.Steps.{Pushing}
use Rattle.pbd_shape.proofs.shapes.Shapes.push_one_by_one.Given as goal

abbrev pub invariant-loop-j : goal.invariant-loop-j
invariant-loop-j g l = record {
  some : Pushing l.loaded.store.now.limit (all_shapes l.self) g.row.L l.loaded.block l.j l.places l.loaded.store.now.particles
      (ledger_of l.initial.totals) l.initial.touched (ledger_of l.totals) l.touched;
  whole : length l.places ≡ g.row.L;
  flags : length l.touched ≡ length l.initial.touched;
  inside : (k : ℕ) → k < l.j → Within (unsigned_abs l.loaded.store.now.limit) (get_or l.places k zero_vector);
  room : (n : ℕ) → HaveRoom n (ledger_of l.initial.totals) → HaveRoom (n + l.j * 2 ^ 31) (ledger_of l.totals);
}
