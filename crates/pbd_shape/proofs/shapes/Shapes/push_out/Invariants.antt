use Rattle.std.proofs.Common.{◌≡◌, ℕ, ◌+◌, ◌*◌, ◌^◌, ◌≤◌, min, length}
use Rattle.pbd_world.specs.Ledger.{ledger_of, HaveRoom}
use Rattle.pbd_store.specs.Moving.{motion_of, fixed_parts, AreInside}
use Rattle.pbd_shape.specs.Way.{all_shapes}
use Rattle.pbd_shape.specs.Shaping.{all_pushed, pushed_from}
use Rattle.pbd_shape.proofs.shapes.Shapes.push_out.Given as goal

-- what is left of the shape part makes the whole
abbrev pub invariant-loop-block : goal.invariant-loop-block
invariant-loop-block g l = record {
  rest : pushed_from l.fn.store.limit (all_shapes l.self) (l.block * g.row.L)
      (record { motion = motion_of l.work.store.now l.work.totals.now; touched = l.touched })
      ≡ all_pushed l.fn.store.limit (all_shapes l.self) (record {
        motion = motion_of l.fn.store l.fn.totals;
        touched = l.initial.touched;
      });
  limit : l.work.store.now.limit ≡ l.fn.store.limit;
  copies : l.work.store.now.copies ≡ l.fn.store.copies;
  fixed : fixed_parts l.work.store.now.particles ≡ fixed_parts l.fn.store.particles;
  flags : length l.touched ≡ length l.initial.touched;
  inside : AreInside l.fn.store.limit l.work.store.now.particles;
  room : (n : ℕ) → HaveRoom n (ledger_of l.fn.totals)
      → HaveRoom (n + min (l.block * g.row.L) (length l.fn.store.particles) * 2 ^ 31) (ledger_of l.work.totals.now);
  cost : l.work.steps.now ≤ l.fn.steps + 2 * l.block;
  store : l.work.store.ghost_name ≡ l.initial.work.store.ghost_name;
  totals : l.work.totals.ghost_name ≡ l.initial.work.totals.ghost_name;
  steps : l.work.steps.ghost_name ≡ l.initial.work.steps.ghost_name;
}
