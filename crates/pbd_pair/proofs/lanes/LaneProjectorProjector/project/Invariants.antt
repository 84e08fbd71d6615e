use Rattle.std.proofs.Common.{◌≡◌, ℕ, ◌+◌, ◌-◌, ◌*◌, ◌^◌, ◌≤◌, length}
use Rattle.pbd_world.specs.Ledger.{ledger_of, HaveRoom}
use Rattle.pbd_world.specs.Bonds.{projected}
use Rattle.pbd_store.specs.Blocks.{blocks_of}
use Rattle.pbd_store.specs.Moving.{motion_of, fixed_parts, AreInside, Weigh}
use Rattle.pbd_pair.specs.Bonds.{bond_of, IsBound}
use Rattle.pbd_pair.specs.Laid.{SuitIf}
use Rattle.pbd_pair.specs.Projecting.{IsBatch}
use Rattle.pbd_pair.proofs.lanes.LaneProjectorProjector.project.Given as goal

abbrev pub invariant-steps_on : goal.invariant-steps_on
invariant-steps_on g l = record {
  bound : IsBound l.store.limit;
  batch : IsBatch l.store.limit (length l.store.particles) l.bonds l.rest;
  laid : SuitIf l.columns (bond_of l.bonds) l.rest l.store.particles;
  inside : AreInside l.store.limit l.store.particles;
  weights : Weigh l.store.particles;
  room : HaveRoom (2 ^ 120 + (length l.initial.rest - length l.rest) * 2 ^ 32) (ledger_of l.totals);
  grows : (n : ℕ) → HaveRoom n (ledger_of l.initial.totals)
      → HaveRoom (n + (length l.initial.rest - length l.rest) * 2 ^ 32) (ledger_of l.totals);
  shorter : length l.rest ≤ length l.initial.rest;
  same : projected l.store.limit (bond_of l.bonds) l.rest (motion_of l.store l.totals)
      ≡ projected l.initial.store.limit (bond_of l.bonds) l.initial.rest
      (motion_of l.initial.store l.initial.totals);
  limit : l.store.limit ≡ l.initial.store.limit;
  copies : l.store.copies ≡ l.initial.store.copies;
  fixed : fixed_parts l.store.particles ≡ fixed_parts l.initial.store.particles;
  counted : l.self.count ≡ l.initial.self.count;
  cost : l.steps + 4 * blocks_of (length l.rest) g.row.L ≤ l.initial.steps + 4 * blocks_of (length l.initial.rest) g.row.L;
}

abbrev pub decreases-steps_on : goal.decreases-steps_on
decreases-steps_on g l = length l.rest
