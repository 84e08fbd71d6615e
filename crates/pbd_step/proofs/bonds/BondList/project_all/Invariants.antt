use Rattle.std.proofs.Common.{◌≡◌, ◌+◌, ◌≤◌}
use Rattle.pbd_world.specs.Colours.{order}
use Rattle.pbd_world.specs.Work.{bonds_work}
use Rattle.pbd_store.specs.Moving.{motion_of}
use Rattle.pbd_pair.specs.Bonds.{bond_of}
use Rattle.pbd_pair.specs.Laid.{AreOfBatch}
use Rattle.pbd_step.proofs.Costing.{batches_work}
use Rattle.pbd_step.proofs.InOrder.{left_at, SoFar}
use Rattle.pbd_step.proofs.bonds.BondList.project_all.Given as goal

abbrev pub invariant-loop-k : goal.invariant-loop-k
invariant-loop-k g l = record {
  so_far : SoFar l.initial.store.limit (bond_of l.self.bonds) (order l.self.colours.now.pairs l.self.colours.now.live)
      (left_at l.self.colours.now.pairs l.self.colours.now.live l.k) (motion_of l.initial.store l.initial.totals)
      (motion_of l.store l.totals) (g.P.Projector.count l.initial.projector) (g.P.Projector.count l.projector);
  laid : AreOfBatch (bond_of l.self.bonds) (left_at l.self.colours.now.pairs l.self.colours.now.live l.k) l.store.particles l.rest;
  limit : l.store.limit ≡ l.initial.store.limit;
  copies : l.store.copies ≡ l.initial.store.copies;
  width : g.P.Projector.width l.projector ≡ g.P.Projector.width l.initial.projector;
  cost : l.steps + batches_work (g.P.Projector.width l.initial.projector) l.self.colours.now.pairs l.self.colours.now.live l.k
      ≤ l.initial.steps + bonds_work (g.P.Projector.width l.initial.projector) l.self.colours.now.pairs l.self.colours.now.live;
}
