use Rattle.std.proofs.Common.{length}
use Rattle.pbd_step.specs.States.{world_of, HasLinks}
use Rattle.pbd_step.specs.Staying.{IsReady, StaysInStep}
use Rattle.pbd_step.proofs.Running.{Running, Handed}
use Rattle.pbd_step.proofs.Costing.{Spent}
use Rattle.pbd_step.proofs.state.Running.take_steps.Given as goal

-- the steps so far are done, and what they leave is as it was
abbrev pub invariant-loop-i : goal.invariant-loop-i
invariant-loop-i g l = record {
  running : Running l.n l.i (world_of l.setting l.initial.self.state) (world_of l.setting l.self.state);
  handed : Handed l.n l.i (world_of l.setting l.initial.self.state) (world_of l.setting l.self.state)
      (g.P.Projector.count l.initial.self.projector) (g.P.Projector.count l.self.projector);
  spent : Spent g.row.L (g.P.Projector.width l.initial.self.projector) l.n l.i (world_of l.setting l.initial.self.state)
      (world_of l.setting l.self.state) l.initial.steps l.steps;
  links : HasLinks (length l.initial.self.state.store.particles) l.self.state.links.items l.self.colours;
  stays : StaysInStep g.P.Projector.count g.P.Projector.width l.initial.self l.self;
  ready : IsReady l.setting l.self;
}
