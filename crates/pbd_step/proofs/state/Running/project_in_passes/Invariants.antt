use Rattle.std.proofs.Common.{◌≡◌, ◌+◌, ◌-◌, ◌*◌, ◌^◌, ◌≤◌, min, length}
use Rattle.pbd_world.specs.Outcomes.{repeated}
use Rattle.pbd_world.specs.Step.{pass}
use Rattle.pbd_world.specs.Work.{pass_work}
use Rattle.pbd_world.specs.World.{live_count}
use Rattle.pbd_step.specs.States.{world_of, IsUnderWay}
use Rattle.pbd_step.specs.Staying.{AreBondsLaid, IsGoing, StaysInPass, passing_of}
use Rattle.pbd_step.proofs.state.Running.project_in_passes.Given as goal

abbrev pub invariant-loop : goal.invariant-loop
invariant-loop g l = record {
  within : l.counter ≤ l.setting.passes;
  stays : StaysInPass g.P.Projector.count g.P.Projector.width l.initial.self l.self;
  under_way : IsUnderWay (2 ^ 100 + l.counter * 2 ^ 62) (world_of l.setting l.self.state);
  rest : repeated (l.setting.passes - l.counter) (pass (world_of l.setting l.initial.self.state) l.initial.self.scratch.found.pairs)
      (passing_of l.self)
      ≡ repeated l.setting.passes (pass (world_of l.setting l.initial.self.state) l.initial.self.scratch.found.pairs)
      (passing_of l.initial.self);
  cost : l.steps ≤ l.initial.steps + l.counter * pass_work g.row.L (g.P.Projector.width l.initial.self.projector)
      (world_of l.setting l.initial.self.state) l.initial.self.scratch.found.pairs;
  handed : g.P.Projector.count l.self.projector ≡ min (g.P.Projector.count l.initial.self.projector + l.counter
      * (live_count l.initial.self.state.links.items + length l.initial.self.scratch.found.pairs)) (2 ^ 64 - 1);
  going : IsGoing (2 ^ 118) l.setting l.self;
  laid : AreBondsLaid l.setting.thickness l.self.state l.self.scratch;
}
