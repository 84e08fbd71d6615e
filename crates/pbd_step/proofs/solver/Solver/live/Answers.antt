use Rattle.std.proofs.Common.{ap, ◌∙◌, List, Bool}
use Rattle.std.specs.Prelude.{count_by}
use Rattle.pbd_world.specs.World.{live_count}
use Rattle.pbd_step.specs.Solving.{Solved}
use Rattle.pbd_step.proofs.Keeping.{flags_count}
use Rattle.pbd_step.proofs.solver.Solver.live.Goals as goal

pub returns : goal.returns
returns g c =
    c.live_count.ensures ∙ ap (λ (flags : List Bool). count_by (λ b. b) flags) c.self.invariant.links.live
    ∙ flags_count c.self.inside.run.state.links.items
    ∙ ap (λ (s : Solved g.row.P.Denot). live_count s.world.links) c.self.view_is
