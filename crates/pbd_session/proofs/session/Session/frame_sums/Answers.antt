use Rattle.std.proofs.Common.{◌+◌, ◌∙◌, ap, length}
use Rattle.pbd_world.specs.World.{World}
use Rattle.pbd_session.proofs.session.Session.frame_sums.Goals as goal

pub returns-clause-cost : goal.returns-clause-cost
returns-clause-cost g c = c.summed-sums.ensures.cost ∙ ap (λ (w : World). c.args.steps.now + length w.particles) c.solver-solver.ensures
