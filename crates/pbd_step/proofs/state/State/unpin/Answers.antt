use Rattle.std.proofs.Common.{sym, ap}
use Rattle.pbd_world.specs.Particles.{effective_weight}
use Rattle.pbd_step.proofs.Weighing.{weights_set}
use Rattle.pbd_step.proofs.state.State.unpin.Goals as goal

pub returns-clause-weights : goal.returns-clause-weights
returns-clause-weights g c =
    weights_set c.args.self.now.store.particles c.in-Some.n c.in-Some.p.weight c.resting.result c.requires.weights
    (sym (ap effective_weight c.resting.ensures)) c.set.ensures.particles
