use Rattle.std.proofs.Common.{sym, ap, arith, ◌^◌, subst}
use Rattle.pbd_num.specs.Vectors.{Within}
use Rattle.pbd_world.specs.declared.parts.Particle.{Particle}
use Rattle.pbd_world.specs.declared.totals.Class.TheVariants as classes
use Rattle.pbd_world.specs.Ledger.{ledger_of}
use Rattle.pbd_world.specs.Particles.{effective_weight}
use Rattle.pbd_step.proofs.Weighing.{weights_set}
use Rattle.pbd_step.proofs.state.State.pin.Goals as goal

pub lost-requires-clause-at : goal.lost-requires-clause-at
lost-requires-clause-at g c = subst (λ (p : Particle). Within (2 ^ 29) p.at) (sym c.in-Some.ensures.particle)
    (c.requires.at c.args.i c.in-Some.ensures.there.1)

pub lost-requires-clause-before : goal.lost-requires-clause-before
lost-requires-clause-before g c = subst (λ (p : Particle). Within (2 ^ 29) p.before) (sym c.in-Some.ensures.particle)
    (c.requires.before c.args.i c.in-Some.ensures.there.1)

pub add-requires : goal.add-requires
add-requires g c = c.totals_with_room_take_moves.ensures.fits (ledger_of c.args.self.now.totals) classes.Pin c.lost.result (2 ^ 99) (2 ^ 30)
    c.requires.room c.lost.ensures.size (omega arith)

pub returns-clause-weights : goal.returns-clause-weights
returns-clause-weights g c =
    weights_set c.args.self.now.store.particles c.in-Some.n 0 c.resting.result c.requires.weights
    (sym (ap effective_weight c.resting.ensures)) c.set.ensures.particles
