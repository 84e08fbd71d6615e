use Rattle.std.proofs.Common.{refl, ap, arith, false}
use Rattle.pbd_step.specs.Solving.{Solved}
use Rattle.pbd_step.specs.declared.state.State.{State}
use Rattle.pbd_step.specs.States.{world_of}
use Rattle.pbd_step.proofs.Mild.{sound_mild}
use Rattle.pbd_step.proofs.SoundRoom.{sound_room}
use Rattle.pbd_world.specs.declared.command.Command.TheVariants.{Pin}
use Rattle.pbd_step.proofs.Keeping.{seen_obeyed, kept_linked, none_laid}
use Rattle.pbd_step.proofs.solver.Solver.pin.Goals as goal

pub pin-requires : goal.pin-requires
pin-requires g c =
    let w = world_of c.self.inside.setting c.self.inside.run.state in
    let mild = sound_mild w c.self.invariant.sound in
    let room = sound_room w c.self.invariant.sound in
    (omega arith, (c.requires.lanes_high, (mild.at, (mild.before, (room, c.self.invariant.weights)))))

pub invariant_of-self : goal.invariant_of-self
invariant_of-self g c = kept_linked (Pin c.args.i) c.self.invariant (c.pin.ensures.obeys c.self.inside.setting) c.pin.ensures.weights
    (ap (λ (s : State g.row.L). s.links.items) c.pin.ensures.same) false none_laid

pub returns-clause-commanded : goal.returns-clause-commanded
returns-clause-commanded g c =
    seen_obeyed (Pin c.args.i) (c.pin.ensures.obeys c.self.inside.setting) c.self.invariant.sound c.self.view_is refl

pub returns-clause-copies : goal.returns-clause-copies
returns-clause-copies g c = omega (arith, c.pin.ensures.copies, ap (λ (s : Solved g.row.P.Denot). s.copies) c.self.view_is)
