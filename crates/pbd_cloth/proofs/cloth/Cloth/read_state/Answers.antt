use Rattle.std.proofs.Common.{ap, ◌∙◌}
use Rattle.pbd_cloth.specs.Slots.{Slotted}
use Rattle.pbd_cloth.specs.States.{resumed}
use Rattle.pbd_cloth.proofs.Resuming.{resumed_so}
use Rattle.pbd_cloth.proofs.Slotting.{slots_stay}
use Rattle.pbd_cloth.proofs.cloth.Cloth.read_state.Goals as goal

pub invariant_of-self : goal.invariant_of-self
invariant_of-self c =
    let read = c.read_counted.ensures in
    slots_stay c.self.inside.playing c.read_counted.new.playing c.self.inside.kept.items c.self.invariant read.sound read.one_scene

pub returns-clause-cloth : goal.returns-clause-cloth
returns-clause-cloth c =
    let read = c.read_counted.ensures in
    let before : Slotted = record { world = c.self.inside.playing; slots = c.self.inside.kept.items } in
    resumed_so c.args.scene.now c.args.bytes.now before c.read_counted.new.playing c.read_counted.result read.value read.world read.kept
    ∙ ap (λ (s : Slotted). resumed c.args.scene.now s c.args.bytes.now) c.self.view_is

pub returns-clause-sound : goal.returns-clause-sound
returns-clause-sound c =
    let read = c.read_counted.ensures in
    slots_stay c.self.inside.playing c.read_counted.new.playing c.self.inside.kept.items c.self.invariant read.sound read.one_scene
