use Rattle.std.proofs.Common.{ap, ◌∙◌}
use Rattle.pbd_world.specs.World.{World}
use Rattle.pbd_cloth.specs.Slots.{Slotted}
use Rattle.pbd_cloth.proofs.Slotting.{slots_stay, refused_keeps}
use Rattle.pbd_cloth.proofs.cloth.Cloth.apply.Goals as goal

pub invariant_of-self : goal.invariant_of-self
invariant_of-self c = slots_stay c.self.inside.playing c.apply_counted.new.playing c.self.inside.kept.items c.self.invariant
    c.apply_counted.ensures.sound c.apply_counted.ensures.one_scene

pub returns-clause-kept : goal.returns-clause-kept
returns-clause-kept c = λ refused.
    let world = c.apply_counted.ensures.world ∙ refused_keeps c.refused_commands_change_nothing.ensures c.self.inside.playing
    c.args.command.now c.apply_counted.result c.apply_counted.ensures.reply refused in
    ap (λ (w : World). (let s : Slotted = record { world = w; slots = c.self.inside.kept.items } in s)) world ∙ c.self.view_is

pub returns-clause-sound : goal.returns-clause-sound
returns-clause-sound c = slots_stay c.self.inside.playing c.apply_counted.new.playing c.self.inside.kept.items c.self.invariant
    c.apply_counted.ensures.sound c.apply_counted.ensures.one_scene
