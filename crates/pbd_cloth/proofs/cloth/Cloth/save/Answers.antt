use Rattle.std.proofs.Common.{◌∙◌, ap, List}
use Rattle.pbd_world.specs.World.{World}
use Rattle.pbd_cloth.specs.Slots.{Slotted, saved}
use Rattle.pbd_cloth.proofs.Slotting.{slots_saved}
use Rattle.pbd_cloth.proofs.cloth.Cloth.save.Goals as goal

pub invariant_of-self : goal.invariant_of-self
invariant_of-self c = slots_saved c.self.inside.playing c.self.inside.kept.items _ c.keep.new.kept.items c.self.invariant c.keep.ensures

pub returns-clause-cloth : goal.returns-clause-cloth
returns-clause-cloth c =
    ap (λ (ws : List World). (let s : Slotted = record { world = c.self.inside.playing; slots = ws } in s)) c.keep.ensures
    ∙ ap (λ (s : Slotted). saved s c.args.slot) c.self.view_is

pub returns-clause-sound : goal.returns-clause-sound
returns-clause-sound c = slots_saved c.self.inside.playing c.self.inside.kept.items _ c.keep.new.kept.items c.self.invariant c.keep.ensures
