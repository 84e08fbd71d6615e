use Rattle.std.proofs.Common.{◌∙◌, ap, sym, subst, length, ◌<◌}
use Rattle.pbd_cloth.specs.Slots.{Slotted, restored}
use Rattle.pbd_cloth.proofs.Slotting.{is_restored, slot_is}
use Rattle.pbd_cloth.proofs.cloth.Cloth.restore.Goals as goal

pub go_back-requires : goal.go_back-requires
go_back-requires c = slot_is (record { world = c.self.inside.playing; slots = c.self.inside.kept.items }) _ c.index.result.now
    c.self.invariant (subst (λ (s : Slotted). c.args.slot < length s.slots) (sym c.self.view_is) c.requires) c.index.ensures

pub invariant_of-self : goal.invariant_of-self
invariant_of-self c = (is_restored (record { world = c.self.inside.playing; slots = c.self.inside.kept.items }) c.args.slot
    c.go_back.new.playing c.index.result.now c.self.invariant
    (subst (λ (s : Slotted). c.args.slot < length s.slots) (sym c.self.view_is) c.requires) c.index.ensures c.go_back.ensures.world
    c.go_back.ensures.sound).fit

pub returns-clause-cloth : goal.returns-clause-cloth
returns-clause-cloth c = (is_restored (record { world = c.self.inside.playing; slots = c.self.inside.kept.items }) c.args.slot
    c.go_back.new.playing c.index.result.now c.self.invariant
    (subst (λ (s : Slotted). c.args.slot < length s.slots) (sym c.self.view_is) c.requires) c.index.ensures c.go_back.ensures.world
    c.go_back.ensures.sound).seen
    ∙ ap (λ (s : Slotted). restored s c.args.slot) c.self.view_is

pub returns-clause-sound : goal.returns-clause-sound
returns-clause-sound c = (is_restored (record { world = c.self.inside.playing; slots = c.self.inside.kept.items }) c.args.slot
    c.go_back.new.playing c.index.result.now c.self.invariant
    (subst (λ (s : Slotted). c.args.slot < length s.slots) (sym c.self.view_is) c.requires) c.index.ensures c.go_back.ensures.world
    c.go_back.ensures.sound).fit
