use Rattle.std.proofs.Common.{◌∙◌, ap, sym, subst, length, ◌<◌, List}
use Rattle.pbd_world.specs.declared.parts.Link.{Link}
use Rattle.pbd_world.specs.World.{World}
use Rattle.pbd_world.proofs.SameShape.{scene_links}
use Rattle.pbd_cloth.specs.Slots.{Slotted}
use Rattle.pbd_cloth.proofs.Slotting.{slot_is}
use Rattle.pbd_cloth.proofs.cloth.Cloth.gone_since.Goals as goal

pub write_gone-requires-clause-same : goal.write_gone-requires-clause-same
write_gone-requires-clause-same c =
    let one_scene = slot_is (record { world = c.self.inside.playing; slots = c.self.inside.kept.items }) _ c.index.result.now
    c.self.invariant (subst (λ (s : Slotted). c.args.slot < length s.slots) (sym c.self.view_is) c.requires) c.index.ensures in
    ap (λ (ls : List Link). length ls) c.links.ensures.value
    ∙ sym (scene_links c.self.inside.playing c.index.result.now one_scene)
    ∙ ap (λ (w : World). length w.links) (sym c.solver.ensures)
    ∙ ap (λ (ls : List Link). length ls) (sym c.links-2.ensures.value)
