use Rattle.std.proofs.Common.{◌∙◌, ap, sym, arith}
use Rattle.pbd_world.specs.World.{World, unchanging}
use Rattle.pbd_cloth.proofs.Slotting.{slot_is}
use Rattle.pbd_cloth.proofs.cloth.keep.Goals as goal

pub keep-requires : goal.keep-requires
keep-requires c =
    let one_scene = sym (slot_is (record { world = c.args.playing.now; slots = c.args.kept.now.items }) _ c.index_mut.result.now
    c.requires.slots c.requires.within c.index_mut.ensures.value) ∙ ap (λ (w : World). unchanging w) (sym c.solver.ensures) in
    (omega arith, (omega arith, (omega arith, one_scene)))
