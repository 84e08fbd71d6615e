use Rattle.std.proofs.Common.{◌∙◌, sym, ap, length, refl}
use Rattle.pbd_world.specs.Lending.{overwritten_is}
use Rattle.pbd_colour.proofs.KeptLemmas.{AreBlocked-as}
use Rattle.pbd_colour.proofs.Marking.{none_blocked}
use Rattle.pbd_colour.proofs.marks.MarkedNumbers.forget.Goals as goal

pub invariant_of-self : goal.invariant_of-self
invariant_of-self c =
    let size = c.clear.auto.blocks ∙ ap length c.as_mut_slice.ensures.value in
    let none = rw (← c.self.view_is) at c.requires in (
      AreBlocked-as refl (sym (overwritten_is c.self.inside.blocks.entries c.clear.new.blocks size))
          (none_blocked c.self.inside.numbers.entries c.clear.new.blocks (size ∙ c.self.invariant.0.count) none),
      c.self.invariant.1,
    )

pub returns : goal.returns
returns c = c.self.view_is
