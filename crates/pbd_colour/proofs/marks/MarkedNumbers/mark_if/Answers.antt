use Rattle.std.proofs.Common.{◌∙◌, ◌||◌, Bool, List, set, sym, ap, length, refl, arith}
use Rattle.pbd_world.specs.Colours.{live_at}
use Rattle.pbd_colour.proofs.KeptLemmas.{written, AreBlocked-as}
use Rattle.pbd_colour.proofs.Marking.{marks_in}
use Rattle.pbd_colour.proofs.marks.MarkedNumbers.mark_if.Goals as goal

pub mark_both-requires : goal.mark_both-requires
mark_both-requires c =
    let k = rw (← c.self.view_is) at c.requires in
    record {
      k = omega (arith, k, ap length c.as_mut_slice.ensures.value);
      blocked = AreBlocked-as (sym c.as_mut_slice.ensures.value) (sym c.as_mut_slice-2.ensures.value) c.self.invariant.0;
    }

pub invariant_of-self : goal.invariant_of-self
invariant_of-self c =
    let numbers = written c.mark_both.new.marks c.mark_both.auto.marks c.as_mut_slice.ensures.value refl in
    let blocks = written c.mark_both.new.blocks c.mark_both.auto.blocks c.as_mut_slice-2.ensures.value refl in
    (AreBlocked-as (sym numbers.is) (sym blocks.is) c.mark_both.ensures.blocked, c.self.invariant.1)

pub returns : goal.returns
returns c = rw (← c.self.view_is) (ap (marks_in c.self.inside.numbers.room)
    ((written c.mark_both.new.marks c.mark_both.auto.marks c.as_mut_slice.ensures.value refl).is ∙ c.mark_both.ensures.marks
    ∙ ap (λ (ms : List Bool). set ms c.args.k (live_at ms c.args.k || c.args.is_met)) c.as_mut_slice.ensures.value))
