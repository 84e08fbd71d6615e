use Rattle.std.proofs.Common.{◌≡◌, ◌∙◌, Bool, List, set, false, sym, ap, length, refl, arith}
use Rattle.pbd_world.specs.Lending.{overwritten}
use Rattle.pbd_colour.proofs.KeptLemmas.{written, AreBlocked-as}
use Rattle.pbd_colour.proofs.Marking.{AreBlocked-less, marks_in}
use Rattle.pbd_colour.proofs.marks.MarkedNumbers.unmark.Goals as goal

marks_are : (c : goal.After-self-1) → overwritten c.self.inside.numbers.entries c.take_mark.new.marks
    ≡ set c.self.inside.numbers.entries c.args.k false
marks_are c = (written c.take_mark.new.marks c.take_mark.auto.marks c.as_mut_slice.ensures.value refl).is ∙ c.take_mark.ensures
    ∙ ap (λ (ms : List Bool). set ms c.args.k false) c.as_mut_slice.ensures.value

pub take_mark-requires : goal.take_mark-requires
take_mark-requires c = let k = rw (← c.self.view_is) at c.requires in omega (arith, k, ap length c.as_mut_slice.ensures.value)

pub invariant_of-self : goal.invariant_of-self
invariant_of-self c = (AreBlocked-as (sym (marks_are c)) refl (AreBlocked-less c.self.invariant.0 c.args.k), c.self.invariant.1)

pub returns : goal.returns
returns c = rw (← c.self.view_is) (ap (marks_in c.self.inside.numbers.room) (marks_are c))
