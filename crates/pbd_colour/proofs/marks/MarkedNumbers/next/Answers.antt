use Rattle.std.proofs.Common.{Bool, List, sym, ap, subst, length, arith}
use Rattle.pbd_colour.specs.Marked.{AreUnmarked}
use Rattle.pbd_colour.proofs.KeptLemmas.{AreBlocked-as}
use Rattle.pbd_colour.proofs.marks.MarkedNumbers.next.Goals as goal

pub next_marked-requires : goal.next_marked-requires
next_marked-requires c =
    let few = rw (← c.self.view_is) at c.requires.few in
    let from = rw (← c.self.view_is) at c.requires.from in
    record {
      few = omega (arith, few, ap length c.as_slice.ensures);
      from = omega (arith, from, ap length c.as_slice.ensures);
      blocked = AreBlocked-as (sym c.as_slice.ensures) (sym c.as_slice-2.ensures) c.self.invariant.0;
    }

pub returns-clause-below : goal.returns-clause-below
returns-clause-below c = rw (← c.self.view_is) (omega (arith, c.next_marked.ensures.below, ap length c.as_slice.ensures))

pub returns-clause-unmarked : goal.returns-clause-unmarked
returns-clause-unmarked c = rw (← c.self.view_is) (subst (λ (ms : List Bool). AreUnmarked ms c.args.from c.next_marked.result) c.as_slice.ensures
    c.next_marked.ensures.unmarked)
