use Rattle.std.proofs.Common.{ℕ, length, take, get_or, sym, ◌∙◌, arith, subst}
use Rattle.std.proofs.lemmas.List.{take_more}
use Rattle.pbd_schedule.specs.declared.event.Event.TheVariants.{Read}
use Rattle.pbd_schedule.specs.Legal.{BeginsLegal, IsMisplaced}
use Rattle.pbd_schedule.proofs.Legality.{begins, misplaced}
use Rattle.pbd_schedule.proofs.check.first_misplaced.Goals as goal

pub returns-then-not-comes_next-clause-misplaced : goal.returns-then-not-comes_next-clause-misplaced
returns-then-not-comes_next-clause-misplaced c =
    let stages = c.loop-i.stages in
    let events = c.args.events.now in
    let i = c.loop-i.i in
    let inv = c.loop-i.invariant in
    let e = get_or events i (Read 0) in
    let one = take_more events i (Read 0) (omega arith) in
    subst (λ (m : ℕ). IsMisplaced m events i) inv.1 (record {
      within = omega arith;
      before = begins stages (take i events) inv.0;
      there = λ b. misplaced stages (take i events) inv.0 e (sym c.comes_next.ensures.test ∙ c.if-not-comes_next.true)
          (subst (BeginsLegal (length stages)) one b);
    })
