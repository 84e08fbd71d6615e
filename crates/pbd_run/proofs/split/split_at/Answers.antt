use Rattle.std.proofs.Common.{◌∙◌, sym, arith}
use Rattle.std.proofs.lemmas.List.{length-take}
use Rattle.pbd_run.proofs.SplitLaws.{split_ends, split_found, next_short, walks}
use Rattle.pbd_run.proofs.split.split_at.Goals as goal

pub returns-then-is_line-clause-halves : goal.returns-then-is_line-clause-halves
returns-then-is_line-clause-halves c =
    split_ends c.args.word.now c.args.input.now c.loop-next.rest.now c.first_line.result.0.now c.loop-next.at c.loop-next.invariant.halves
    (rw c.in-None.is at c.first_line.ensures.lines) (sym c.is_line.ensures ∙ c.if-is_line.true)

pub returns-then-is_line-2-clause-halves : goal.returns-then-is_line-2-clause-halves
returns-then-is_line-2-clause-halves c =
    split_found c.args.word.now c.args.input.now c.loop-next.rest.now c.first_line.result.0.now c.in-Some.next.now c.loop-next.at
    c.loop-next.invariant.halves (rw c.in-Some.is at c.first_line.ensures.lines) (sym c.is_line-in-Some.ensures ∙ c.if-is_line-2.true)

pub loop-next-preserved : goal.loop-next-preserved
loop-next-preserved c =
    walks c.args.word.now c.args.input.now c.loop-next.rest.now c.first_line.result.0.now c.in-Some.next.now c.loop-next.at
    c.loop-next.invariant.rest c.loop-next.invariant.within c.loop-next.invariant.halves (rw c.in-Some.is at c.first_line.ensures.lines)
    (rw c.in-Some.is at c.first_line.ensures.bytes) (sym c.is_line-in-Some.ensures ∙ c.if-is_line-2.false)

pub returns-then-is_line-clause-first : goal.returns-then-is_line-clause-first
returns-then-is_line-clause-first c = omega (arith, length-take c.loop-next.at c.args.input.now)

pub returns-then-is_line-2-clause-first : goal.returns-then-is_line-2-clause-first
returns-then-is_line-2-clause-first c = omega (arith, length-take c.loop-next.at c.args.input.now)

pub returns-then-is_line-2-clause-second : goal.returns-then-is_line-2-clause-second
returns-then-is_line-2-clause-second c =
    next_short c.args.input.now c.loop-next.rest.now c.first_line.result.0.now c.in-Some.next.now c.loop-next.at c.loop-next.invariant.rest
    (rw c.in-Some.is at c.first_line.ensures.bytes)
