use Rattle.std.proofs.Common.{◌≡◌, sym, ◌∙◌, arith}
use Rattle.pbd_cloth.specs.Reading.{joins_ends}
use Rattle.pbd_cloth.proofs.First.{first_at, first_none}
use Rattle.pbd_cloth.proofs.reads.find_between.Goals as goal

pub returns-then-joins : goal.returns-then-joins
returns-then-joins c = first_at (joins_ends c.args.a c.args.b) c.args.links.now c.loop-i.i _ c.loop-i.invariant (omega arith)
    (sym c.joins.ensures ∙ c.if-joins.true)

pub returns : goal.returns
returns c = first_none (joins_ends c.args.a c.args.b) c.args.links.now c.loop-i.i _ c.loop-i.invariant (omega arith)
