use Rattle.std.proofs.Common.{◌∙◌, sym, arith, ◌≤◌, length}
use Rattle.pbd_session.proofs.Comparing.{found_here, none_left, passed_by}
use Rattle.pbd_session.proofs.replay.first_difference.Goals as goal

pub returns-then-differs : goal.returns-then-differs
returns-then-differs c = found_here c.args.compared.now c.loop-item.item-index _ c.loop-item-test.true c.loop-item.invariant
    (sym c.differs.ensures ∙ c.if-differs.true)

pub loop-item-preserved : goal.loop-item-preserved
loop-item-preserved c = passed_by c.args.compared.now c.loop-item.item-index _ c.loop-item-test.true c.loop-item.invariant
    (sym c.differs.ensures ∙ c.if-differs.false)

pub returns : goal.returns
returns c =
    let all : length c.args.compared.now ≤ c.loop-item.item-index = omega (arith, c.loop-item-test.false) in
    none_left c.args.compared.now c.loop-item.item-index all c.loop-item.invariant
