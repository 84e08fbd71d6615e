use Rattle.pbd_obj.proofs.WriteLemmas.{decimals_next}
use Rattle.pbd_obj.proofs.writing.push_decimals.Goals as goal

pub loop-preserved : goal.loop-preserved
loop-preserved c = decimals_next c.args.n c.args.line.now c.loop.line c.push_bytes.new.self c.loop.rest c.loop.counter c.loop.invariant
    c.loop-test.true c.if-rest-eq0.false c.push_bytes.ensures
