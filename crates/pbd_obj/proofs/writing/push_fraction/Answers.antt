use Rattle.pbd_obj.proofs.WriteLemmas.{fraction_none, fraction_some}
use Rattle.pbd_obj.proofs.writing.push_fraction.Goals as goal

pub returns-then-n-gt0-clause-bytes : goal.returns-then-n-gt0-clause-bytes
returns-then-n-gt0-clause-bytes c = fraction_some c.args.line.now c.push.new.self c.push_decimals.new.line c.args.n c.if-n-gt0.true
    c.push.ensures c.push_decimals.ensures.bytes

pub returns-else-n-gt0-clause-bytes : goal.returns-else-n-gt0-clause-bytes
returns-else-n-gt0-clause-bytes c = fraction_none c.args.line.now c.args.n c.if-n-gt0.false
