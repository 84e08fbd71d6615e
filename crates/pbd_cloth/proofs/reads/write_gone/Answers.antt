use Rattle.std.proofs.Common.{arith, length}
use Rattle.pbd_cloth.specs.Reading.{has_gone, gone_numbers}
use Rattle.pbd_cloth.proofs.Writing.{written_none, written_next, written_all}
use Rattle.pbd_cloth.proofs.reads.write_gone.Goals as goal

pub loop-i-init : goal.loop-i-init
loop-i-init c = written_none (has_gone c.args.earlier.now c.args.later.now) c.args.into.now

pub loop-i-preserved : goal.loop-i-preserved
loop-i-preserved c = written_next (has_gone c.args.earlier.now c.args.later.now) c.loop-i.i c.args.into.now c.loop-i.count c.loop-i.into
    c.has_gone-wanted.result _ _ c.loop-i.invariant c.has_gone-wanted.ensures c.write_if-count.ensures.place
    c.write_if-count.ensures.written

pub returns-clause-count : goal.returns-clause-count
unfolding gone_numbers
returns-clause-count c = (written_all (has_gone c.args.earlier.now c.args.later.now) c.loop-i.i
    (length c.args.later.now) c.args.into.now c.loop-i.count c.loop-i.into (omega arith) c.loop-i.invariant).count

pub returns-clause-written : goal.returns-clause-written
unfolding gone_numbers
returns-clause-written c = (written_all (has_gone c.args.earlier.now c.args.later.now) c.loop-i.i
    (length c.args.later.now) c.args.into.now c.loop-i.count c.loop-i.into (omega arith) c.loop-i.invariant).written
