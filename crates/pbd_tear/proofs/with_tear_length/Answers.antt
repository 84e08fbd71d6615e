use Rattle.std.proofs.Common.{refl, arith}
use Rattle.pbd_tear.specs.Tearing.{numbers_with_tear_length}
use Rattle.pbd_tear.proofs.Numbers.{passed_none, listed_more, has_tear_length, with_tear_length_all, list_is}
use Rattle.pbd_tear.proofs.with_tear_length.Goals as goal

pub loop-i-init : goal.loop-i-init
loop-i-init c = rw c.clear.ensures (record { so_far = passed_none has_tear_length c.args.links.now; few = omega arith; room = refl })

pub loop-i-preserved : goal.loop-i-preserved
loop-i-preserved c = listed_more has_tear_length c.args.links.now c.loop-i.i _ c.has_tear_length.result _ c.loop-i.out c.push_if.new.out
    c.loop-i-test.true c.has_tear_length.ensures c.push_if.ensures c.loop-i.invariant

pub returns : goal.returns
returns c = list_is c.loop-i.out c.args.out.now (numbers_with_tear_length c.args.links.now)
    (with_tear_length_all c.args.links.now c.loop-i.i c.loop-i.out.entries c.loop-i-test.false c.loop-i.invariant.so_far)
    c.loop-i.invariant.room
