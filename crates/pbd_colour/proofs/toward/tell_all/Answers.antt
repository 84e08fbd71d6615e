use Rattle.pbd_colour.proofs.Telling.{AreFirstTold-more, AreFirstTold-all}
use Rattle.pbd_colour.proofs.toward.tell_all.Goals as goal

pub loop-i-preserved : goal.loop-i-preserved
loop-i-preserved c = AreFirstTold-more c.args.pairs.now c.loop-i.sets c.mark.new.used c.mark-in-loop-i.new.used c.loop-i.i
    c.mark.ensures.has c.mark-in-loop-i.ensures.has c.loop-i.invariant c.mark-in-loop-i.ensures.small

pub returns : goal.returns
returns c = AreFirstTold-all c.args.pairs.now c.loop-i.sets c.loop-i.i c.loop-i-test.false c.loop-i.invariant
