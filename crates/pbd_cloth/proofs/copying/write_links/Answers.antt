use Rattle.std.proofs.Common.{arith}
use Rattle.pbd_cloth.proofs.Writing.{mapped_none, mapped_next, mapped_end}
use Rattle.pbd_cloth.proofs.copying.write_links.Goals as goal

pub loop-i-init : goal.loop-i-init
loop-i-init g c = mapped_none g.R.Reading.value c.args.links.now c.args.into.now

pub loop-i-preserved : goal.loop-i-preserved
loop-i-preserved g c =
    mapped_next g.R.Reading.value c.args.links.now c.args.into.now c.loop-i.into c.loop-i.i _ c.of.result c.loop-i.invariant c.of.ensures
    (omega arith) (omega arith)

pub returns : goal.returns
returns g c = mapped_end g.R.Reading.value c.args.links.now c.args.into.now c.loop-i.into c.loop-i.i c.loop-i.invariant (omega arith)
