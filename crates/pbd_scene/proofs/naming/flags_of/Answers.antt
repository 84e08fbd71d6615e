use Rattle.pbd_scene.proofs.Flagged.{no_flags_yet, flag_more, flags_all}
use Rattle.pbd_scene.proofs.naming.flags_of.Goals as goal

pub loop-i-init : goal.loop-i-init
loop-i-init c = no_flags_yet c.args.count c.args.names.now c.in_ok-flags.flags.items c.in_ok-flags.ensures

pub loop-i-preserved : goal.loop-i-preserved
loop-i-preserved c = flag_more c.args.count c.args.names.now c.loop-i.i-index _ c.loop-i.flags.items _ c.loop-i-test.true c.loop-i.invariant
    c.mark.ensures

pub returns : goal.returns
returns c = flags_all c.args.count c.args.names.now c.loop-i.i-index c.loop-i.flags.items c.loop-i-test.false c.loop-i.invariant
