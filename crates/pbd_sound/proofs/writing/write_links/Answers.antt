use Rattle.std.proofs.Common.{arith}
use Rattle.pbd_world.specs.Bonds.{no_link}
use Rattle.pbd_sound.specs.Described.{link_told}
use Rattle.pbd_sound.proofs.Telling.{numbered_is}
use Rattle.pbd_sound.proofs.writing.write_links.Goals as goal

pub returns : goal.returns
returns g c =
    numbered_is (link_told (g.D.Described.seen c.args.described.now)) c.args.other.now c.loop-l.links no_link c.loop-l.invariant.whole
    (λ i lt. c.loop-l.invariant.done i (omega (arith, lt, c.loop-l-test.false)))
