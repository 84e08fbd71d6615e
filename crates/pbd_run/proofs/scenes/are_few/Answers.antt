use Rattle.std.proofs.Common.{arith, length}
use Rattle.pbd_outcome.specs.Split.{scenes}
use Rattle.pbd_run.proofs.HostingLaws.{some_scene, too_many}
use Rattle.pbd_run.proofs.scenes.are_few.Goals as goal

pub returns : goal.returns
returns c = too_many (length (scenes c.args.text.now)) (omega (arith, c.loop.invariant, c.loop-test.false, some_scene c.loop.rest.now))
