use Rattle.std.proofs.Common.{arith}
use Rattle.pbd_step.proofs.Dropping.{flags_are}
use Rattle.pbd_step.proofs.again.are_live_by.Goals as goal

pub returns : goal.returns
returns c = λ _. flags_are c.args.flags.now c.args.links.now c.requires
    (λ k lt. c.loop-i.invariant k (omega (arith, lt, c.loop-i.auto.i-end)))
