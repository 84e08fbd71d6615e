use Rattle.pbd_num.proofs.VectorSizes.{minus_is, minus_within}
use Rattle.pbd_num.proofs.Vec3.minus.Goals as goal

pub returns-clause-value : goal.returns-clause-value
returns-clause-value c = minus_is c.args.self c.args.other c.requires.first c.requires.second

pub returns-clause-size : goal.returns-clause-size
returns-clause-size c = λ m n h k. rw (returns-clause-value c) (minus_within c.args.self c.args.other m n h k)
