use Rattle.pbd_num.proofs.VectorSizes.{sum_fits, plus_is, plus_within}
use Rattle.pbd_num.proofs.Vec3.plus.Goals as goal

pub overflow_add-result : goal.overflow_add-result
overflow_add-result c = sum_fits c.args.self.x c.args.other.x c.requires.first.x c.requires.second.x

pub overflow_add-result-2 : goal.overflow_add-result-2
overflow_add-result-2 c = sum_fits c.args.self.y c.args.other.y c.requires.first.y c.requires.second.y

pub overflow_add-result-3 : goal.overflow_add-result-3
overflow_add-result-3 c = sum_fits c.args.self.z c.args.other.z c.requires.first.z c.requires.second.z

pub returns-clause-value : goal.returns-clause-value
returns-clause-value c = plus_is c.args.self c.args.other c.requires.first c.requires.second

pub returns-clause-size : goal.returns-clause-size
returns-clause-size c = λ m n h k. rw (returns-clause-value c) (plus_within c.args.self c.args.other m n h k)
