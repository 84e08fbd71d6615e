use Rattle.pbd_num.proofs.Lengths.{axes_le_length}
use Rattle.pbd_num.proofs.laws.axes_are_within_the_length.Goals as goal

pub returns-clause-x : goal.returns-clause-x
returns-clause-x c v = (axes_le_length v).x

pub returns-clause-y : goal.returns-clause-y
returns-clause-y c v = (axes_le_length v).y

pub returns-clause-z : goal.returns-clause-z
returns-clause-z c v = (axes_le_length v).z
