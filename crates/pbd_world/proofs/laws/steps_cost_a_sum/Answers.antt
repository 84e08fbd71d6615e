use Rattle.pbd_world.proofs.WorkLemmas.{step_few}
use Rattle.pbd_world.proofs.laws.steps_cost_a_sum.Goals as goal

pub returns : goal.returns
returns c = step_few
