use Rattle.pbd_laws.proofs.Counting.{steps-most, whole-session-most}
use Rattle.pbd_laws.proofs.costs.sessions_cost_a_sum_of_the_scene.Goals as goal

pub returns : goal.returns
returns c = record { steps = steps-most; session = whole-session-most }
