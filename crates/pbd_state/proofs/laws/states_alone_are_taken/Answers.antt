use Rattle.pbd_state.proofs.Lawful.{taken_state, refused_none}
use Rattle.pbd_state.proofs.laws.states_alone_are_taken.Goals as goal

pub returns : goal.returns
returns c = record { taken = taken_state; refused = refused_none }
