use Rattle.pbd_state.proofs.Lawful.{worlds_differ}
use Rattle.pbd_state.proofs.laws.sound_worlds_differ.Goals as goal

pub returns : goal.returns
returns c = worlds_differ
