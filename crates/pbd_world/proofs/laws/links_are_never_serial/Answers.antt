use Rattle.pbd_world.proofs.BatchLemmas.{session-coloured, sound-coloured, sound-none_last}
use Rattle.pbd_world.proofs.laws.links_are_never_serial.Goals as goal

pub returns : goal.returns
returns c = record { coloured = sound-coloured; none_last = sound-none_last; ever = session-coloured }
