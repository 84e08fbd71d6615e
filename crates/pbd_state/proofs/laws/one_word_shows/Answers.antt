use Rattle.std.proofs.Common.{ap}
use Rattle.pbd_state.specs.Checksum.{checksum}
use Rattle.pbd_state.proofs.Folding.{word_of_world_shows}
use Rattle.pbd_state.proofs.laws.one_word_shows.Goals as goal

pub returns : goal.returns
returns c = record { shows = word_of_world_shows; equal = λ v w e. ap checksum e }
