use Rattle.pbd_world.proofs.WorkLemmas.{none_looked, none_found, none_projected}
use Rattle.pbd_world.proofs.laws.without_thickness_contacts_are_free.Goals as goal

pub returns : goal.returns
returns c = record { looked = none_looked; found = none_found; projected = none_projected }
