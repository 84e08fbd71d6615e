use Rattle.pbd_world.proofs.ContactLemmas.{contacts-only, contacts-all, contacts-in_order}
use Rattle.pbd_world.proofs.laws.contacts_are_the_touching_pairs.Goals as goal

pub returns : goal.returns
returns c = record { only = contacts-only; each = contacts-all; in_order = contacts-in_order }
