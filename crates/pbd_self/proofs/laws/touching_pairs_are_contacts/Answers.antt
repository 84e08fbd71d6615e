use Rattle.pbd_self.proofs.Finding.{touching_contacts}
use Rattle.pbd_self.proofs.laws.touching_pairs_are_contacts.Goals as goal

pub returns : goal.returns
returns c = touching_contacts
