use Rattle.pbd_host.proofs.ApartLaws.{unchanged}
use Rattle.pbd_host.proofs.laws.a_line_changes_its_own_world_alone.Goals as goal

pub returns : goal.returns
returns c = unchanged
