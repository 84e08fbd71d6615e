use Rattle.pbd_world.proofs.WorkLemmas.{links_half}
use Rattle.pbd_world.proofs.laws.twice_the_lanes_halve_the_links.Goals as goal

pub returns : goal.returns
returns c = links_half
