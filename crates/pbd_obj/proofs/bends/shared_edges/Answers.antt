use Rattle.pbd_obj.proofs.SharedLemmas.{shared_none}
use Rattle.pbd_obj.proofs.bends.shared_edges.Goals as goal

pub loop-edge-init : goal.loop-edge-init
loop-edge-init c = shared_none c.new-shared.result c.new-shared.ensures.empty
