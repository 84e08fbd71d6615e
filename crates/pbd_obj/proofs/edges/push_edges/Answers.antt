use Rattle.std.proofs.Common.{length}
use Rattle.pbd_obj.specs.Facing.{edge}
use Rattle.pbd_obj.proofs.FaceByFace.{number_pushed}
use Rattle.pbd_obj.proofs.edges.push_edges.Goals as goal

pub loop-i-preserved : goal.loop-i-preserved
loop-i-preserved c = number_pushed (edge c.args.face.now)
    (length c.args.face.now) c.loop-i.i c.loop-i.edges c.push.new.self _ c.nth_edge.result
    c.loop-i.invariant c.loop-i-test.true c.nth_edge.ensures c.in_ok-push.ensures.ok
