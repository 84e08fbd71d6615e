use Rattle.std.proofs.Common.{length}
use Rattle.pbd_obj.specs.Triangles.{fan_triangle}
use Rattle.pbd_obj.proofs.FaceByFace.{number_pushed}
use Rattle.pbd_obj.proofs.triangles.push_fan.Goals as goal

pub loop-i-preserved : goal.loop-i-preserved
loop-i-preserved c = number_pushed (fan_triangle c.args.face.now)
    (length c.args.face.now) c.loop-i.i c.loop-i.triangles c.push.new.self _ c.fan_triangle.result
    c.loop-i.invariant c.loop-i-test.true c.fan_triangle.ensures c.in_ok-push.ensures.ok
