use Rattle.std.proofs.Common.{subst, IsTrue}
use Rattle.pbd_world.specs.Shapes.{are_valid_shapes}
use Rattle.pbd_world.specs.World.{World, parts_of}
use Rattle.pbd_world.proofs.WorldParts.{formed}
use Rattle.pbd_step.specs.States.{world_of}
use Rattle.pbd_step.proofs.views.Shown.shapes.Goals as goal

pub returns-clause-valid : goal.returns-clause-valid
returns-clause-valid g c =
    let w : World = world_of c.self.inside.setting.now c.self.inside.state.now in
    subst (λ (v : World). IsTrue (are_valid_shapes v.limit w.shapes)) c.self.view_is (formed (parts_of w) c.self.invariant.well_formed).shapes
