use Rattle.std.proofs.Common.{◌≡◌, ◌^◌, pos, IsTrue, arith, refl}
use Rattle.pbd_world.specs.Shapes.{are_valid_shapes}
use Rattle.pbd_store.specs.Moving.{AreInside}
use Rattle.pbd_shape.specs.Valid.{lists_of}
use Rattle.pbd_tests_pairs.proofs.Drawn.{pushed}
use Rattle.pbd_tests_pairs.proofs.tests.shape.store_of.Goals as goal

pub open-requires : goal.open-requires
open-requires g c =
    let d = c.args.case.now in
    let may = pushed d.particles.now (lists_of d.shapes) c.requires in (omega arith, (may.few, refl))

pub returns-in-Ok : goal.returns-in-Ok
returns-in-Ok g c =
    let d = c.args.case.now in
    let may = pushed d.particles.now (lists_of d.shapes) c.requires in
    let same : c.in-Ok.store.particles ≡ d.particles.now = c.in-Ok.ensures.particles in
    let limit : c.in-Ok.store.limit ≡ pos (2 ^ 29) = c.in-Ok.ensures.limit in
    record {
      shapes = coe 1 0 (i. IsTrue (are_valid_shapes (limit i) (lists_of d.shapes))) may.valid;
      inside = coe 1 0 (i. AreInside (limit i) (same i)) may.inside;
    }
