use Rattle.std.proofs.Common.{◌≡◌, true, None, length}
use Rattle.std.specs.Prelude.{◌==◌, position, sum}
use Rattle.pbd_obj.specs.Arrays.{is_no_face, is_outside}
use Rattle.pbd_obj.specs.Meshes.{cut}
use Rattle.pbd_obj.proofs.ArrayLemmas.{mesh_is}
use Rattle.pbd_obj.proofs.arrays.mesh_of.Goals as goal

pub returns-clause-mesh : goal.returns-clause-mesh
returns-clause-mesh c =
    let whole : true ≡ (sum c.args.sizes.now == length c.args.corners.now) =
    (let a = c.if-not-are_together.false in let b = c.are_together.ensures in cc) in
    let inside : None ≡ position is_outside c.args.places.now = (let a = c.in_default.is in let b = c.first_outside.ensures in cc) in
    let good : None ≡ position (is_no_face (length c.args.places.now)) (cut c.args.sizes.now c.args.corners.now) =
    (let a = c.in_default-2.is in let b = c.in_ok-face.ensures in cc) in
    let places = c.in_ok-copied.ensures in
    let sizes = c.in_ok-copied-2.ensures in
    let corners = c.in_ok-copied-3.ensures in
    mesh_is c.args.places.now c.args.sizes.now c.args.corners.now _ whole inside good
    (let a = places in let b = sizes in let d = corners in cc)
