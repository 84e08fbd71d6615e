use Rattle.std.proofs.Common.{◌≡◌, ◌∙◌, sym, List, length, subst}
use Rattle.std.specs.Prelude.{All}
use Rattle.pbd_obj.specs.declared.edges.Edge.{Edge}
use Rattle.pbd_obj.specs.Facing.{edges, IsEdgeOf}
use Rattle.pbd_obj.specs.Meshes.{faces}
use Rattle.pbd_obj.proofs.EdgeLemmas.{mesh_edges}
use Rattle.pbd_obj.proofs.settings.MeshSettings.add_bends.Goals as goal

pub add_facing-requires-clause-within : goal.add_facing-requires-clause-within
add_facing-requires-clause-within c =
    let slice : c.as_slice-2.result.now ≡ c.in_ok-edges.edges = (let a = c.as_slice-2.ensures in let b = c.edges.view_is in cc) in
    let are : c.as_slice-2.result.now ≡ edges (faces c.args.mesh.now) = slice ∙ c.in_ok-edges.ensures in
    subst (λ (es : List Edge). All (IsEdgeOf (length c.args.mesh.now.places)) es) (sym are) (mesh_edges c.args.mesh.now c.requires.mesh)
