-- The lines of a frame as OBJ text.
use Rattle.std.proofs.Common.{◌≡◌, ◌∙◌, sym, refl, subst, ℕ, ◌+◌, ◌-◌, ◌<◌, ◌≤◌, ◌^◌, List, [], ◌∷◌, ◌++◌, length, get_or, take, drop}
use Rattle.std.proofs.Common.{arith, append_assoc, Option}
use Rattle.std.specs.Prelude.{All, sum}
use Rattle.std.specs.Io.KnownBytes.{Appends}
use Rattle.std.specs.List.{flat_map}
use Rattle.std.proofs.lemmas.List.{drop_more, length-drop}
use Rattle.std.proofs.lemmas.List.Sums.{sum_by-cons}
use Rattle.std.proofs.lemmas.List.Elements.{All-head, All-tail, All-weaker}
use Rattle.pbd_io.specs.Pieces.{AppendsPrefix}
use Rattle.pbd_io.specs.Appending.{appends_nothing, appends_then, prefix_longer, prefix_then}
use Rattle.pbd_world.specs.Text.{header_line}
use Rattle.pbd_world.specs.World.{World}
use Rattle.pbd_obj.specs.declared.mesh.ObjMesh.{ObjMesh}
use Rattle.pbd_obj.specs.Meshes.{IsFace, cut, faces}
use Rattle.pbd_obj.specs.Writing.{face_line}
use Rattle.pbd_outcome.specs.ObjText.{comment, obj_frame, particle_line}
use Rattle.pbd_run.specs.Calls.{IsDrawable}

pub frame_is : (base : ℕ) (mesh : ObjMesh) (w : World) → obj_frame base mesh w ≡ (comment ++ header_line w)
    ++ (flat_map particle_line w.particles ++ flat_map (face_line base) (faces mesh))
unfolding obj_frame
frame_is base mesh w = refl

-- ---- one piece for each item

-- ---- faces

-- the corners of a face have numbers of 32 bits behind `base` particles
abbrev pub AreSmall : ℕ → List ℕ → Type 0
AreSmall base face = All (λ corner. base + corner ≤ 2 ^ 32 - 2) face

-- The lines of the faces so far are written, and those of the corners that are left make the whole.
pub record FacesWritten (base : ℕ) (mesh : ObjMesh) (sizes corners : List ℕ) (old now : Option (List ℕ)) : Type 0 where
  pub done : List ℕ
  pub bytes : Appends old now done
  pub text : done ++ flat_map (face_line base) (cut sizes corners) ≡ flat_map (face_line base) (faces mesh)
  pub small : All {X = List ℕ} (AreSmall base) (cut sizes corners)
  pub whole : sum sizes ≡ length corners

small_face : (base : ℕ) (mesh : ObjMesh) (face : List ℕ) → base + length mesh.places < 2 ^ 31 → IsFace (length mesh.places) face
    → AreSmall base face
small_face base mesh face few is = All-weaker (λ corner. corner < length mesh.places) (λ corner. base + corner ≤ 2 ^ 32 - 2)
    (λ corner lt. omega (arith, few, lt)) face is.within

pub faces_begin : (base : ℕ) (mesh : ObjMesh) (old : Option (List ℕ)) → IsDrawable base mesh
    → FacesWritten base mesh mesh.sizes mesh.corners old old
faces_begin base mesh old is = record {
  done = [];
  bytes = appends_nothing old;
  text = refl;
  small = All-weaker {X = List ℕ} (λ face. IsFace (length mesh.places) face) (AreSmall base) (λ face h. small_face base mesh face is.few h)
      (faces mesh) is.is_mesh.faces;
  whole = is.is_mesh.whole;
}

pub faces_begin_at : (base : ℕ) (mesh : ObjMesh) (sizes corners : List ℕ) (old : Option (List ℕ)) → sizes ≡ mesh.sizes
    → corners ≡ mesh.corners → IsDrawable base mesh → FacesWritten base mesh sizes corners old old
faces_begin_at base mesh sizes corners old sizes_are corners_are is = rw (sizes_are, corners_are) (faces_begin base mesh old is)

at_size : (base : ℕ) (mesh : ObjMesh) (sizes : List ℕ) (i : ℕ) (corners : List ℕ) (old now : Option (List ℕ))
    → FacesWritten base mesh (drop i sizes) corners old now → i < length sizes
    → FacesWritten base mesh (get_or sizes i 0 ∷ drop (i + 1) sizes) corners old now
at_size base mesh sizes i corners old now so_far lt = subst (λ (left : List ℕ). FacesWritten base mesh left corners old now)
    (drop_more sizes i 0 lt) so_far

pub face_small : (base : ℕ) (mesh : ObjMesh) (sizes : List ℕ) (i : ℕ) (corners face : List ℕ) (old now : Option (List ℕ))
    → FacesWritten base mesh (drop i sizes) corners old now → i < length sizes → face ≡ take (get_or sizes i 0) corners → AreSmall base face
face_small base mesh sizes i corners face old now so_far lt is =
    let here = at_size base mesh sizes i corners old now so_far lt in
    subst (λ (f : List ℕ). AreSmall base f) (sym is) (All-head {X = List ℕ} (AreSmall base) (take (get_or sizes i 0) corners)
    (cut (drop (i + 1) sizes) (drop (get_or sizes i 0) corners)) here.small)

pub faces_next : (base : ℕ) (mesh : ObjMesh) (sizes : List ℕ) (i : ℕ) (corners face behind : List ℕ) (old mid now : Option (List ℕ))
    → FacesWritten base mesh (drop i sizes) corners old mid → i < length sizes → face ≡ take (get_or sizes i 0) corners
    → behind ≡ drop (get_or sizes i 0) corners → Appends mid now (face_line base face)
    → FacesWritten base mesh (drop (i + 1) sizes) behind old now
faces_next base mesh sizes i corners face behind old mid now so_far lt front back wrote =
    let here = at_size base mesh sizes i corners old mid so_far lt in
    let s = get_or sizes i 0 in
    let wrote_that : Appends mid now (face_line base (take s corners)) = rw front at wrote in
    let all : s + sum (drop (i + 1) sizes) ≡ length corners = sym (sum_by-cons (λ x. x) s (drop (i + 1) sizes)) ∙ here.whole in
    rw back (record {
      done = here.done ++ face_line base (take s corners);
      bytes = appends_then _ _ _ _ _ here.bytes wrote_that;
      text = append_assoc here.done (face_line base (take s corners))
          (flat_map (face_line base) (cut (drop (i + 1) sizes) (drop s corners))) ∙ here.text;
      small = All-tail {X = List ℕ} (AreSmall base) (take s corners) (cut (drop (i + 1) sizes) (drop s corners)) here.small;
      whole = omega (arith, all, length-drop s corners);
    })

pub faces_fail : (base : ℕ) (mesh : ObjMesh) (sizes : List ℕ) (i : ℕ) (corners face : List ℕ) (old mid now : Option (List ℕ))
    → FacesWritten base mesh (drop i sizes) corners old mid → i < length sizes → face ≡ take (get_or sizes i 0) corners
    → AppendsPrefix mid now (face_line base face) → AppendsPrefix old now (flat_map (face_line base) (faces mesh))
faces_fail base mesh sizes i corners face old mid now so_far lt front wrote =
    let here = at_size base mesh sizes i corners old mid so_far lt in
    let s = get_or sizes i 0 in
    let wrote_that : AppendsPrefix mid now (face_line base (take s corners)) = rw front at wrote in
    rw (← here.text) (prefix_then _ _ _ here.done _ here.bytes
    (prefix_longer _ _ (face_line base (take s corners))
    (flat_map (face_line base) (cut (drop (i + 1) sizes) (drop s corners))) wrote_that))
