-- A mesh line by line.
use Rattle.std.proofs.Common.{◌≡◌, ◌∙◌, sym, ap, refl, ℕ, suc, ◌+◌, ◌<◌, ◌≤◌, min, Bool, true, false, ◌&&◌, List, [], ◌∷◌, ◌++◌, Option}
use Rattle.std.proofs.Common.{Some, None, Result, Ok, Err, arith, ℤ, pos, negsuc, neg_ℤ}
use Rattle.std.specs.List.{enumerate_from}
use Rattle.std.specs.Option.{option_map}
use Rattle.std.proofs.lemmas.Bool.{and_parts}
use Rattle.std.proofs.lemmas.Bool.Decides.{nat_tests}
use Rattle.std.proofs.lemmas.Int.{ints}
use Rattle.pbd_num.specs.declared.Vec3.{Vec3}
use Rattle.pbd_num.specs.Vectors.{is_axis_within, is_within}
use Rattle.pbd_world.specs.Outcomes.{in_turn}
use Rattle.pbd_script.specs.Lines.{pieces}
use Rattle.pbd_obj.specs.declared.mesh.ObjMesh.{ObjMesh}
use Rattle.pbd_obj.specs.declared.mesh.ObjFault.{ObjFault}
use Rattle.pbd_obj.specs.declared.mesh.ObjFault.TheVariants.{OutOfRange}
use Rattle.pbd_obj.specs.Sizes.{capped, capped_axes}
use Rattle.pbd_obj.specs.Reading.{with_vertex, with_line, no_mesh, read}

-- ---- vertices

abbrev range : ℤ
range = pos 536870912

-- a number that is capped is in range exactly where it was, and is then the same
axis_near : (z : ℤ) → is_axis_within range (capped z) ≡ true → capped z ≡ z
axis_near (pos n) t = let le : min n 536870913 ≤ 536870912 = within_size (min n 536870913) t in ap (λ k. pos k) (omega (arith, le))
  where
    within_size : (k : ℕ) → is_axis_within range (pos k) ≡ true → k ≤ 536870912
    within_size k t = grind (arith, ints, nat_tests)
axis_near (negsuc n) t = let le : min (n + 1) 536870913 ≤ 536870912 = within_size (min (n + 1) 536870913) t in
    ap (λ k. neg_ℤ (pos k)) (omega (arith, le)) ∙ next n
  where
    within_size : (k : ℕ) → is_axis_within range (neg_ℤ (pos k)) ≡ true → k ≤ 536870912
    within_size k t = grind (arith, ints, nat_tests)

    next : (n : ℕ) → neg_ℤ (pos (n + 1)) ≡ negsuc n
    next n = let e : n + 1 ≡ suc n = omega arith in rw e refl

axis_kept : (z : ℤ) → is_axis_within range z ≡ true → is_axis_within range (capped z) ≡ true
axis_kept (pos n) t = let le : n ≤ 536870912 = within_size n t in let e : min n 536870913 ≡ n = omega (arith, le) in rw e t
  where
    within_size : (k : ℕ) → is_axis_within range (pos k) ≡ true → k ≤ 536870912
    within_size k t = grind (arith, ints, nat_tests)
axis_kept (negsuc n) t = let le : n < 536870912 = within_size n t in let e : min (n + 1) 536870913 ≡ suc n = omega (arith, le) in rw e t
  where
    within_size : (k : ℕ) → is_axis_within range (negsuc k) ≡ true → k < 536870912
    within_size k t = grind (arith, ints, nat_tests)

axes_near : (v : Vec3) → is_within range (capped_axes v) ≡ true → capped_axes v ≡ v
axes_near v t =
    let xy = and_parts (is_axis_within range (capped v.x) && is_axis_within range (capped v.y)) (is_axis_within range (capped v.z)) t in
    let x = and_parts (is_axis_within range (capped v.x)) (is_axis_within range (capped v.y)) xy.0 in
    rw (axis_near v.x x.0, axis_near v.y x.1, axis_near v.z xy.1) refl

axes_kept : (v : Vec3) → is_within range v ≡ true → is_within range (capped_axes v) ≡ true
axes_kept v t =
    let xy = and_parts (is_axis_within range v.x && is_axis_within range v.y) (is_axis_within range v.z) t in
    let x = and_parts (is_axis_within range v.x) (is_axis_within range v.y) xy.0 in
    rw (axis_kept v.x x.0, axis_kept v.y x.1, axis_kept v.z xy.1) refl

axes_far : (v : Vec3) → is_within range (capped_axes v) ≡ false → is_within range v ≡ false
axes_far v t = far_case (is_within range v) refl t
  where
    far_case : (b : Bool) → is_within range v ≡ b → is_within range (capped_axes v) ≡ false → b ≡ false
    far_case true is t = let kept = axes_kept v is in cc
    far_case false is t = refl

far_some : (line : ℕ) (mesh : ObjMesh) (v : Vec3) → is_within range v ≡ false → with_vertex line mesh (Some v) ≡ Err (OutOfRange line)
far_some line mesh v t = rw t refl

near_some : (line : ℕ) (mesh : ObjMesh) (v : Vec3) → is_within range v ≡ true
    → with_vertex line mesh (Some v) ≡ Ok (record mesh { places = mesh.places ++ v ∷ [] })
near_some line mesh v t = rw t refl

pub vertex_far : (line : ℕ) (mesh : ObjMesh) (o : Option Vec3) (place : Vec3) → Some place ≡ option_map capped_axes o
    → is_within range place ≡ false → with_vertex line mesh o ≡ Err (OutOfRange line)
vertex_far line mesh None place is t = cc
vertex_far line mesh (Some v) place is t =
    let e : place ≡ capped_axes v = cc in
    far_some line mesh v (axes_far v (ap (is_within range) (sym e) ∙ t))

pub vertex_near : (line : ℕ) (mesh : ObjMesh) (o : Option Vec3) (place : Vec3) → Some place ≡ option_map capped_axes o
    → is_within range place ≡ true → with_vertex line mesh o ≡ Ok (record mesh { places = mesh.places ++ place ∷ [] })
vertex_near line mesh None place is t = cc
vertex_near line mesh (Some v) place is t =
    let e : place ≡ capped_axes v = cc in
    let same : place ≡ v = e ∙ axes_near v (ap (is_within range) (sym e) ∙ t) in
    rw same (near_some line mesh v (ap (is_within range) (sym same) ∙ t))

-- ---- lines

-- lines numbered from n, after which the mesh is this so far
abbrev pub reads_on : ℕ → ObjMesh → List ℕ → Result ObjMesh ObjFault
reads_on n mesh rest = in_turn {A = ℕ × List ℕ} with_line (enumerate_from n (pieces rest)) mesh

pub read_begins : (text : List ℕ) → reads_on 1 no_mesh text ≡ read text
unfolding read
read_begins text = refl

pub read_ends : (n : ℕ) (mesh now : ObjMesh) (rest line : List ℕ) → pieces rest ≡ line ∷ [] → with_line (n, line) mesh ≡ Ok now
    → reads_on n mesh rest ≡ Ok now
read_ends n mesh now rest line are is = rw (are, is) refl

pub read_next : (n : ℕ) (mesh now : ObjMesh) (rest line next : List ℕ) → pieces rest ≡ line ∷ pieces next
    → with_line (n, line) mesh ≡ Ok now → reads_on n mesh rest ≡ reads_on (n + 1) now next
read_next n mesh now rest line next are is = rw (are, is) refl
