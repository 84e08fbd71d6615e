-- What holds of each mesh that is read.
use Rattle.std.proofs.Common.{◌≡◌, ◌∙◌, sym, ap, refl, ℕ, suc, ◌+◌, ◌-◌, ◌*◌, ◌<◌, ◌≤◌, Bool, true, false, not, ◌&&◌, List, [], ◌∷◌, ◌++◌}
use Rattle.std.proofs.Common.{length, take, drop, Option, Some, None, Result, Ok, Err, nat_le, arith, length-append, pos}
use Rattle.std.specs.Prelude.{◌==◌, cond, All, IsTrue, IfOk, OnOk, sum, bytes_eq, codes, slice_index_or}
use Rattle.std.specs.List.{enumerate_from, slice_split, before_first, AllByRecursion}
use Rattle.std.specs.Option.{option_map, option_and_then}
use Rattle.std.specs.Str.Lines.{strip_carriage_return}
use Rattle.std.proofs.lemmas.Bool.{and_parts, leb-true}
use Rattle.std.proofs.lemmas.Bool.Decides.{nat_tests}
use Rattle.std.proofs.lemmas.List.{length-take, length-drop, take-append-le, drop-append-le, take_all}
use Rattle.std.proofs.lemmas.List.Elements.{All-push, All-weaker, All-nil, All-cons}
use Rattle.std.proofs.lemmas.List.Splits.{length-slice_split}
use Rattle.std.proofs.lemmas.List.Sums.{count_by-le-length, sum_by-cons, sum_by_push}
use Rattle.pbd_num.specs.declared.Vec3.{Vec3}
use Rattle.pbd_num.specs.Vectors.{is_within}
use Rattle.pbd_world.proofs.KeepingOn.{turn-keeps}
use Rattle.pbd_script.specs.Lines.{words, pieces, is_blank}
use Rattle.pbd_obj.specs.declared.mesh.ObjMesh.{ObjMesh}
use Rattle.pbd_obj.specs.declared.mesh.ObjFault.{ObjFault}
use Rattle.pbd_obj.specs.declared.mesh.ObjFault.TheVariants.{OutOfRange}
use Rattle.pbd_obj.specs.Decimals.{is_minus, short_count}
use Rattle.pbd_obj.specs.Meshes.{cut, faces, IsFace, IsMesh}
use Rattle.pbd_obj.specs.Reading.{corner, corners, kth_vertex, face, is_face, vertex, with_vertex, with_face, with_words, with_line}
use Rattle.pbd_obj.specs.Reading.{no_mesh, read, is_slash, without_minus, PushesFace}
use Rattle.pbd_obj.proofs.FaceLemmas.{once, face_none, face_some, face_size}
use Rattle.pbd_world.proofs.CountingOn.{filter_length}

-- ---- how many words and vertices

-- a line has at most one word more than bytes
pub words_few : (line : List ℕ) → length (words line) ≤ length line + 1
words_few line = omega (
  arith,
  filter_length (λ word. not (length word == 0)) (slice_split is_blank line),
  length-slice_split is_blank line,
  count_by-le-length is_blank line,
)

strip_few : (line : List ℕ) → length (strip_carriage_return line) ≤ length line
strip_few line = strip_case (slice_index_or line (length line - 1) 0 == 13) line
  where
    strip_case : (b : Bool) (line : List ℕ) → length (cond b (take (length line - 1) line) line) ≤ length line
    strip_case true line = omega (arith, length-take (length line - 1) line)
    strip_case false line = omega arith

ok_is : (a b : ObjMesh) → ◌≡◌ {A = Result ObjMesh ObjFault} (Ok a) (Ok b) → a ≡ b
ok_is a b is = cc

vertex_places : (n : ℕ) (mesh new : ObjMesh) (o : Option Vec3) → with_vertex n mesh o ≡ Ok new → length new.places ≤ length mesh.places + 1
vertex_places n mesh new None is = cc
vertex_places n mesh new (Some v) is = by_test (is_within (pos 536870912) v) is
  where
    by_test : (b : Bool) → ◌≡◌ {A = Result ObjMesh ObjFault}
        (cond b (Ok (record mesh { places = mesh.places ++ v ∷ [] })) (Err (OutOfRange n))) (Ok new)
        → length new.places ≤ length mesh.places + 1
    by_test true is = let e : record mesh { places = mesh.places ++ v ∷ [] } ≡ new = ok_is _ _ is in
        rw (← e) (omega (arith, length-append mesh.places (v ∷ [])))
    by_test false is = cc

face_places : (n : ℕ) (mesh new : ObjMesh) (o : Option (List ℕ)) → with_face n mesh o ≡ Ok new → new.places ≡ mesh.places
face_places n mesh new None is = cc
face_places n mesh new (Some f) is = let e = ok_is (record mesh { sizes = mesh.sizes ++ length f ∷ []; corners = mesh.corners ++ f }) new is
    in rw (← e) refl

-- a vertex has three words or more
vertex_words : (n : ℕ) (mesh new : ObjMesh) (ws : List (List ℕ)) → with_vertex n mesh (vertex ws) ≡ Ok new
    → 3 * length new.places ≤ 3 * length mesh.places + length ws
vertex_words n mesh new [] is = cc
vertex_words n mesh new (x ∷ []) is = cc
vertex_words n mesh new (x ∷ y ∷ []) is = cc
vertex_words n mesh new (x ∷ y ∷ z ∷ more) is =
    let le = vertex_places n mesh new (vertex (x ∷ y ∷ z ∷ more)) is in
    let size : length (x ∷ y ∷ z ∷ more) ≡ length more + 3 = omega arith in
    omega (arith, le, size)

words_case : (v f : Bool) (n : ℕ) (mesh new : ObjMesh) (ws : List (List ℕ))
    → cond v (with_vertex n mesh (vertex ws)) (cond f (with_face n mesh (face (length mesh.places) ws)) (Ok mesh)) ≡ Ok new
    → 3 * length new.places ≤ 3 * length mesh.places + length ws
words_case true f n mesh new ws is = vertex_words n mesh new ws is
words_case false true n mesh new ws is = let e = face_places n mesh new (face (length mesh.places) ws) is in rw e (omega arith)
words_case false false n mesh new ws is = let e = ok_is mesh new is in rw (← e) (omega arith)

words_exact : (n : ℕ) (mesh new : ObjMesh) (ws : List (List ℕ)) (bytes : ℕ) → length ws ≤ bytes + 1 → with_words n mesh ws ≡ Ok new
    → 3 * length new.places ≤ 3 * length mesh.places + bytes
words_exact n mesh new [] bytes le is = let e = ok_is mesh new is in rw (← e) (omega arith)
words_exact n mesh new (word ∷ ws) bytes le is =
    let few : length ws ≤ bytes = omega (arith, le) in
    omega (arith, few, words_case (bytes_eq word (codes "v")) (bytes_eq word (codes "f")) n mesh new ws is)

-- a line with a vertex has at least three bytes
pub line_places : (n : ℕ) (line : List ℕ) (mesh new : ObjMesh) → with_line (n, line) mesh ≡ Ok new
    → 3 * length new.places ≤ 3 * length mesh.places + length line
unfolding with_line
line_places n line mesh new is =
    words_exact n mesh new (words (strip_carriage_return line)) (length line)
    (omega (arith, words_few (strip_carriage_return line), strip_few line)) is

-- the same of a line that was added or not
pub line_few : (n : ℕ) (line : List ℕ) (mesh new : ObjMesh) (r : Result (Unit {0}) ObjFault) → OnOk r (with_line (n, line) mesh ≡ Ok new)
    → OnOk r (3 * length new.places ≤ 3 * length mesh.places + length line)
line_few n line mesh new (Ok u) is = line_places n line mesh new is
line_few n line mesh new (Err f) none = tt

-- what a line adds goes by its words, without its return
pub line_is : (n : ℕ) (line stripped : List ℕ) (mesh : ObjMesh) (ws : List (List ℕ)) → stripped ≡ strip_carriage_return line
    → words stripped ≡ ws → with_line (n, line) mesh ≡ with_words n mesh ws
unfolding with_line
line_is n line stripped mesh ws is are = ap (λ xs. with_words n mesh xs) (ap words (sym is) ∙ are)

-- ---- faces

kth_below : (n k c : ℕ) (m : Bool) → kth_vertex n m k ≡ Some c → c < n
kth_below n k c m is = by_test (nat_le 1 k && nat_le k n) m refl is
  where
    some_is : (a b : ℕ) → ◌≡◌ {A = Option ℕ} (Some a) (Some b) → a ≡ b
    some_is a b is = cc

    by_test : (b m : Bool) → (nat_le 1 k && nat_le k n) ≡ b → cond b (Some (cond m (n - k) (k - 1))) None ≡ Some c → c < n
    by_test true true t is = let p = and_parts (nat_le 1 k) (nat_le k n) t in omega (arith, leb-true 1 k p.0, leb-true k n p.1, some_is (n - k) c is)
    by_test true false t is = let p = and_parts (nat_le 1 k) (nat_le k n) t in omega (arith, leb-true 1 k p.0, leb-true k n p.1, some_is (k - 1) c is)
    by_test false m t is = cc

corner_below : (n : ℕ) (word : List ℕ) (c : ℕ) → corner n word ≡ Some c → c < n
unfolding corner
corner_below n word c is = by_count (short_count 9 (without_minus (before_first is_slash word))) (is_minus (before_first is_slash word)) is
  where
    by_count : (o : Option ℕ) (m : Bool) → option_and_then (λ k. kth_vertex n m k) o ≡ Some c → c < n
    by_count None m is = cc
    by_count (Some k) m is = kth_below n k c m is

corners_below : (n : ℕ) (ws : List (List ℕ)) (cs : List ℕ) → corners n ws ≡ Some cs → All (λ c. c < n) cs
corners_below n [] cs is = let e : [] ≡ cs = cc in rw (← e) (All-nil (λ c. c < n))
corners_below n (word ∷ ws) cs is = by_parts (corner n word) (corners n ws) refl is (corners_below n ws)
  where
    by_parts : (o : Option ℕ) (p : Option (List ℕ)) → corner n word ≡ o → option_and_then (λ c. option_map (λ cs. c ∷ cs) p) o ≡ Some cs
        → ((ds : List ℕ) → p ≡ Some ds → All (λ c. c < n) ds) → All (λ c. c < n) cs
    by_parts None p at is h = cc
    by_parts (Some c) None at is h = cc
    by_parts (Some c) (Some ds) at is h = let e : c ∷ ds ≡ cs = cc in
        rw (← e) (All-cons (λ c. c < n) c ds (corner_below n word c at) (h ds refl))

face_below : (n : ℕ) (ws : List (List ℕ)) (f : List ℕ) → face n ws ≡ Some f → IsFace n f
face_below n ws f is = by_corners (corners n ws) refl
  where
    three : (k : ℕ) → nat_le 3 k ≡ true → 3 ≤ k
    three k t = grind (arith, nat_tests)

    by_test : (b : Bool) (cs : List ℕ) → is_face cs ≡ b → corners n ws ≡ Some cs → cond b (Some cs) None ≡ Some f → IsFace n f
    by_test true cs t are is =
        let e : cs ≡ f = cc in
        let parts = and_parts (nat_le 3 (length cs)) (once cs) t in
        rw (← e) (record { size = three (length cs) parts.0; within = corners_below n ws cs are; once = parts.1 })
    by_test false cs t are is = cc

    by_corners : (o : Option (List ℕ)) → corners n ws ≡ o → IsFace n f
    by_corners None are = let none = face_none n ws are in cc
    by_corners (Some cs) are = by_test (is_face cs) cs refl are (sym (face_some n ws cs are) ∙ is)

-- ---- meshes

pub no_length : (xs : List ℕ) → 0 ≡ length xs → xs ≡ []
no_length [] is = refl
no_length (x ∷ xs) is = absurd (omega (arith, is))

-- one piece more
pub cut_push : (sizes corners f : List ℕ) → sum sizes ≡ length corners
    → cut (sizes ++ length f ∷ []) (corners ++ f) ≡ cut sizes corners ++ f ∷ []
cut_push [] corners f is = let e = no_length corners is in rw e (ap (λ t. t ∷ []) (take_all (length f) f (omega arith)))
cut_push (s ∷ sizes) corners f is =
    let all : s + sum sizes ≡ length corners = sym (sum_by-cons (λ x. x) s sizes) ∙ is in
    let le : s ≤ length corners = omega (arith, all) in
    let rest : sum sizes ≡ length (drop s corners) = omega (arith, all, length-drop s corners) in
    rw (take-append-le s corners f le, drop-append-le s corners f le)
    (ap (λ t. take s corners ∷ t) (cut_push sizes (drop s corners) f rest))

mesh_begins : IsMesh no_mesh
mesh_begins = record {
  inside = All-nil {X = Vec3} (λ place. IsTrue (is_within (pos 536870912) place));
  whole = refl;
  faces = All-nil {X = List ℕ} (λ face. IsFace 0 face);
}

mesh_vertex : (mesh : ObjMesh) (v : Vec3) → IsMesh mesh → is_within (pos 536870912) v ≡ true
    → IsMesh (record mesh { places = mesh.places ++ v ∷ [] })
mesh_vertex mesh v is t =
    let more : length (mesh.places ++ v ∷ []) ≡ suc (length mesh.places) = omega (arith, length-append mesh.places (v ∷ [])) in
    record {
      inside = All-push {X = Vec3} (λ place. IsTrue (is_within (pos 536870912) place)) mesh.places v is.inside t;
      whole = is.whole;
      faces = All-weaker {X = List ℕ} (λ face. IsFace (length mesh.places) face) (λ face. IsFace (length (mesh.places ++ v ∷ [])) face)
          (λ face h. record {
            size = h.size;
            within = All-weaker (λ corner. corner < length mesh.places) (λ corner. corner < length (mesh.places ++ v ∷ []))
                (λ corner lt. omega (arith, lt, more)) face h.within;
            once = h.once;
          }) (faces mesh) is.faces;
    }

mesh_face : (mesh : ObjMesh) (f : List ℕ) → IsMesh mesh → IsFace (length mesh.places) f
    → IsMesh (record mesh { sizes = mesh.sizes ++ length f ∷ []; corners = mesh.corners ++ f })
mesh_face mesh f is h = record {
  inside = is.inside;
  whole = sum_by_push (λ x. x) mesh.sizes (length f) ∙ (ap (λ n. n + length f) is.whole ∙ sym (length-append mesh.corners f));
  faces = rw (cut_push mesh.sizes mesh.corners f is.whole)
      (All-push {X = List ℕ} (λ face. IsFace (length mesh.places) face) (faces mesh) f is.faces h);
}

vertex_kept : (n : ℕ) (mesh : ObjMesh) (o : Option Vec3) → IsMesh mesh → IfOk (with_vertex n mesh o) IsMesh
vertex_kept n mesh None is = tt
vertex_kept n mesh (Some v) is = by_test (is_within (pos 536870912) v) refl
  where
    by_test : (b : Bool) → is_within (pos 536870912) v ≡ b
        → IfOk {T = ObjMesh} {E = ObjFault} (cond b (Ok (record mesh { places = mesh.places ++ v ∷ [] })) (Err (OutOfRange n))) IsMesh
    by_test true t = mesh_vertex mesh v is t
    by_test false t = tt

face_kept : (n : ℕ) (mesh : ObjMesh) (o : Option (List ℕ)) → ((f : List ℕ) → o ≡ Some f → IsFace (length mesh.places) f) → IsMesh mesh
    → IfOk (with_face n mesh o) IsMesh
face_kept n mesh None h is = tt
face_kept n mesh (Some f) h is = mesh_face mesh f is (h f refl)

words_kept : (v f : Bool) (n : ℕ) (mesh : ObjMesh) (ws : List (List ℕ)) → IsMesh mesh
    → IfOk (cond v (with_vertex n mesh (vertex ws)) (cond f (with_face n mesh (face (length mesh.places) ws)) (Ok mesh))) IsMesh
words_kept true f n mesh ws is = vertex_kept n mesh (vertex ws) is
words_kept false true n mesh ws is = face_kept n mesh (face (length mesh.places) ws) (λ f e. face_below (length mesh.places) ws f e) is
words_kept false false n mesh ws is = is

line_words_kept : (n : ℕ) (mesh : ObjMesh) (ws : List (List ℕ)) → IsMesh mesh → IfOk (with_words n mesh ws) IsMesh
line_words_kept n mesh [] is = is
line_words_kept n mesh (word ∷ ws) is = words_kept (bytes_eq word (codes "v")) (bytes_eq word (codes "f")) n mesh ws is

line_kept : (line : ℕ × List ℕ) (mesh : ObjMesh) → IsMesh mesh → IfOk (with_line line mesh) IsMesh
unfolding with_line
line_kept line mesh is = line_words_kept line.0 mesh (words (strip_carriage_return line.1)) is

each : {A : Type 0} (xs : List A) → AllByRecursion (λ _. Unit {0}) xs
each [] = tt
each (x ∷ xs) = (tt, each xs)

pub read_is_mesh : (text : List ℕ) (mesh : ObjMesh) → read text ≡ Ok mesh → IsMesh mesh
unfolding read
read_is_mesh text mesh is =
    let kept = turn-keeps {A = ℕ × List ℕ} {S = ObjMesh} {E = ObjFault} IsMesh (λ _. Unit {0}) with_line (λ line m _ h. line_kept line m h)
    (enumerate_from 1 (pieces text)) (each (enumerate_from 1 (pieces text))) no_mesh mesh_begins in
    rw is at kept

-- ---- sizes

-- the corners that were pushed are no more than the words
pub pushed_few : (n : ℕ) (rest old new : List ℕ) (is : Bool) → PushesFace (face n (words rest)) old new is → is ≡ true
    → length new ≤ length old + length rest + 1
pushed_few n rest old new true (f, are, pushed) t = omega
    (arith, length_of old new f pushed, face_size n (words rest) f are, words_few rest)
  where
    length_of : (old new f : List ℕ) → new ≡ old ++ f → length new ≡ length old + length f
    length_of old new f is = rw is (length-append old f)
pushed_few n rest old new false h t = cc
