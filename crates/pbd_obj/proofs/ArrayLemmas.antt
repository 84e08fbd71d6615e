-- Arrays that are a mesh, face by face.
use Rattle.std.proofs.Common.{◌≡◌, ◌∙◌, sym, ap, refl, ℕ, ◌+◌, ◌-◌, ◌<◌, ◌≤◌, Bool, true, false, not, ◌&&◌, List, [], ◌∷◌, ◌++◌, length}
use Rattle.std.proofs.Common.{get_or, take, drop, arith, inl, inr, length-drop, Some, None, Ok, nat_le, pos}
use Rattle.std.specs.Prelude.{◌==◌, cond, nat_lt, sum, position, IsTrue}
use Rattle.std.specs.List.{list_all, position_from, AllByRecursion}
use Rattle.std.specs.Ordering.{nat_cmp}
use Rattle.std.specs.BTreeMap.{is_at}
use Rattle.std.specs.BTreeSet.{BTreeSet, contains}
use Rattle.std.proofs.lemmas.Bool.{and_parts, and_from, and_left, and_right, eqb-true, cases_eq, eq-eqb, ne_eqb, le-ltb, lt-ltb, leb-true}
use Rattle.std.proofs.lemmas.Bool.{ltb-true, not-true}
use Rattle.std.proofs.lemmas.Iterator.Adapters.{position_from-zero}
use Rattle.std.proofs.lemmas.List.{drop_all, drop_more, take-append-drop, take_all, take_more}
use Rattle.std.proofs.lemmas.List.Elements.{All-from_recursion}
use Rattle.std.proofs.lemmas.List.Folds.{list_all-append}
use Rattle.std.proofs.lemmas.List.Sums.{sum_by-append, sum_by-cons, sum_by-take-drop}
use Rattle.pbd_num.specs.declared.Vec3.{Vec3}
use Rattle.pbd_num.specs.Vectors.{is_within}
use Rattle.pbd_world.specs.Neighbours.{is_among}
use Rattle.pbd_obj.specs.declared.mesh.ObjMesh.{ObjMesh}
use Rattle.pbd_obj.specs.declared.arrays.ArraysFault.TheVariants.{BadCount, BadFace, OutOfRange}
use Rattle.pbd_obj.specs.Arrays.{is_face_of, is_no_face, is_outside, mesh_of, IsArraysFault}
use Rattle.pbd_obj.specs.Meshes.{cut, IsFace, IsMesh}
use Rattle.pbd_obj.specs.Reading.{is_face}
use Rattle.pbd_obj.proofs.FaceLemmas.{marked_more, once, once_push, once_twice}

-- ---- how many corners there are together

-- what is left of so many corners after some sizes
pub left_next : (sizes : List ℕ) (i d left corners : ℕ) → left + sum (take i sizes) ≡ corners → i < length sizes → get_or sizes i d ≤ left
    → (left - get_or sizes i d) + sum (take (i + 1) sizes) ≡ corners
left_next sizes i d left corners so_far lt le =
    let size = get_or sizes i d in
    let last : sum (size ∷ []) ≡ size + 0 = sum_by-cons (λ x. x) size [] in
    let more : sum (take (i + 1) sizes) ≡ sum (take i sizes) + sum (size ∷ []) = ap sum (take_more sizes i d lt)
    ∙ sum_by-append (λ x. x) (take i sizes) (size ∷ []) in
    omega (arith, more, last, so_far, le)

pub left_short : (sizes : List ℕ) (i d left corners : ℕ) → left + sum (take i sizes) ≡ corners → i < length sizes → left < get_or sizes i d
    → (sum sizes == corners) ≡ false
left_short sizes i d left corners so_far lt short =
    let more : sum (take i sizes) + sum (drop i sizes) ≡ sum sizes = sum_by-take-drop (λ x. x) sizes i in
    let next : sum (drop i sizes) ≡ get_or sizes i d + sum (drop (i + 1) sizes) = ap sum (drop_more sizes i d lt)
    ∙ sum_by-cons (λ x. x) (get_or sizes i d) (drop (i + 1) sizes) in
    ne_eqb (sum sizes) corners (λ e. omega (arith, e, more, next, short, so_far))

pub left_end : (sizes : List ℕ) (i left corners : ℕ) → left + sum (take i sizes) ≡ corners → length sizes ≤ i
    → (left == 0) ≡ (sum sizes == corners)
left_end sizes i left corners so_far le =
    let all : sum (take i sizes) ≡ sum sizes = ap sum (take_all i sizes le) in
    elim (cases_eq left 0) [
      | inl e ↦ eq-eqb left 0 e ∙ sym (eq-eqb (sum sizes) corners (omega (arith, e, all, so_far)))
      | inr n ↦ ne_eqb left 0 n ∙ sym (ne_eqb (sum sizes) corners (λ e. n (omega (arith, e, all, so_far))))
    ]

-- ---- whether corners are a face

-- the corners so far are vertices, and none twice
pub record CornersSoFar (n : ℕ) (face : List ℕ) (i : ℕ) (marks : BTreeSet ℕ) : Type 0 where
  pub within : list_all (λ corner. nat_lt corner n) (take i face) ≡ true
  pub once : once (take i face) ≡ true
  pub marked : (q : ℕ) → contains nat_cmp marks q ≡ is_among q (take i face)

pub corners_begin : (n : ℕ) (face : List ℕ) (marks : BTreeSet ℕ) → marks.keys ≡ [] → CornersSoFar n face 0 marks
corners_begin n [] marks none = record { within = refl; once = refl; marked = λ q. rw none refl }
corners_begin n (c ∷ face) marks none = record { within = refl; once = refl; marked = λ q. rw none refl }

pub corners_next : (n : ℕ) (face : List ℕ) (i c d : ℕ) (marks next : BTreeSet ℕ) → CornersSoFar n face i marks → i < length face
    → c ≡ get_or face i d → c < n → true ≡ not (contains nat_cmp marks c)
    → ((q : ℕ) → contains nat_cmp next q ≡ cond (is_at (nat_cmp c) q) true (contains nat_cmp marks q)) → CornersSoFar n face (i + 1) next
corners_next n face i c d marks next so_far lt same within new grown =
    let taken : take (i + 1) face ≡ take i face ++ c ∷ [] = take_more face i d lt ∙ ap (λ x. take i face ++ x ∷ []) (sym same) in
    let absent : is_among c (take i face) ≡ false = sym (so_far.marked c) ∙ not-true (contains nat_cmp marks c) (sym new) in
    record {
      within = ap (list_all (λ corner. nat_lt corner n)) taken
          ∙ (list_all-append (λ corner. nat_lt corner n) (take i face) (c ∷ [])
          ∙ and_from (list_all (λ corner. nat_lt corner n) (take i face)) (nat_lt c n && true) so_far.within
          (and_from (nat_lt c n) true (lt-ltb c n within) refl));
      once = ap once taken ∙ once_push (take i face) c so_far.once absent;
      marked = λ q. marked_more (take i face) c marks next so_far.marked grown q ∙ ap (is_among q) (sym taken);
    }

-- around corner i
parts_of : (face : List ℕ) (i c d : ℕ) → i < length face → c ≡ get_or face i d → face ≡ take i face ++ c ∷ drop (i + 1) face
parts_of face i c d lt same = sym (take-append-drop i face)
    ∙ ap (λ t. take i face ++ t) (drop_more face i d lt ∙ ap (λ x. x ∷ drop (i + 1) face) (sym same))

pub corner_outside : (n : ℕ) (face : List ℕ) (i c d : ℕ) → i < length face → c ≡ get_or face i d → n ≤ c → is_face_of n face ≡ false
corner_outside n face i c d lt same out =
    let here : (nat_lt c n && list_all (λ corner. nat_lt corner n) (drop (i + 1) face))
    ≡ false = and_left (nat_lt c n) (list_all (λ corner. nat_lt corner n) (drop (i + 1) face)) (le-ltb c n out) in
    let no : list_all (λ corner. nat_lt corner n) face ≡ false =
    ap (list_all (λ corner. nat_lt corner n)) (parts_of face i c d lt same)
    ∙ (list_all-append (λ corner. nat_lt corner n) (take i face) (c ∷ drop (i + 1) face)
    ∙ and_right (list_all (λ corner. nat_lt corner n) (take i face))
    (nat_lt c n && list_all (λ corner. nat_lt corner n) (drop (i + 1) face)) here) in
    and_left (list_all (λ corner. nat_lt corner n) face) (is_face face) no

pub corner_again : (n : ℕ) (face : List ℕ) (i c d : ℕ) (marks : BTreeSet ℕ) → CornersSoFar n face i marks → i < length face
    → c ≡ get_or face i d → false ≡ not (contains nat_cmp marks c) → is_face_of n face ≡ false
corner_again n face i c d marks so_far lt same again =
    let among : is_among c (take i face) ≡ true = sym (so_far.marked c) ∙ twice (contains nat_cmp marks c) again in
    let no : once face ≡ false = ap once (parts_of face i c d lt same) ∙ once_twice (take i face) c (drop (i + 1) face) among in
    and_right (list_all (λ corner. nat_lt corner n) face) (is_face face) (and_right (nat_le 3 (length face)) (once face) no)
  where
    twice : (b : Bool) → false ≡ not b → b ≡ true
    twice true is = refl
    twice false is = is

pub corners_end : (n : ℕ) (face : List ℕ) (i : ℕ) (marks : BTreeSet ℕ) → CornersSoFar n face i marks → length face ≤ i
    → nat_le 3 (length face) ≡ is_face_of n face
corners_end n face i marks so_far le =
    let within : list_all (λ corner. nat_lt corner n) face ≡ true = sym (ap (list_all (λ corner. nat_lt corner n)) (take_all i face le))
    ∙ so_far.within in
    let single : once face ≡ true = sym (ap once (take_all i face le)) ∙ so_far.once in
    rw (within, single) (plain (nat_le 3 (length face)))
  where
    plain : (b : Bool) → b ≡ (true && (b && true))
    plain true = refl
    plain false = refl

-- ---- face by face

-- the faces so far are faces, and these corners are left
pub record GoodSoFar (n : ℕ) (sizes corners : List ℕ) (i : ℕ) (rest : List ℕ) : Type 0 where
  pub left : position_from (is_no_face n) i (cut (drop i sizes) rest) ≡ position (is_no_face n) (cut sizes corners)
  pub whole : sum (drop i sizes) ≡ length rest

pub good_begin : (n : ℕ) (sizes corners : List ℕ) → sum sizes ≡ length corners → GoodSoFar n sizes corners 0 corners
good_begin n sizes corners whole = record {
  left = ap (λ ss. position_from (is_no_face n) 0 (cut ss corners)) (from_zero sizes)
      ∙ sym (position_from-zero (is_no_face n) (cut sizes corners));
  whole = ap sum (from_zero sizes) ∙ whole;
}
  where
    from_zero : (xs : List ℕ) → drop 0 xs ≡ xs
    from_zero [] = refl
    from_zero (x ∷ xs) = refl

at_face : (n : ℕ) (sizes corners : List ℕ) (i : ℕ) (rest face : List ℕ) → GoodSoFar n sizes corners i rest → i < length sizes
    → face ≡ take (get_or sizes i 0) rest → position (is_no_face n) (cut sizes corners)
    ≡ cond (is_no_face n face) (Some i) (position_from (is_no_face n) (i + 1) (cut (drop (i + 1) sizes) (drop (get_or sizes i 0) rest)))
at_face n sizes corners i rest face so_far lt front =
    sym so_far.left
    ∙ (ap (λ ss. position_from (is_no_face n) i (cut ss rest)) (drop_more sizes i 0 lt)
    ∙ ap (λ f. cond (is_no_face n f) (Some i) (position_from (is_no_face n) (i + 1)
    (cut (drop (i + 1) sizes) (drop (get_or sizes i 0) rest)))) (sym front))

pub good_next : (n : ℕ) (sizes corners : List ℕ) (i : ℕ) (rest face behind : List ℕ) → GoodSoFar n sizes corners i rest → i < length sizes
    → face ≡ take (get_or sizes i 0) rest → behind ≡ drop (get_or sizes i 0) rest → true ≡ is_face_of n face
    → GoodSoFar n sizes corners (i + 1) behind
good_next n sizes corners i rest face behind so_far lt front back good =
    let all : sum (drop i sizes) ≡ get_or sizes i 0 + sum (drop (i + 1) sizes) = ap sum (drop_more sizes i 0 lt)
    ∙ sum_by-cons (λ x. x) (get_or sizes i 0) (drop (i + 1) sizes) in
    let size : length behind ≡ length rest - get_or sizes i 0 = ap length back ∙ length-drop (get_or sizes i 0) rest in
    let were = so_far.whole in
    record {
      left = ap (λ r. position_from (is_no_face n) (i + 1) (cut (drop (i + 1) sizes) r)) back
          ∙ sym (at_face n sizes corners i rest face so_far lt front
          ∙ ap (λ b. cond (not b) (Some i) (position_from (is_no_face n) (i + 1) (cut (drop (i + 1) sizes) (drop (get_or sizes i 0) rest))))
          (sym good));
      whole = omega (arith, all, size, were);
    }

pub good_stops : (n : ℕ) (sizes corners : List ℕ) (i : ℕ) (rest face : List ℕ) → GoodSoFar n sizes corners i rest → i < length sizes
    → face ≡ take (get_or sizes i 0) rest → false ≡ is_face_of n face → Some i ≡ position (is_no_face n) (cut sizes corners)
good_stops n sizes corners i rest face so_far lt front bad =
    sym (at_face n sizes corners i rest face so_far lt front
    ∙ ap (λ b. cond (not b) (Some i) (position_from (is_no_face n) (i + 1) (cut (drop (i + 1) sizes) (drop (get_or sizes i 0) rest))))
    (sym bad))

pub good_end : (n : ℕ) (sizes corners : List ℕ) (i : ℕ) (rest : List ℕ) → GoodSoFar n sizes corners i rest → length sizes ≤ i
    → None ≡ position (is_no_face n) (cut sizes corners)
good_end n sizes corners i rest so_far le = sym (ap (λ ss. position_from (is_no_face n) i (cut ss rest)) (drop_all i sizes le))
    ∙ so_far.left

-- ---- the mesh

-- no item is refused
none_from : {A : Type 0} (test : A → Bool) (i : ℕ) (xs : List A) → position_from (λ x. not (test x)) i xs ≡ None
    → AllByRecursion (λ x. test x ≡ true) xs
none_from test i [] is = tt
none_from test i (x ∷ xs) is = by_test (test x) refl is (none_from test (i + 1) xs)
  where
    by_test : (b : Bool) → test x ≡ b → cond (not b) (Some i) (position_from (λ x. not (test x)) (i + 1) xs) ≡ None
        → (position_from (λ x. not (test x)) (i + 1) xs ≡ None → AllByRecursion (λ x. test x ≡ true) xs)
        → AllByRecursion (λ x. test x ≡ true) (x ∷ xs)
    by_test true t e later = (t, later e)
    by_test false t e later = cc

none_refused : {A : Type 0} (test : A → Bool) (xs : List A) → None ≡ position (λ x. not (test x)) xs
    → AllByRecursion (λ x. test x ≡ true) xs
none_refused test xs is = none_from test 0 xs (sym (is ∙ position_from-zero (λ x. not (test x)) xs))

all_as : {A : Type 0} (P Q : A → Type 0) → ((x : A) → P x → Q x) → (xs : List A) → AllByRecursion P xs → AllByRecursion Q xs
all_as P Q h [] all = tt
all_as P Q h (x ∷ xs) all = (h x all.0, all_as P Q h xs all.1)

each_within : (n : ℕ) (face : List ℕ) → list_all (λ corner. nat_lt corner n) face ≡ true → AllByRecursion (λ corner. corner < n) face
each_within n [] is = tt
each_within n (c ∷ face) is = let p = and_parts (nat_lt c n) (list_all (λ corner. nat_lt corner n) face) is in
    (ltb-true c n p.0, each_within n face p.1)

face_is : (n : ℕ) (face : List ℕ) → is_face_of n face ≡ true → IsFace n face
face_is n face is =
    let p = and_parts (list_all (λ corner. nat_lt corner n) face) (is_face face) is in
    let f = and_parts (nat_le 3 (length face)) (once face) p.1 in
    record {
      size = leb-true 3 (length face) f.0;
      within = All-from_recursion (λ corner. corner < n) face (each_within n face p.0);
      once = f.1;
    }

pub mesh_is : (places : List Vec3) (sizes corners : List ℕ) (mesh : ObjMesh) → true ≡ (sum sizes == length corners)
    → None ≡ position is_outside places → None ≡ position (is_no_face (length places)) (cut sizes corners)
    → mesh ≡ record { places = places; sizes = sizes; corners = corners } → IsMesh mesh
mesh_is places sizes corners mesh whole inside good is = rw is (record {
  inside = All-from_recursion {X = Vec3} (λ place. IsTrue (is_within (pos 536870912) place)) places
      (none_refused (is_within (pos 536870912)) places inside);
  whole = eqb-true (sum sizes) (length corners) (sym whole);
  faces = All-from_recursion {X = List ℕ} (λ face. IsFace (length places) face) (cut sizes corners)
      (all_as (λ face. is_face_of (length places) face ≡ true) (λ face. IsFace (length places) face)
      (λ face h. face_is (length places) face h) (cut sizes corners) (none_refused (is_face_of (length places)) (cut sizes corners) good));
})

pub mesh_found : (places : List Vec3) (sizes corners : List ℕ) (mesh : ObjMesh) → true ≡ (sum sizes == length corners)
    → None ≡ position is_outside places → None ≡ position (is_no_face (length places)) (cut sizes corners)
    → mesh ≡ record { places = places; sizes = sizes; corners = corners } → mesh_of places sizes corners ≡ Ok mesh
unfolding mesh_of
mesh_found places sizes corners mesh whole inside good is = rw (← whole, ← inside, ← good) (ap (λ m. Ok m) (sym is))

-- ---- what is wrong

pub bad_count : (places : List Vec3) (sizes corners : List ℕ) → false ≡ (sum sizes == length corners)
    → IsArraysFault (mesh_of places sizes corners) BadCount
unfolding mesh_of
bad_count places sizes corners is = inr (rw (← is) refl)

pub bad_vertex : (places : List Vec3) (sizes corners : List ℕ) (vertex : ℕ) → true ≡ (sum sizes == length corners)
    → Some vertex ≡ position is_outside places → IsArraysFault (mesh_of places sizes corners) (OutOfRange vertex)
unfolding mesh_of
bad_vertex places sizes corners vertex whole is = inr (rw (← whole, ← is) refl)

pub bad_face : (places : List Vec3) (sizes corners : List ℕ) (face : ℕ) → true ≡ (sum sizes == length corners)
    → None ≡ position is_outside places → Some face ≡ position (is_no_face (length places)) (cut sizes corners)
    → IsArraysFault (mesh_of places sizes corners) (BadFace face)
unfolding mesh_of
bad_face places sizes corners face whole inside is = inr (rw (← whole, ← inside, ← is) refl)
