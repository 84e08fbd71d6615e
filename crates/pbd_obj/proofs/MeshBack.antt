-- A mesh that is written is read back.
use Rattle.std.proofs.Common.{◌≡◌, ◌∙◌, sym, ap, refl, ℕ, ◌+◌, ◌-◌, ◌/◌, ◌%◌, ◌^◌, ◌<◌, ◌≤◌, Bool, true, false, not, List, [], ◌∷◌, ◌++◌}
use Rattle.std.proofs.Common.{length, take, drop, map, Some, None, Ok, nat_le, codes, decimal as numeral, arith, append_assoc, append-nil}
use Rattle.std.proofs.Common.{length-append, length-take, length-drop, take-append-drop, filter, ℤ, pos, negsuc, unsigned_abs}
use Rattle.std.specs.Prelude.{◌==◌, cond, All, IsTrue, sum}
use Rattle.std.specs.List.{list_all, flat_map, slice_split, AllByRecursion, before_first, position_or_len}
use Rattle.std.specs.Option.{option_and_then}
use Rattle.std.specs.Str.Lines.{strip_carriage_return}
use Rattle.std.proofs.lemmas.Bool.{and_parts, and_from, le-leb}
use Rattle.std.proofs.lemmas.Bool.Decides.{nat_tests}
use Rattle.std.proofs.lemmas.Int.{ints}
use Rattle.std.proofs.lemmas.Fmt.{length-decimal-le}
use Rattle.std.proofs.lemmas.List.{take_all}
use Rattle.std.proofs.lemmas.List.Elements.{All-head, All-tail}
use Rattle.std.proofs.lemmas.List.Splits.{slice_split_at, slice_split_none}
use Rattle.std.proofs.lemmas.List.Sums.{AllPass-from_list_all, sum_by-cons}
use Rattle.pbd_num.specs.declared.Vec3.{Vec3}
use Rattle.pbd_num.specs.Vectors.{is_within}
use Rattle.pbd_num.proofs.Ranges.{within_facts}
use Rattle.pbd_world.specs.Text.{line}
use Rattle.pbd_script.specs.Lines.{is_blank, is_digit, words, count}
use Rattle.pbd_script.proofs.NumberLemmas.{count_decimal, not_minus}
use Rattle.pbd_obj.specs.declared.mesh.ObjMesh.{ObjMesh}
use Rattle.pbd_obj.specs.Decimals.{is_minus, short_count}
use Rattle.pbd_obj.specs.Meshes.{cut, faces, IsFace, IsMesh}
use Rattle.pbd_obj.specs.Reading.{corner, corners, face, is_face, is_slash, kth_vertex, named_by, no_mesh, read, with_face, with_line}
use Rattle.pbd_obj.specs.Reading.{with_words, without_minus}
use Rattle.pbd_obj.specs.Writing.{coordinate, decimals, face_line, fraction, mesh_text, sign, vertex_line}
use Rattle.pbd_obj.proofs.FaceLemmas.{face_some}
use Rattle.pbd_obj.proofs.ReadBack.{coordinate_back, decimals_digits, fraction_is, numeral_parts, position_past, tail_of}
use Rattle.pbd_obj.proofs.ReadLemmas.{read_begins, read_next, reads_on}
use Rattle.pbd_obj.proofs.MeshLemmas.{no_length}

-- ---- words and lines

abbrev is_shown : ℕ → Bool
is_shown b = nat_le 33 b

-- some bytes, none of them a blank
record Plain (w : List ℕ) : Type 0 where
  pub some : 1 ≤ length w
  pub shown : list_all is_shown w ≡ true

-- words with a space between two
abbrev spaced : List (List ℕ) → List ℕ
spaced [] = []
spaced (w ∷ []) = w
spaced (w ∷ next ∷ ws) = w ++ 32 ∷ spaced (next ∷ ws)

line_spaced : (w : List ℕ) (ws : List (List ℕ)) → line (w ∷ ws) ≡ spaced (w ∷ ws) ++ 10 ∷ []
line_spaced w [] = refl
line_spaced w (next ∷ ws) = ap (λ t. w ++ 32 ∷ t) (line_spaced next ws) ∙ sym (append_assoc w (32 ∷ spaced (next ∷ ws)) (10 ∷ []))

line_rest : (w : List ℕ) (ws : List (List ℕ)) (rest : List ℕ) → line (w ∷ ws) ++ rest ≡ spaced (w ∷ ws) ++ 10 ∷ rest
line_rest w ws rest = ap (λ t. t ++ rest) (line_spaced w ws) ∙ append_assoc (spaced (w ∷ ws)) (10 ∷ []) rest

fails : (test p : ℕ → Bool) → ((x : ℕ) → test x ≡ true → p x ≡ false) → (xs : List ℕ) → list_all test xs ≡ true → All (λ x. p x ≡ false) xs
fails test p never xs all = λ k d lt. never _ (AllPass-from_list_all test xs all k d lt)

shown_blank : (x : ℕ) → is_shown x ≡ true → is_blank x ≡ false
shown_blank x is = grind (arith, nat_tests)

calm_newline : (x : ℕ) → nat_le 32 x ≡ true → (x == 10) ≡ false
calm_newline x is = grind (arith, nat_tests)

calm_return : (x : ℕ) → nat_le 32 x ≡ true → (x == 13) ≡ false
calm_return x is = grind (arith, nat_tests)

shown_calm : (x : ℕ) → is_shown x ≡ true → nat_le 32 x ≡ true
shown_calm x is = grind (arith, nat_tests)

all_more : (test p : ℕ → Bool) → ((x : ℕ) → test x ≡ true → p x ≡ true) → (xs : List ℕ) → list_all test xs ≡ true → list_all p xs ≡ true
all_more test p more [] all = refl
all_more test p more (x ∷ xs) all = let parts = and_parts (test x) (list_all test xs) all in
    and_from (p x) (list_all p xs) (more x parts.0) (all_more test p more xs parts.1)

all_two : (test : ℕ → Bool) (xs ys : List ℕ) → list_all test xs ≡ true → list_all test ys ≡ true → list_all test (xs ++ ys) ≡ true
all_two test [] ys h k = k
all_two test (x ∷ xs) ys h k = let parts = and_parts (test x) (list_all test xs) h in
    and_from (test x) (list_all test (xs ++ ys)) parts.0 (all_two test xs ys parts.1 k)

spaced_calm : (w : List ℕ) (ws : List (List ℕ)) → AllByRecursion Plain (w ∷ ws) → list_all (λ b. nat_le 32 b) (spaced (w ∷ ws)) ≡ true
spaced_calm w [] plain = all_more is_shown (λ b. nat_le 32 b) shown_calm w (plain.0).shown
spaced_calm w (next ∷ ws) plain =
    let rest : list_all (λ b. nat_le 32 b) (32 ∷ spaced (next ∷ ws)) ≡ true = spaced_calm next ws plain.1 in
    all_two (λ b. nat_le 32 b) w (32 ∷ spaced (next ∷ ws)) (all_more is_shown (λ b. nat_le 32 b) shown_calm w (plain.0).shown) rest

kept : (w : List ℕ) (rest : List (List ℕ)) → 1 ≤ length w
    → filter (λ word. not (length word == 0)) (w ∷ rest) ≡ w ∷ filter (λ word. not (length word == 0)) rest
kept [] rest some = absurd (omega (arith, some))
kept (x ∷ w) rest some = let e : (length (x ∷ w) == 0) ≡ false = grind (arith, nat_tests) in rw e refl

words_spaced : (w : List ℕ) (ws : List (List ℕ)) → AllByRecursion Plain (w ∷ ws) → words (spaced (w ∷ ws)) ≡ w ∷ ws
words_spaced w [] plain =
    ap (filter (λ word. not (length word == 0))) (slice_split_none is_blank w (fails is_shown is_blank shown_blank w (plain.0).shown))
    ∙ kept w [] (plain.0).some
words_spaced w (next ∷ ws) plain =
    ap (filter (λ word. not (length word == 0))) (slice_split_at is_blank w 32 (spaced (next ∷ ws))
    (fails is_shown is_blank shown_blank w (plain.0).shown) refl)
    ∙ (kept w (slice_split is_blank (spaced (next ∷ ws))) (plain.0).some ∙ ap (λ t. w ∷ t) (words_spaced next ws plain.1))

no_return : (l : List ℕ) → list_all (λ b. nat_le 32 b) l ≡ true → strip_carriage_return l ≡ l
no_return [] all = refl
no_return (x ∷ xs) all =
    let last = AllPass-from_list_all (λ b. nat_le 32 b) (x ∷ xs) all (length (x ∷ xs) - 1) 0 (omega arith) in
    ap (λ b. cond b (take (length (x ∷ xs) - 1) (x ∷ xs)) (x ∷ xs)) (calm_return _ last)

with_line_words : (n : ℕ) (mesh : ObjMesh) (w : List ℕ) (ws : List (List ℕ)) → AllByRecursion Plain (w ∷ ws)
    → with_line (n, spaced (w ∷ ws)) mesh ≡ with_words n mesh (w ∷ ws)
unfolding with_line
with_line_words n mesh w ws plain =
    ap (λ l. with_words n mesh (words l)) (no_return (spaced (w ∷ ws)) (spaced_calm w ws plain))
    ∙ ap (with_words n mesh) (words_spaced w ws plain)

line_read : (n : ℕ) (mesh now : ObjMesh) (w : List ℕ) (ws : List (List ℕ)) (rest : List ℕ) → AllByRecursion Plain (w ∷ ws)
    → with_words n mesh (w ∷ ws) ≡ Ok now → reads_on n mesh (line (w ∷ ws) ++ rest) ≡ reads_on (n + 1) now rest
line_read n mesh now w ws rest plain is =
    ap (reads_on n mesh) (line_rest w ws rest)
    ∙ read_next n mesh now (spaced (w ∷ ws) ++ 10 ∷ rest) (spaced (w ∷ ws)) rest
    (slice_split_at (λ b. b == 10) (spaced (w ∷ ws)) 10 rest
    (fails (λ b. nat_le 32 b) (λ b. b == 10) calm_newline (spaced (w ∷ ws)) (spaced_calm w ws plain)) refl)
    (with_line_words n mesh w ws plain ∙ is)

-- ---- words of numbers

digit_shown : (x : ℕ) → is_digit x ≡ true → is_shown x ≡ true
digit_shown x is = grind (arith, nat_tests)

numeral_plain : (n : ℕ) → n < 10 ^ 18 → Plain (numeral n)
numeral_plain n small =
    let parts = numeral_parts n small in
    record { some = parts.0; shown = all_more is_digit is_shown digit_shown (numeral n) parts.1 }

tail_shown : (f : List ℕ) → list_all is_digit f ≡ true → list_all is_shown (tail_of f) ≡ true
tail_shown [] all = refl
tail_shown (x ∷ xs) all = let rest : list_all is_shown (x ∷ xs) ≡ true = all_more is_digit is_shown digit_shown (x ∷ xs) all in rest

sign_shown : (u : ℤ) → list_all is_shown (sign u) ≡ true
sign_shown (pos n) = refl
sign_shown (negsuc n) = refl

coordinate_plain : (u : ℤ) → unsigned_abs u ≤ 2 ^ 29 → Plain (coordinate u)
unfolding coordinate
coordinate_plain u small =
    let n = unsigned_abs u in
    let whole = numeral_plain (n / 65536) (omega (arith, small)) in
    let tail : list_all is_shown (fraction (n % 65536)) ≡ true = ap (list_all is_shown) (fraction_is (n % 65536))
    ∙ tail_shown (decimals 16 (n % 65536)) (decimals_digits 16 (n % 65536) (omega arith)) in
    let size = length-append (sign u) (numeral (n / 65536) ++ fraction (n % 65536)) in
    let size_more = length-append (numeral (n / 65536)) (fraction (n % 65536)) in
    let some = whole.some in
    record {
      some = omega (arith, size, size_more, some);
      shown = all_two is_shown (sign u) (numeral (n / 65536) ++ fraction (n % 65536)) (sign_shown u)
          (all_two is_shown (numeral (n / 65536)) (fraction (n % 65536)) whole.shown tail);
    }

-- ---- vertices

vertex_back : (n : ℕ) (mesh : ObjMesh) (p : Vec3) → is_within (pos 536870912) p ≡ true
    → with_words n mesh (codes "v" ∷ coordinate p.x ∷ coordinate p.y ∷ coordinate p.z ∷ [])
    ≡ Ok (record mesh { places = mesh.places ++ p ∷ [] })
vertex_back n mesh p within =
    let w = (within_facts (pos 536870912) p (omega (arith, ints))).0 within in
    rw (coordinate_back p.x w.x, coordinate_back p.y w.y, coordinate_back p.z w.z, within) refl

vertices_back : (n : ℕ) (mesh : ObjMesh) (ps : List Vec3) (rest : List ℕ) → All {X = Vec3} (λ p. IsTrue (is_within (pos 536870912) p)) ps
    → reads_on n mesh (flat_map vertex_line ps ++ rest) ≡ reads_on (n + length ps) (record mesh { places = mesh.places ++ ps }) rest
unfolding vertex_line
vertices_back n mesh [] rest inside =
    let count : n ≡ n + 0 = omega arith in
    ap (λ ps. reads_on n (record mesh { places = ps }) rest) (sym (append-nil mesh.places))
    ∙ ap (λ k. reads_on k (record mesh { places = mesh.places ++ [] }) rest) count
vertices_back n mesh (p ∷ ps) rest inside =
    let within : is_within (pos 536870912) p ≡ true = All-head {X = Vec3} (λ p. IsTrue (is_within (pos 536870912) p)) p ps inside in
    let w = (within_facts (pos 536870912) p (omega (arith, ints))).0 within in
    let vline = line (codes "v" ∷ coordinate p.x ∷ coordinate p.y ∷ coordinate p.z ∷ []) in
    let next = record mesh { places = mesh.places ++ p ∷ [] } in
    let plain_v : Plain (codes "v") = record { some = omega arith; shown = refl } in
    let one : reads_on n mesh (vline ++ (flat_map vertex_line ps ++ rest)) ≡ reads_on (n + 1) next (flat_map vertex_line ps ++ rest) =
    line_read n mesh next (codes "v") (coordinate p.x ∷ coordinate p.y ∷ coordinate p.z ∷ []) (flat_map vertex_line ps ++ rest)
    (plain_v, (coordinate_plain p.x w.x, (coordinate_plain p.y w.y, (coordinate_plain p.z w.z, tt)))) (vertex_back n mesh p within) in
    let more = vertices_back (n + 1) next ps rest (All-tail {X = Vec3} (λ p. IsTrue (is_within (pos 536870912) p)) p ps inside) in
    let count : n + 1 + length ps ≡ n + length (p ∷ ps) = omega arith in
    ap (reads_on n mesh) (append_assoc vline (flat_map vertex_line ps) rest)
    ∙ (one ∙ (more ∙ (ap (λ k. reads_on k (record mesh { places = (mesh.places ++ p ∷ []) ++ ps }) rest) count
    ∙ ap (λ qs. reads_on (n + length (p ∷ ps)) (record mesh { places = qs }) rest) (append_assoc mesh.places (p ∷ []) ps))))

-- ---- faces

digit_slash : (x : ℕ) → is_digit x ≡ true → is_slash x ≡ false
digit_slash x is = grind (arith, nat_tests)

whole_word : (w : List ℕ) → list_all is_digit w ≡ true → before_first is_slash w ≡ w
whole_word w all =
    let end : position_or_len is_slash w ≡ length w = ap (position_or_len is_slash) (sym (append-nil w))
    ∙ (position_past is_slash digit_slash w [] all ∙ omega arith) in
    take_all (position_or_len is_slash w) w (omega (arith, end))

no_sign : (w : List ℕ) → list_all is_digit w ≡ true → (is_minus w ≡ false) × (without_minus w ≡ w)
no_sign [] all = (refl, refl)
no_sign (x ∷ w) all =
    let minus : (x == 45) ≡ false = not_minus x (and_parts (is_digit x) (list_all is_digit w) all).0 in
    (minus, rw minus refl)

kth_back : (n c : ℕ) → c < n → kth_vertex n false (c + 1) ≡ Some c
kth_back n c lt =
    let e : c + 1 - 1 ≡ c = omega arith in
    rw (le-leb 1 (c + 1) (omega arith), le-leb (c + 1) n (omega (arith, lt)), e) refl

corner_back : (n c : ℕ) → c < n → n < 10 ^ 9 → corner n (numeral (c + 1)) ≡ Some c
unfolding corner
corner_back n c lt small =
    let w = numeral (c + 1) in
    let parts = numeral_parts (c + 1) (omega (arith, lt, small)) in
    let sign = no_sign w parts.1 in
    let short : nat_le (length w) 9 ≡ true = le-leb (length w) 9
    (length-decimal-le 9 (c + 1) (omega arith) (omega (arith, lt, small)) (omega (arith, lt, small))) in
    let said : short_count 9 w ≡ Some (c + 1) = ap (λ b. cond b (count w) None) short ∙ count_decimal (c + 1) (omega (arith, lt, small)) in
    ap (named_by n) (whole_word w parts.1)
    ∙ (ap (λ v. option_and_then (λ k. kth_vertex n (is_minus w) k) (short_count 9 v)) sign.1
    ∙ (ap (λ o. option_and_then (λ k. kth_vertex n (is_minus w) k) o) said
    ∙ (ap (λ b. kth_vertex n b (c + 1)) sign.0 ∙ kth_back n c lt)))

-- the words of a face's corners
abbrev corner_words : List ℕ → List (List ℕ)
corner_words f = map (λ c. numeral (0 + c + 1)) f

corners_back : (n : ℕ) (f : List ℕ) → n < 10 ^ 9 → All (λ c. c < n) f → corners n (corner_words f) ≡ Some f
corners_back n [] small within = refl
corners_back n (c ∷ f) small within =
    let here : corner n (numeral (0 + c + 1)) ≡ Some c = ap (λ k. corner n (numeral k)) (omega arith)
    ∙ corner_back n c (All-head (λ c. c < n) c f within) small in
    rw (here, corners_back n f small (All-tail (λ c. c < n) c f within)) refl

words_plain : (n : ℕ) (f : List ℕ) → n < 10 ^ 9 → All (λ c. c < n) f → AllByRecursion Plain (corner_words f)
words_plain n [] small within = tt
words_plain n (c ∷ f) small within =
    let lt = All-head (λ c. c < n) c f within in
    (numeral_plain (0 + c + 1) (omega (arith, lt, small)), words_plain n f small (All-tail (λ c. c < n) c f within))

face_back : (n : ℕ) (f : List ℕ) → n < 10 ^ 9 → IsFace n f → face n (corner_words f) ≡ Some f
face_back n f small is =
    let test : is_face f ≡ true = and_from (nat_le 3 (length f)) _ (le-leb 3 (length f) is.size) is.once in
    face_some n (corner_words f) f (corners_back n f small is.within) ∙ ap (λ b. cond b (Some f) None) test

face_words : (line : ℕ) (mesh : ObjMesh) (f : List ℕ) → length mesh.places < 10 ^ 9 → IsFace (length mesh.places) f
    → with_words line mesh (codes "f" ∷ corner_words f) ≡ Ok
    (record mesh { sizes = mesh.sizes ++ length f ∷ []; corners = mesh.corners ++ f })
face_words line mesh f small is = ap (with_face line mesh) (face_back (length mesh.places) f small is)

read_nothing : (n : ℕ) (mesh : ObjMesh) → reads_on n mesh [] ≡ Ok mesh
unfolding with_line
read_nothing n mesh = refl

with_more : ObjMesh → List ℕ → List ℕ → ObjMesh
with_more mesh sizes corners = record mesh { sizes = mesh.sizes ++ sizes; corners = mesh.corners ++ corners }

faces_back : (n : ℕ) (mesh : ObjMesh) (sizes corners : List ℕ) → length mesh.places < 10 ^ 9 → sum sizes ≡ length corners
    → All {X = List ℕ} (λ f. IsFace (length mesh.places) f) (cut sizes corners)
    → reads_on n mesh (flat_map (face_line 0) (cut sizes corners)) ≡ Ok (with_more mesh sizes corners)
unfolding face_line with_more
faces_back n mesh [] corners small whole are =
    let none : corners ≡ [] = no_length corners whole in
    read_nothing n mesh ∙ (ap (λ ss. Ok (record mesh { sizes = ss })) (sym (append-nil mesh.sizes))
    ∙ ap (λ cs. Ok (record mesh { sizes = mesh.sizes ++ []; corners = cs }))
    (sym (append-nil mesh.corners) ∙ ap (λ t. mesh.corners ++ t) (sym none)))
faces_back n mesh (s ∷ sizes) corners small whole are =
    let f = take s corners in
    let rest = drop s corners in
    let all : s + sum sizes ≡ length corners = sym (sum_by-cons (λ x. x) s sizes) ∙ whole in
    let size : length f ≡ s = omega (arith, all, length-take s corners) in
    let left : sum sizes ≡ length rest = omega (arith, all, length-drop s corners) in
    let is : IsFace (length mesh.places) f = All-head {X = List ℕ} (λ f. IsFace (length mesh.places) f) f (cut sizes rest) are in
    let next = record mesh { sizes = mesh.sizes ++ length f ∷ []; corners = mesh.corners ++ f } in
    let plain_f : Plain (codes "f") = record { some = omega arith; shown = refl } in
    let one : reads_on n mesh (line (codes "f" ∷ corner_words f) ++ flat_map (face_line 0) (cut sizes rest))
    ≡ reads_on (n + 1) next (flat_map (face_line 0) (cut sizes rest)) =
    line_read n mesh next (codes "f") (corner_words f) (flat_map (face_line 0) (cut sizes rest))
    (plain_f, words_plain (length mesh.places) f small is.within) (face_words n mesh f small is) in
    let more = faces_back (n + 1) next sizes rest small left
    (All-tail {X = List ℕ} (λ f. IsFace (length mesh.places) f) f (cut sizes rest) are) in
    let sizes_are : (mesh.sizes ++ length f ∷ []) ++ sizes ≡ mesh.sizes ++ s ∷ sizes = append_assoc mesh.sizes (length f ∷ []) sizes
    ∙ ap (λ k. mesh.sizes ++ k ∷ sizes) size in
    let corners_are : (mesh.corners ++ f) ++ rest ≡ mesh.corners ++ corners = append_assoc mesh.corners f rest
    ∙ ap (λ t. mesh.corners ++ t) (take-append-drop s corners) in
    one ∙ (more ∙ (ap (λ ss. Ok (record mesh { sizes = ss; corners = (mesh.corners ++ f) ++ rest })) sizes_are
    ∙ ap (λ cs. Ok (record mesh { sizes = mesh.sizes ++ s ∷ sizes; corners = cs })) corners_are))

-- the lines of a mesh give it again
pub mesh_back : (mesh : ObjMesh) → IsMesh mesh → length mesh.places < 10 ^ 9 → read (mesh_text mesh) ≡ Ok mesh
unfolding mesh_text with_more
mesh_back mesh is small =
    sym (read_begins (flat_map vertex_line mesh.places ++ flat_map (face_line 0) (faces mesh)))
    ∙ (vertices_back 1 no_mesh mesh.places (flat_map (face_line 0) (faces mesh)) is.inside
    ∙ faces_back (1 + length mesh.places) (record no_mesh { places = mesh.places }) mesh.sizes mesh.corners small is.whole is.faces)
