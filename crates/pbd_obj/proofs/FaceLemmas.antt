-- The corners of a face, word by word.
use Rattle.std.proofs.Common.{◌≡◌, ◌∙◌, sym, ap, refl, ℕ, suc, ◌≤◌, Bool, true, false, not, ◌&&◌, ◌||◌, List, [], ◌∷◌, ◌++◌, length, Option}
use Rattle.std.proofs.Common.{Some, None, nat_le, arith, append_assoc, append-nil, length-append}
use Rattle.std.specs.Prelude.{◌==◌, cond}
use Rattle.std.specs.List.{list_any}
use Rattle.std.specs.Ordering.{nat_cmp}
use Rattle.std.specs.BTreeMap.{is_at}
use Rattle.std.specs.BTreeSet.{BTreeSet, contains}
use Rattle.std.specs.Option.{option_map, option_and_then}
use Rattle.std.proofs.lemmas.Bool.{and_parts, and_left, and_right, eqb-true, eq-eqb, not_from_true, or_right, false≢true}
use Rattle.std.proofs.lemmas.Bool.{or_parts}
use Rattle.std.proofs.lemmas.List.Folds.{list_any-append}
use Rattle.pbd_world.specs.Valid.{none_twice}
use Rattle.pbd_world.specs.Neighbours.{is_among}
use Rattle.pbd_script.specs.Lines.{words}
use Rattle.pbd_obj.specs.Reading.{corner, corners, face, is_face}
use Rattle.pbd_obj.proofs.NetLemmas.{cmp_same, or_swap}

-- no number stands twice
abbrev pub once : List ℕ → Bool
once ns = none_twice {A = ℕ} (λ a b. a == b) ns

-- ---- one more corner

push_tests : (among again same : Bool) → not among ≡ true → again ≡ true → same ≡ false → (not (among || (same || false)) && again) ≡ true
push_tests true again same h k e = absurd (false≢true h)
push_tests false again true h k e = absurd (false≢true (sym e))
push_tests false again false h k e = k

pub once_push : (front : List ℕ) (c : ℕ) → once front ≡ true → is_among c front ≡ false → once (front ++ c ∷ []) ≡ true
once_push [] c is none = refl
once_push (x ∷ front) c is none =
    let parts = and_parts (not (list_any (λ b. x == b) front)) (once front) is in
    let apart = or_parts (x == c) (is_among c front) none in
    ap (λ b. not b && once (front ++ c ∷ [])) (list_any-append (λ b. x == b) front (c ∷ []))
    ∙ push_tests (list_any (λ b. x == b) front) (once (front ++ c ∷ [])) (x == c) parts.0 (once_push front c parts.1 apart.1) apart.0

among_later : (x c : ℕ) (front more : List ℕ) → x ≡ c → list_any (λ b. x == b) (front ++ c ∷ more) ≡ true
among_later x c front more is =
    let here : list_any (λ b. x == b) (c ∷ more) ≡ true = rw (eq-eqb x c is) refl in
    list_any-append (λ b. x == b) front (c ∷ more) ∙ or_right (list_any (λ b. x == b) front) (list_any (λ b. x == b) (c ∷ more)) here

twice_case : (same : Bool) (x c : ℕ) (front more : List ℕ) → (x == c) ≡ same → (same || is_among c front) ≡ true
    → (is_among c front ≡ true → once (front ++ c ∷ more) ≡ false) → once (x ∷ (front ++ c ∷ more)) ≡ false
twice_case true x c front more is among later = and_left _ (once (front ++ c ∷ more))
    (not_from_true _ (among_later x c front more (eqb-true x c is)))
twice_case false x c front more is among later = and_right _ (once (front ++ c ∷ more)) (later among)

pub once_twice : (front : List ℕ) (c : ℕ) (more : List ℕ) → is_among c front ≡ true → once (front ++ c ∷ more) ≡ false
once_twice [] c more among = absurd (false≢true among)
once_twice (x ∷ front) c more among = twice_case (x == c) x c front more refl among (once_twice front c more)

-- ---- so far

-- some corners were pushed, those of the words before these
pub record FaceSoFar (n : ℕ) (old : List ℕ) (all rest : List (List ℕ)) (now : List ℕ) (marks : BTreeSet ℕ) : Type 0 where
  pub front : List ℕ
  pub pushed : now ≡ old ++ front
  pub named : corners n all ≡ option_map (λ cs. front ++ cs) (corners n rest)
  pub once : once front ≡ true
  pub marked : (q : ℕ) → contains nat_cmp marks q ≡ is_among q front

same_map : (o : Option (List ℕ)) → o ≡ option_map (λ cs. [] ++ cs) o
same_map None = refl
same_map (Some cs) = refl

pub named_begins : (n : ℕ) (old : List ℕ) (all : List (List ℕ)) (marks : BTreeSet ℕ) → marks.keys ≡ [] → FaceSoFar n old all all old marks
named_begins n old all marks none = record {
  front = [];
  pushed = sym (append-nil old);
  named = same_map (corners n all);
  once = refl;
  marked = λ q. rw none refl;
}

map_more : (front : List ℕ) (c : ℕ) (o : Option (List ℕ))
    → option_map (λ cs. front ++ cs) (option_map (λ cs. c ∷ cs) o) ≡ option_map (λ cs. (front ++ c ∷ []) ++ cs) o
map_more front c None = refl
map_more front c (Some cs) = ap (λ t. Some t) (sym (append_assoc front (c ∷ []) cs))

head_named : (n : ℕ) (word : List ℕ) (rest : List (List ℕ)) (c : ℕ) → corner n word ≡ Some c
    → corners n (word ∷ rest) ≡ option_map (λ cs. c ∷ cs) (corners n rest)
head_named n word rest c is = rw is refl

pub front_within : (n : ℕ) (old : List ℕ) (all rest : List (List ℕ)) (now : List ℕ) (marks : BTreeSet ℕ)
    → FaceSoFar n old all rest now marks → length old ≤ length now
front_within n old all rest now marks so_far = rw so_far.pushed (omega (arith, length-append old so_far.front))

pub marked_more : (front : List ℕ) (c : ℕ) (old now : BTreeSet ℕ) → ((q : ℕ) → contains nat_cmp old q ≡ is_among q front)
    → ((q : ℕ) → contains nat_cmp now q ≡ cond (is_at (nat_cmp c) q) true (contains nat_cmp old q)) → (q : ℕ)
    → contains nat_cmp now q ≡ is_among q (front ++ c ∷ [])
marked_more front c old now marked grown q =
    grown q
    ∙ (ap (λ b. cond b true (contains nat_cmp old q)) (cmp_same c q)
    ∙ (ap (λ b. cond (c == q) true b) (marked q)
    ∙ (or_swap (c == q) (is_among q front) ∙ sym (list_any-append (λ m. m == q) front (c ∷ [])))))

not_both : (b c : Bool) → b ≡ not c → c ≡ not b
not_both b true is = ap not (sym is)
not_both b false is = ap not (sym is)

pub named_next : (n : ℕ) (old : List ℕ) (all : List (List ℕ)) (word : List ℕ) (words rest : List (List ℕ)) (mid now : List ℕ)
    (marks next : BTreeSet ℕ) (c : ℕ) → FaceSoFar n old all words mid marks → words ≡ word ∷ rest → Some c ≡ corner n word
    → true ≡ not (contains nat_cmp marks c) → ((q : ℕ) → contains nat_cmp next q
    ≡ cond (is_at (nat_cmp c) q) true (contains nat_cmp marks q))
    → now ≡ mid ++ c ∷ [] → FaceSoFar n old all rest now next
named_next n old all word words rest mid now marks next c so_far are is new grown push = record {
  front = so_far.front ++ c ∷ [];
  pushed = push ∙ (ap (λ t. t ++ c ∷ []) so_far.pushed ∙ append_assoc old so_far.front (c ∷ []));
  named = so_far.named ∙ (ap (λ ws. option_map (λ cs. so_far.front ++ cs) (corners n ws)) are
      ∙ (ap (option_map (λ cs. so_far.front ++ cs)) (head_named n word rest c (sym is)) ∙ map_more so_far.front c (corners n rest)));
  once = once_push so_far.front c so_far.once (sym (so_far.marked c) ∙ not_both true (contains nat_cmp marks c) new);
  marked = marked_more so_far.front c marks next so_far.marked grown;
}

-- ---- what comes of it

pub face_none : (n : ℕ) (all : List (List ℕ)) → corners n all ≡ None → face n all ≡ None
face_none n all is = rw is refl

pub face_some : (n : ℕ) (all : List (List ℕ)) (cs : List ℕ) → corners n all ≡ Some cs → face n all ≡ cond (is_face cs) (Some cs) None
face_some n all cs is = rw is refl

no_word : (n : ℕ) (word : List ℕ) (rest : List (List ℕ)) → corner n word ≡ None → corners n (word ∷ rest) ≡ None
no_word n word rest is = rw is refl

-- a word that names no vertex
pub unnamed : (n : ℕ) (old : List ℕ) (all : List (List ℕ)) (word : List ℕ) (words rest : List (List ℕ)) (mid : List ℕ) (marks : BTreeSet ℕ)
    → FaceSoFar n old all words mid marks → words ≡ word ∷ rest → None ≡ corner n word → face n all ≡ None
unnamed n old all word words rest mid marks so_far are is =
    let none : corners n words ≡ None = ap (corners n) are ∙ no_word n word rest (sym is) in
    face_none n all (so_far.named ∙ ap (option_map (λ cs. so_far.front ++ cs)) none)

twice_face : (n : ℕ) (all : List (List ℕ)) (front : List ℕ) (c : ℕ) (o : Option (List ℕ))
    → corners n all ≡ option_map (λ cs. front ++ cs) (option_map (λ cs. c ∷ cs) o) → is_among c front ≡ true → face n all ≡ None
twice_face n all front c None are among = face_none n all are
twice_face n all front c (Some cs) are among =
    let no : is_face (front ++ c ∷ cs) ≡ false = and_right (nat_le 3 (length (front ++ c ∷ cs))) (once (front ++ c ∷ cs))
    (once_twice front c cs among) in
    face_some n all (front ++ c ∷ cs) are ∙ ap (λ b. cond b (Some (front ++ c ∷ cs)) None) no

-- a vertex that was named before
pub renamed : (n : ℕ) (old : List ℕ) (all : List (List ℕ)) (word : List ℕ) (words rest : List (List ℕ)) (mid : List ℕ) (marks : BTreeSet ℕ)
    (c : ℕ) → FaceSoFar n old all words mid marks → words ≡ word ∷ rest → Some c ≡ corner n word → false ≡ not (contains nat_cmp marks c)
    → face n all ≡ None
renamed n old all word words rest mid marks c so_far are is again =
    twice_face n all so_far.front c (corners n rest)
    (so_far.named ∙ (ap (λ ws. option_map (λ cs. so_far.front ++ cs) (corners n ws)) are
    ∙ ap (option_map (λ cs. so_far.front ++ cs)) (head_named n word rest c (sym is))))
    (sym (so_far.marked c) ∙ not_both false (contains nat_cmp marks c) again)

-- each word names a corner
pub face_size : (n : ℕ) (all : List (List ℕ)) (f : List ℕ) → face n all ≡ Some f → length f ≡ length all
face_size n all f is = of_corners n all f (corners n all) refl is
  where
    kept_size : (b : Bool) (cs f : List ℕ) → cond b (Some cs) None ≡ Some f → cs ≡ f
    kept_size true cs f is = cc
    kept_size false cs f is = cc

    sizes : (n : ℕ) (all : List (List ℕ)) (cs : List ℕ) → corners n all ≡ Some cs → length cs ≡ length all
    sizes n [] cs is = let e : [] ≡ cs = cc in rw (← e) refl
    sizes n (word ∷ all) cs is = size_of (corner n word) (corners n all) cs all is (sizes n all)
      where
        size_of : (o : Option ℕ) (p : Option (List ℕ)) (cs : List ℕ) (all : List (List ℕ))
            → option_and_then (λ c. option_map (λ cs. c ∷ cs) p) o ≡ Some cs → ((ds : List ℕ) → p ≡ Some ds → length ds ≡ length all)
            → length cs ≡ suc (length all)
        size_of None p cs all is h = cc
        size_of (Some c) None cs all is h = cc
        size_of (Some c) (Some ds) cs all is h = let e : c ∷ ds ≡ cs = cc in rw (← e) (ap suc (h ds refl))

    of_corners : (n : ℕ) (all : List (List ℕ)) (f : List ℕ) (o : Option (List ℕ)) → corners n all ≡ o → face n all ≡ Some f
        → length f ≡ length all
    of_corners n all f None are is = let none : face n all ≡ None = face_none n all are in cc
    of_corners n all f (Some cs) are is = let same : cs ≡ f = kept_size (is_face cs) cs f (sym (face_some n all cs are) ∙ is) in
        rw (← same) (sizes n all cs are)
