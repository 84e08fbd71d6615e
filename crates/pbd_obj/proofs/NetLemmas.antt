-- Links that are added one by one, each once.
use Rattle.std.proofs.Common.{◌≡◌, ◌∙◌, sym, ap, refl, ℕ, suc, ◌+◌, ◌-◌, ◌<◌, ◌≤◌, min, max, Bool, true, false, not, ◌&&◌, ◌||◌, List, []}
use Rattle.std.proofs.Common.{◌∷◌, ◌++◌, length, get_or, take, drop, map, arith, inl, inr, append_assoc, append-nil, length-append}
use Rattle.std.proofs.Common.{length-drop, subst}
use Rattle.std.specs.Prelude.{◌==◌, cond, All, sum, nat_lt}
use Rattle.std.specs.List.{flat_map, list_any, range_with_len}
use Rattle.std.specs.declared.cmp.Ordering.{Ordering}
use Rattle.std.specs.declared.cmp.Ordering.TheVariants.{Less, Equal, Greater}
use Rattle.std.specs.Ordering.{is_eq, nat_cmp, ordering_then}
use Rattle.std.specs.BTreeMap.{is_at}
use Rattle.std.specs.BTreeSet.{BTreeSet, contains}
use Rattle.std.proofs.lemmas.Bool.{and_parts, and_from, or_cases, or_left, or_right, cases_eq, cases_order, eqb-true, eq-eqb, ne_eqb}
use Rattle.std.proofs.lemmas.Bool.{lt-ltb, le-ltb}
use Rattle.std.proofs.lemmas.List.{drop_more}
use Rattle.std.proofs.lemmas.List.Elements.{All-head, All-tail}
use Rattle.std.proofs.lemmas.List.Folds.{list_any-append}
use Rattle.std.proofs.lemmas.List.Sums.{sum_by-cons}
use Rattle.pbd_world.specs.declared.parts.Link.{Link}
use Rattle.pbd_world.specs.declared.parts.Kind.{Kind}
use Rattle.pbd_world.specs.declared.parts.Kind.TheVariants.{Stretch, Shear}
use Rattle.pbd_world.specs.Valid.{join_alike}
use Rattle.pbd_obj.specs.declared.mesh.ObjMesh.{ObjMesh}
use Rattle.pbd_obj.specs.declared.mesh.ObjFault.{ObjFault}
use Rattle.pbd_obj.specs.declared.mesh.ObjFault.TheVariants.{TooMany}
use Rattle.pbd_obj.specs.declared.links.FoundLinks.{FoundLinks}
use Rattle.pbd_obj.specs.Meshes.{cut}
use Rattle.pbd_obj.specs.declared.settings.LinkSettings.{LinkSettings}
use Rattle.pbd_obj.specs.declared.settings.MeshSettings.{MeshSettings}
use Rattle.pbd_obj.specs.MeshLinks.{bend_links, each_once, face_links, kind_links, link, mesh_links, pairs_linked, ring, side}
use Rattle.pbd_obj.specs.Nets.{Adds, HoldsJoined, HoldsPairs, IsFullAt, IsStopped, Names, ordered, pair_cmp}
use Rattle.pbd_world.proofs.GreedyLemmas.{same_truth}

-- ---- pairs of numbers

pub cmp_same : (x u : ℕ) → is_eq (nat_cmp x u) ≡ (x == u)
cmp_same x u = elim (cases_order x u) [
  | inl e ↦ (let low : nat_lt x u ≡ false = le-ltb x u (omega (arith, e)) in rw (low, eq-eqb x u e) refl)
  | inr o ↦ elim o [
    | inl lt ↦ rw (lt-ltb x u lt, ne_eqb x u (λ e. omega (arith, e, lt))) refl
    | inr gt ↦ (let low : nat_lt x u ≡ false = le-ltb x u (omega (arith, gt)) in rw (low, ne_eqb x u (λ e. omega (arith, e, gt))) refl)
  ]
]

then_same : (o p : Ordering) → is_eq (ordering_then o p) ≡ (is_eq o && is_eq p)
then_same Less p = refl
then_same Equal p = refl
then_same Greater p = refl

pub pair_same : (x y u v : ℕ) → is_at (pair_cmp (x, y)) (u, v) ≡ (x == u && y == v)
pair_same x y u v = then_same (nat_cmp x u) (nat_cmp y v)
    ∙ (ap (λ b. b && is_eq (nat_cmp y v)) (cmp_same x u) ∙ ap (λ b. x == u && b) (cmp_same y v))

-- two pairs are the same, the smaller first, where they are in one order or the other
ordered_same : (a b c d : ℕ) → is_at (pair_cmp (ordered a b)) (ordered c d) ≡ (c == a && d == b || c == b && d == a)
unfolding ordered
ordered_same a b c d = pair_same (min a b) (max a b) (min c d) (max c d)
    ∙ same_truth (min a b == min c d && max a b == max c d) (c == a && d == b || c == b && d == a)
    (λ t. let p = and_parts (min a b == min c d) (max a b == max c d) t in
    let low = eqb-true (min a b) (min c d) p.0 in
    let high = eqb-true (max a b) (max c d) p.1 in
    elim (cases_eq c a) [
      | inl e ↦ or_left (c == a && d == b) (c == b && d == a)
          (and_from (c == a) (d == b) (eq-eqb c a e) (eq-eqb d b (omega (arith, low, high, e))))
      | inr n ↦ or_right (c == a && d == b) (c == b && d == a)
          (and_from (c == b) (d == a) (eq-eqb c b (omega (arith, low, high, n))) (eq-eqb d a (omega (arith, low, high, n))))
    ])
    (λ t. elim (or_cases (c == a && d == b) (c == b && d == a) t) [
      | inl s ↦ (let p = and_parts (c == a) (d == b) s in
          let f = eqb-true c a p.0 in
          let g = eqb-true d b p.1 in
          and_from (min a b == min c d) (max a b == max c d) (eq-eqb (min a b) (min c d) (omega (arith, f, g)))
          (eq-eqb (max a b) (max c d) (omega (arith, f, g))))
      | inr s ↦ (let p = and_parts (c == b) (d == a) s in
          let f = eqb-true c b p.0 in
          let g = eqb-true d a p.1 in
          and_from (min a b == min c d) (max a b == max c d) (eq-eqb (min a b) (min c d) (omega (arith, f, g)))
          (eq-eqb (max a b) (max c d) (omega (arith, f, g))))
    ])

-- ---- one link

pub or_swap : (x y : Bool) → cond x true y ≡ (y || (x || false))
or_swap true true = refl
or_swap true false = refl
or_swap false true = refl
or_swap false false = refl

pub pairs_none : (joined : BTreeSet (ℕ × ℕ)) → joined.keys ≡ [] → HoldsPairs [] joined
unfolding HoldsPairs
pairs_none joined is = λ l. rw is refl

pairs_more : (links : List Link) (l : Link) (old now : BTreeSet (ℕ × ℕ)) → HoldsPairs links old
    → ((q : ℕ × ℕ) → contains pair_cmp now q ≡ cond (is_at (pair_cmp (ordered l.a l.b)) q) true (contains pair_cmp old q))
    → HoldsPairs (links ++ l ∷ []) now
unfolding HoldsPairs
pairs_more links l old now held grown = λ m.
    grown (ordered m.a m.b)
    ∙ (ap (λ b. cond b true (contains pair_cmp old (ordered m.a m.b))) (ordered_same l.a l.b m.a m.b)
    ∙ (ap (λ b. cond (join_alike m l) true b) (held m)
    ∙ (or_swap (join_alike m l) (list_any (join_alike m) links)
    ∙ sym (list_any-append (join_alike m) links (l ∷ [])))))

pairs_same : (links : List Link) (old now : BTreeSet (ℕ × ℕ)) → HoldsPairs links old → now.keys ≡ old.keys → HoldsPairs links now
unfolding HoldsPairs
pairs_same links old now held same = λ m. rw same (held m)

pairs_has : (links : List Link) (l : Link) (joined : BTreeSet (ℕ × ℕ)) (b : Bool) → HoldsPairs links joined
    → b ≡ not (contains pair_cmp joined (ordered l.a l.b)) → list_any (join_alike l) links ≡ not b
unfolding HoldsPairs
pairs_has links l joined b held is = sym (held l) ∙ (sym (twice (contains pair_cmp joined (ordered l.a l.b))) ∙ ap not (sym is))
  where
    twice : (b : Bool) → not (not b) ≡ b
    twice true = refl
    twice false = refl

once_old : (kept : List Link) (l : Link) → list_any (join_alike l) kept ≡ true → each_once kept (l ∷ []) ≡ kept
once_old kept l is = rw is refl

once_new : (kept : List Link) (l : Link) → list_any (join_alike l) kept ≡ false → each_once kept (l ∷ []) ≡ kept ++ l ∷ []
once_new kept l is = rw is refl

-- its particles are joined already
pub add_old : (l : Link) (old : FoundLinks) (joined : BTreeSet (ℕ × ℕ)) → HoldsJoined old
    → false ≡ not (contains pair_cmp old.joined (ordered l.a l.b)) → joined.keys ≡ old.joined.keys
    → Adds (l ∷ []) old (record old { joined = joined })
add_old l old joined held is same = record {
  links = sym (once_old old.links l (pairs_has old.links l old.joined false held is));
  joined = pairs_same old.links old.joined joined held same;
  base = refl;
  room = refl;
  within = λ le. le;
}

-- they are not
pub add_new : (l : Link) (old : FoundLinks) (joined : BTreeSet (ℕ × ℕ)) (links : List Link) → HoldsJoined old
    → true ≡ not (contains pair_cmp old.joined (ordered l.a l.b))
    → ((q : ℕ × ℕ) → contains pair_cmp joined q ≡ cond (is_at (pair_cmp (ordered l.a l.b)) q) true (contains pair_cmp old.joined q))
    → length old.links < old.room → links ≡ old.links ++ l ∷ [] → Adds (l ∷ []) old (record old { joined = joined; links = links })
add_new l old joined links held is grown lt push = record {
  links = push ∙ sym (once_new old.links l (pairs_has old.links l old.joined true held is));
  joined = rw push (pairs_more old.links l old.joined joined held grown);
  base = refl;
  room = refl;
  within = λ _. rw push (omega (arith, lt, length-append old.links (l ∷ [])));
}

-- and there is no room
pub add_full : (l : Link) (old : FoundLinks) → HoldsJoined old → true ≡ not (contains pair_cmp old.joined (ordered l.a l.b))
    → old.room ≤ length old.links → IsStopped (l ∷ []) old TooMany
add_full l old held is full =
    let one : length (each_once old.links (l ∷ [])) ≡ length old.links + 1 =
    ap length (once_new old.links l (pairs_has old.links l old.joined true held is)) ∙ length-append old.links (l ∷ []) in
    inr (refl, omega (arith, one, full))

-- ---- many links

pub once_append : (kept xs ys : List Link) → each_once kept (xs ++ ys) ≡ each_once (each_once kept xs) ys
once_append kept [] ys = refl
once_append kept (l ∷ xs) ys = once_append (cond (list_any (join_alike l) kept) kept (kept ++ l ∷ [])) xs ys

longer_case : (b : Bool) (kept : List Link) (l : Link) → length kept ≤ length (cond b kept (kept ++ l ∷ []))
longer_case true kept l = omega arith
longer_case false kept l = omega (arith, length-append kept (l ∷ []))

once_longer : (kept ls : List Link) → length kept ≤ length (each_once kept ls)
once_longer kept [] = omega arith
once_longer kept (l ∷ ls) =
    let more = cond (list_any (join_alike l) kept) kept (kept ++ l ∷ []) in
    omega (arith, longer_case (list_any (join_alike l) kept) kept l, once_longer more ls)

adds_none : (old : FoundLinks) → HoldsJoined old → Adds [] old old
adds_none old held = record { links = refl; joined = held; base = refl; room = refl; within = λ le. le }

adds_then : (old mid now : FoundLinks) (xs ys : List Link) → Adds xs old mid → Adds ys mid now → Adds (xs ++ ys) old now
adds_then old mid now xs ys first second = record {
  links = second.links ∙ (ap (λ kept. each_once kept ys) first.links ∙ sym (once_append old.links xs ys));
  joined = second.joined;
  base = second.base ∙ first.base;
  room = second.room ∙ first.room;
  within = λ le. second.within (first.within le);
}

-- some of the links were added, and these are left
pub record SoFar (whole : List Link) (old now : FoundLinks) (rest : List Link) : Type 0 where
  pub done : List Link
  pub adds : Adds done old now
  pub makes : done ++ rest ≡ whole

pub so_far_begins : (whole : List Link) (old : FoundLinks) (rest : List Link) → HoldsJoined old → rest ≡ whole → SoFar whole old old rest
so_far_begins whole old rest held is = record { done = []; adds = adds_none old held; makes = is }

pub so_far_next : (whole : List Link) (old mid now : FoundLinks) (xs rest left : List Link) → SoFar whole old mid left → left ≡ xs ++ rest
    → Adds xs mid now → SoFar whole old now rest
so_far_next whole old mid now xs rest left so_far is adds = record {
  done = so_far.done ++ xs;
  adds = adds_then old mid now so_far.done xs so_far.adds adds;
  makes = append_assoc so_far.done xs rest ∙ (ap (λ t. so_far.done ++ t) (sym is) ∙ so_far.makes);
}

full_then : (whole : List Link) (old mid : FoundLinks) (xs rest done : List Link) → Adds done old mid → done ++ (xs ++ rest) ≡ whole
    → mid.room < length (each_once mid.links xs) → old.room < length (each_once old.links whole)
full_then whole old mid xs rest done adds makes full =
    let all : each_once old.links whole ≡ each_once (each_once mid.links xs) rest = ap (each_once old.links) (sym makes)
    ∙ (once_append old.links done (xs ++ rest) ∙ (ap (λ kept. each_once kept (xs ++ rest)) (sym adds.links)
    ∙ once_append mid.links xs rest)) in
    let size : length (each_once old.links whole) ≡ length (each_once (each_once mid.links xs) rest) = ap length all in
    omega (arith, size, once_longer (each_once mid.links xs) rest, full, adds.room)

pub so_far_stops : (whole : List Link) (old mid : FoundLinks) (xs rest left : List Link) (fault : ObjFault) → SoFar whole old mid left
    → left ≡ xs ++ rest → IsStopped xs mid fault → IsStopped whole old fault
so_far_stops whole old mid xs rest left fault so_far is (inl memory) = inl memory
so_far_stops whole old mid xs rest left fault so_far is (inr full) =
    inr (full.0, full_then whole old mid xs rest so_far.done so_far.adds (ap (λ t. so_far.done ++ t) (sym is) ∙ so_far.makes) full.1)

-- ---- the sides of a face

-- what is left of a ring from side i on
abbrev pub sides_from : LinkSettings → ObjMesh → ℕ → List ℕ → ℕ → List Link
sides_from k mesh base face i = map {A = ℕ × ℕ} {B = Link} (link mesh base Stretch k)
    (map {A = ℕ} {B = ℕ × ℕ} (side face) (range_with_len i (length face - i)))

pub sides_next : (k : LinkSettings) (mesh : ObjMesh) (base : ℕ) (face : List ℕ) (i : ℕ) → i < length face
    → sides_from k mesh base face i ≡ (link mesh base Stretch k (side face i) ∷ []) ++ sides_from k mesh base face (i + 1)
sides_next k mesh base face i lt = let e : length face - i ≡ suc (length face - (i + 1)) = omega (arith, lt) in rw e refl

side_is : (k : LinkSettings) (mesh : ObjMesh) (face : List ℕ) (old mid : FoundLinks) (done : List Link) (i : ℕ) (l : Link)
    → Adds done old mid → l ≡ link mesh mid.base Stretch k (side face i) → l ≡ link mesh old.base Stretch k (side face i)
side_is k mesh face old mid done i l adds is = is ∙ ap (λ b. link mesh b Stretch k (side face i)) adds.base

pub ring_next : (k : LinkSettings) (mesh : ObjMesh) (face : List ℕ) (old mid now : FoundLinks) (i : ℕ) (l : Link)
    → SoFar (pairs_linked mesh old.base Stretch k (ring face)) old mid (sides_from k mesh old.base face i) → i < length face
    → l ≡ link mesh mid.base Stretch k (side face i) → Adds (l ∷ []) mid now
    → SoFar (pairs_linked mesh old.base Stretch k (ring face)) old now (sides_from k mesh old.base face (i + 1))
ring_next k mesh face old mid now i l so_far lt is adds =
    let same : l ≡ link mesh old.base Stretch k (side face i) = side_is k mesh face old mid so_far.done i l so_far.adds is in
    so_far_next (pairs_linked mesh old.base Stretch k (ring face)) old mid now (l ∷ []) (sides_from k mesh old.base face (i + 1))
    (sides_from k mesh old.base face i) so_far (sides_next k mesh old.base face i lt
    ∙ ap (λ m. (m ∷ []) ++ sides_from k mesh old.base face (i + 1)) (sym same)) adds

pub ring_stops : (k : LinkSettings) (mesh : ObjMesh) (face : List ℕ) (old mid : FoundLinks) (i : ℕ) (l : Link) (fault : ObjFault)
    → SoFar (pairs_linked mesh old.base Stretch k (ring face)) old mid (sides_from k mesh old.base face i) → i < length face
    → l ≡ link mesh mid.base Stretch k (side face i) → IsStopped (l ∷ []) mid fault
    → IsStopped (pairs_linked mesh old.base Stretch k (ring face)) old fault
ring_stops k mesh face old mid i l fault so_far lt is stopped =
    let same : l ≡ link mesh old.base Stretch k (side face i) = side_is k mesh face old mid so_far.done i l so_far.adds is in
    so_far_stops (pairs_linked mesh old.base Stretch k (ring face)) old mid (l ∷ []) (sides_from k mesh old.base face (i + 1))
    (sides_from k mesh old.base face i) fault so_far (sides_next k mesh old.base face i lt
    ∙ ap (λ m. (m ∷ []) ++ sides_from k mesh old.base face (i + 1)) (sym same)) stopped

-- ---- face by face

-- the links of some faces were added, and these sizes and corners are left
pub record FacesSoFar (t : MeshSettings) (mesh : ObjMesh) (kind : Kind) (old now : FoundLinks) (sizes corners : List ℕ) : Type 0 where
  pub links : SoFar (kind_links t mesh old.base kind) old now
      (flat_map {X = List ℕ} {A = Link} (face_links t mesh old.base kind) (cut sizes corners))
  pub named : All {X = List ℕ} (Names mesh) (cut sizes corners)
  pub whole : sum sizes ≡ length corners
  pub base : now.base ≡ old.base

pub face_named : (t : MeshSettings) (mesh : ObjMesh) (kind : Kind) (old now : FoundLinks) (s : ℕ) (sizes corners : List ℕ)
    → FacesSoFar t mesh kind old now (s ∷ sizes) corners → Names mesh (take s corners)
face_named t mesh kind old now s sizes corners so_far = All-head {X = List ℕ} (Names mesh) (take s corners)
    (cut sizes (drop s corners)) so_far.named

pub faces_next : (t : MeshSettings) (mesh : ObjMesh) (kind : Kind) (old mid now : FoundLinks) (s : ℕ) (sizes corners : List ℕ)
    → FacesSoFar t mesh kind old mid (s ∷ sizes) corners → Adds (face_links t mesh mid.base kind (take s corners)) mid now
    → FacesSoFar t mesh kind old now sizes (drop s corners)
faces_next t mesh kind old mid now s sizes corners so_far adds =
    let all : s + sum sizes ≡ length corners = sym (sum_by-cons (λ x. x) s sizes) ∙ so_far.whole in
    record {
      links = so_far_next (kind_links t mesh old.base kind) old mid now (face_links t mesh old.base kind (take s corners))
          (flat_map {X = List ℕ} {A = Link} (face_links t mesh old.base kind) (cut sizes (drop s corners))) _ so_far.links refl
          (subst (λ (b : ℕ). Adds (face_links t mesh b kind (take s corners)) mid now) so_far.base adds);
      named = All-tail {X = List ℕ} (Names mesh) (take s corners) (cut sizes (drop s corners)) so_far.named;
      whole = omega (arith, all, length-drop s corners);
      base = adds.base ∙ so_far.base;
    }

pub faces_stop : (t : MeshSettings) (mesh : ObjMesh) (kind : Kind) (old mid : FoundLinks) (s : ℕ) (sizes corners : List ℕ)
    (fault : ObjFault) → FacesSoFar t mesh kind old mid (s ∷ sizes) corners
    → IsStopped (face_links t mesh mid.base kind (take s corners)) mid fault → IsStopped (kind_links t mesh old.base kind) old fault
faces_stop t mesh kind old mid s sizes corners fault so_far stopped =
    so_far_stops (kind_links t mesh old.base kind) old mid (face_links t mesh old.base kind (take s corners))
    (flat_map {X = List ℕ} {A = Link} (face_links t mesh old.base kind) (cut sizes (drop s corners))) _ fault so_far.links refl
    (subst (λ (b : ℕ). IsStopped (face_links t mesh b kind (take s corners)) mid fault) so_far.base stopped)

pub sizes_at : (sizes : List ℕ) (i : ℕ) → i < length sizes → drop i sizes ≡ get_or sizes i 0 ∷ drop (i + 1) sizes
sizes_at sizes i lt = drop_more sizes i 0 lt

at_size : (t : MeshSettings) (mesh : ObjMesh) (kind : Kind) (old now : FoundLinks) (sizes : List ℕ) (i : ℕ) (corners : List ℕ)
    → FacesSoFar t mesh kind old now (drop i sizes) corners → i < length sizes
    → FacesSoFar t mesh kind old now (get_or sizes i 0 ∷ drop (i + 1) sizes) corners
at_size t mesh kind old now sizes i corners so_far lt = subst (λ (left : List ℕ). FacesSoFar t mesh kind old now left corners)
    (sizes_at sizes i lt) so_far

pub face_named_at : (t : MeshSettings) (mesh : ObjMesh) (kind : Kind) (old now : FoundLinks) (sizes : List ℕ) (i : ℕ)
    (corners face : List ℕ) → FacesSoFar t mesh kind old now (drop i sizes) corners → i < length sizes
    → face ≡ take (get_or sizes i 0) corners → Names mesh face
face_named_at t mesh kind old now sizes i corners face so_far lt is =
    subst (λ (f : List ℕ). Names mesh f) (sym is) (face_named t mesh kind old now (get_or sizes i 0) (drop (i + 1) sizes) corners
    (at_size t mesh kind old now sizes i corners so_far lt))

pub faces_next_at : (t : MeshSettings) (mesh : ObjMesh) (kind : Kind) (old mid now : FoundLinks) (sizes : List ℕ) (i : ℕ)
    (corners face behind : List ℕ) → FacesSoFar t mesh kind old mid (drop i sizes) corners → i < length sizes
    → face ≡ take (get_or sizes i 0) corners → behind ≡ drop (get_or sizes i 0) corners
    → Adds (face_links t mesh mid.base kind face) mid now
    → FacesSoFar t mesh kind old now (drop (i + 1) sizes) behind
faces_next_at t mesh kind old mid now sizes i corners face behind so_far lt front back adds =
    subst (λ (left : List ℕ). FacesSoFar t mesh kind old now (drop (i + 1) sizes) left) (sym back)
    (faces_next t mesh kind old mid now (get_or sizes i 0) (drop (i + 1) sizes) corners
    (at_size t mesh kind old mid sizes i corners so_far lt)
    (subst (λ (f : List ℕ). Adds (face_links t mesh mid.base kind f) mid now) front adds))

pub faces_stop_at : (t : MeshSettings) (mesh : ObjMesh) (kind : Kind) (old mid : FoundLinks) (sizes : List ℕ) (i : ℕ)
    (corners face : List ℕ) (fault : ObjFault) → FacesSoFar t mesh kind old mid (drop i sizes) corners → i < length sizes
    → face ≡ take (get_or sizes i 0) corners → IsStopped (face_links t mesh mid.base kind face) mid fault
    → IsStopped (kind_links t mesh old.base kind) old fault
faces_stop_at t mesh kind old mid sizes i corners face fault so_far lt front stopped =
    faces_stop t mesh kind old mid (get_or sizes i 0) (drop (i + 1) sizes) corners fault
    (at_size t mesh kind old mid sizes i corners so_far lt)
    (subst (λ (f : List ℕ). IsStopped (face_links t mesh mid.base kind f) mid fault) front stopped)

-- ---- all kinds

abbrev all_links : MeshSettings → ObjMesh → ℕ → List Link
all_links t mesh base = kind_links t mesh base Stretch ++ (kind_links t mesh base Shear ++ bend_links t mesh base)

full_at : (links : List Link) (room : ℕ) (start : FoundLinks) (whole : List Link) (fault : ObjFault) → start.links ≡ [] → start.room ≡ room
    → each_once [] whole ≡ links → IsStopped whole start fault → IsFullAt links room fault
full_at links room start whole fault none at is (inl memory) = inl memory
full_at links room start whole fault none at is (inr full) =
    inr (
      full.0,
      let size : length (each_once start.links whole) ≡ length links = ap length (ap (λ kept. each_once kept whole) none ∙ is) in
          omega (arith, full.1, at, size),
    )

-- what was added before, and what is still to come
pub record KindsSoFar (t : MeshSettings) (mesh : ObjMesh) (start now : FoundLinks) (rest : List Link) : Type 0 where
  pub none : start.links ≡ []
  pub base : now.base ≡ start.base
  pub links : SoFar (all_links t mesh start.base) start now rest

-- `make` gives the links of a mesh whose first vertex is a particle
kinds_next : (t : MeshSettings) (mesh : ObjMesh) (start mid now : FoundLinks) (make : ℕ → List Link) (rest left : List Link)
    → KindsSoFar t mesh start mid left → left ≡ make start.base ++ rest → Adds (make mid.base) mid now → KindsSoFar t mesh start now rest
kinds_next t mesh start mid now make rest left so_far is adds = record {
  none = so_far.none;
  base = adds.base ∙ so_far.base;
  links = so_far_next (all_links t mesh start.base) start mid now (make start.base) rest left so_far.links is
      (subst (λ (b : ℕ). Adds (make b) mid now) so_far.base adds);
}

kinds_stop : (t : MeshSettings) (mesh : ObjMesh) (start mid : FoundLinks) (make : ℕ → List Link) (rest left : List Link) (fault : ObjFault)
    → KindsSoFar t mesh start mid left → left ≡ make start.base ++ rest → IsStopped (make mid.base) mid fault
    → IsFullAt (mesh_links t mesh start.base) start.room fault
unfolding mesh_links
kinds_stop t mesh start mid make rest left fault so_far is stopped =
    full_at (each_once [] (all_links t mesh start.base)) start.room start (all_links t mesh start.base) fault so_far.none refl refl
    (so_far_stops (all_links t mesh start.base) start mid (make start.base) rest left fault so_far.links is
    (subst (λ (b : ℕ). IsStopped (make b) mid fault) so_far.base stopped))

at_start : (t : MeshSettings) (mesh : ObjMesh) (start : FoundLinks) → HoldsJoined start → start.links ≡ []
    → KindsSoFar t mesh start start (all_links t mesh start.base)
at_start t mesh start held none = record {
  none = none;
  base = refl;
  links = so_far_begins (all_links t mesh start.base) start (all_links t mesh start.base) held refl;
}

after_stretch : (t : MeshSettings) (mesh : ObjMesh) (start mid : FoundLinks) → HoldsJoined start → start.links ≡ []
    → Adds (kind_links t mesh start.base Stretch) start mid
    → KindsSoFar t mesh start mid (kind_links t mesh start.base Shear ++ bend_links t mesh start.base)
after_stretch t mesh start mid held none first = kinds_next t mesh start start mid (λ b. kind_links t mesh b Stretch)
    (kind_links t mesh start.base Shear ++ bend_links t mesh start.base) (all_links t mesh start.base)
    (at_start t mesh start held none) refl first

after_shear : (t : MeshSettings) (mesh : ObjMesh) (start mid last : FoundLinks) → HoldsJoined start → start.links ≡ []
    → Adds (kind_links t mesh start.base Stretch) start mid → Adds (kind_links t mesh mid.base Shear) mid last
    → KindsSoFar t mesh start last (bend_links t mesh start.base)
after_shear t mesh start mid last held none first second =
    kinds_next t mesh start mid last (λ b. kind_links t mesh b Shear) (bend_links t mesh start.base)
    (kind_links t mesh start.base Shear ++ bend_links t mesh start.base) (after_stretch t mesh start mid held none first) refl second

pub stretch_stops : (t : MeshSettings) (mesh : ObjMesh) (start : FoundLinks) (fault : ObjFault) → HoldsJoined start → start.links ≡ []
    → IsStopped (kind_links t mesh start.base Stretch) start fault → IsFullAt (mesh_links t mesh start.base) start.room fault
stretch_stops t mesh start fault held none stopped = kinds_stop t mesh start start (λ b. kind_links t mesh b Stretch)
    (kind_links t mesh start.base Shear ++ bend_links t mesh start.base) (all_links t mesh start.base) fault
    (at_start t mesh start held none) refl stopped

pub shear_stops : (t : MeshSettings) (mesh : ObjMesh) (start mid : FoundLinks) (fault : ObjFault) → HoldsJoined start → start.links ≡ []
    → Adds (kind_links t mesh start.base Stretch) start mid → IsStopped (kind_links t mesh mid.base Shear) mid fault
    → IsFullAt (mesh_links t mesh start.base) start.room fault
shear_stops t mesh start mid fault held none first stopped =
    kinds_stop t mesh start mid (λ b. kind_links t mesh b Shear) (bend_links t mesh start.base)
    (kind_links t mesh start.base Shear ++ bend_links t mesh start.base) fault (after_stretch t mesh start mid held none first) refl stopped

pub bends_stop : (t : MeshSettings) (mesh : ObjMesh) (start mid last : FoundLinks) (fault : ObjFault) → HoldsJoined start → start.links ≡ []
    → Adds (kind_links t mesh start.base Stretch) start mid → Adds (kind_links t mesh mid.base Shear) mid last
    → IsStopped (bend_links t mesh last.base) last fault → IsFullAt (mesh_links t mesh start.base) start.room fault
bends_stop t mesh start mid last fault held none first second stopped =
    kinds_stop t mesh start last (λ b. bend_links t mesh b) [] (bend_links t mesh start.base) fault
    (after_shear t mesh start mid last held none first second) (sym (append-nil (bend_links t mesh start.base))) stopped

pub mesh_links_are : (t : MeshSettings) (mesh : ObjMesh) (start mid last now : FoundLinks) → HoldsJoined start → start.links ≡ []
    → Adds (kind_links t mesh start.base Stretch) start mid → Adds (kind_links t mesh mid.base Shear) mid last
    → Adds (bend_links t mesh last.base) last now → now.links ≡ mesh_links t mesh start.base
unfolding mesh_links
mesh_links_are t mesh start mid last now held none first second third =
    let so_far = kinds_next t mesh start last now (λ b. bend_links t mesh b) [] (bend_links t mesh start.base)
    (after_shear t mesh start mid last held none first second) (sym (append-nil (bend_links t mesh start.base))) third in
    let done = (so_far.links).done in
    let all : done ≡ all_links t mesh start.base = sym (append-nil done) ∙ (so_far.links).makes in
    ((so_far.links).adds).links ∙ (ap (λ kept. each_once kept done) none ∙ ap (each_once []) all)
