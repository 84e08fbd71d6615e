-- How many links are at each particle, and what adding a mesh comes to.
use Rattle.std.proofs.Common.{◌≡◌, ◌≢◌, ◌⊎◌, ◌∙◌, sym, ap, refl, ℕ, zero, suc, ◌+◌, ◌-◌, ◌%◌, ◌<◌, ◌≤◌, ◌^◌, Bool, true, false, not, ◌||◌}
use Rattle.std.proofs.Common.{List, [], ◌∷◌, ◌++◌, length, get_or, take, drop, map, replicate, arith, inl, inr, append_assoc, append-nil}
use Rattle.std.proofs.Common.{length-append, Option, Some, None, Ok, filter, pos, subst}
use Rattle.std.specs.Prelude.{◌==◌, cond, All, IsTrue, slice_index}
use Rattle.std.specs.List.{list_any, range_with_len, AllByRecursion}
use Rattle.std.proofs.Math.Nat.{mod-eq_of_lt, mod_self}
use Rattle.std.proofs.lemmas.Int.{ints}
use Rattle.std.proofs.lemmas.Bool.{and_parts, cases_eq, cases_lt, eq-eqb, ne_eqb, le-ltb, false≢true, leb-true, not-true, or_parts}
use Rattle.std.proofs.lemmas.Bool.{or_right}
use Rattle.std.proofs.lemmas.List.{drop_more, take_all, take_more, drop_all, map-append}
use Rattle.std.proofs.lemmas.List.Elements.{All-from_recursion, All-get_or, All-weaker, recursion_from_All, filter-append}
use Rattle.pbd_num.specs.declared.Vec3.{Vec3}
use Rattle.pbd_num.specs.Vectors.{is_within, length_of, minus, Within}
use Rattle.pbd_num.proofs.Ranges.{within_facts}
use Rattle.pbd_world.specs.declared.parts.Link.{Link}
use Rattle.pbd_world.specs.declared.parts.Kind.{Kind}
use Rattle.pbd_world.specs.declared.parts.Kind.TheVariants.{Stretch, Shear, Bend, Plain}
use Rattle.pbd_world.specs.declared.parts.Parts.{Parts}
use Rattle.pbd_world.specs.Valid.{join_alike, links_at, is_valid}
use Rattle.pbd_world.proofs.WorldParts.{formed}
use Rattle.pbd_world.proofs.KeepingOn.{all-append, all-flat, all-map, all-range}
use Rattle.pbd_obj.specs.declared.mesh.ObjMesh.{ObjMesh}
use Rattle.pbd_obj.specs.declared.settings.LinkSettings.{LinkSettings}
use Rattle.pbd_obj.specs.declared.settings.MeshSettings.{MeshSettings}
use Rattle.pbd_obj.specs.Meshes.{faces, IsFace, IsMesh}
use Rattle.pbd_obj.specs.Facing.{edges, facing}
use Rattle.pbd_obj.specs.MeshLinks.{bend_links, diagonals, each_once, face_links, first_overfull, kind_links, link, mesh_links}
use Rattle.pbd_obj.specs.MeshLinks.{overfull_end, particles, place_at, ring, side, some_bends, with_all, with_mesh_as}
use Rattle.pbd_obj.specs.Nets.{AreFew, counted_end, CountsLink, FitsNet, HoldsCounts, IsLinkFrom}
use Rattle.pbd_obj.proofs.EdgeLemmas.{facing_named, mesh_edges, IsApart}
use Rattle.pbd_obj.proofs.FaceLemmas.{once}
use Rattle.pbd_world.proofs.ApartLemmas.{nobody}

-- ---- counts

count_case : (b : Bool) (l : Link) → length (cond b (l ∷ []) []) ≡ cond b 1 0
count_case true l = refl
count_case false l = refl

-- one link more
pub links_push : (links : List Link) (l : Link) (i : ℕ) → links_at (links ++ l ∷ []) i ≡ links_at links i + cond (l.a == i || l.b == i) 1 0
links_push links l i =
    ap length (filter-append {X = Link} (λ m. m.a == i || m.b == i) links (l ∷ []))
    ∙ (length-append (filter {X = Link} (λ m. m.a == i || m.b == i) links) (filter {X = Link} (λ m. m.a == i || m.b == i) (l ∷ []))
    ∙ ap (λ n. links_at links i + n) (count_case (l.a == i || l.b == i) l))

zeros : (n v : ℕ) → slice_index (replicate n 0) v ≡ 0
zeros zero v = refl
zeros (suc n) zero = refl
zeros (suc n) (suc v) = zeros n v

-- the counts of the links before link i, and what is still to be looked at
pub record CountsSoFar (base vertices : ℕ) (links : List Link) (i : ℕ) (counts : List ℕ) : Type 0 where
  pub size : length counts ≡ vertices
  pub holds : HoldsCounts base (take i links) counts
  pub left : first_overfull (take i links) (drop i links) ≡ first_overfull [] links

pub counts_begin : (base vertices : ℕ) (links : List Link) (counts : List ℕ) → counts ≡ replicate vertices 0
    → CountsSoFar base vertices links 0 counts
counts_begin base vertices links counts is = record {
  size = rw is (length_zeros vertices);
  holds = rw (nobody links) (record {
    counts_at = λ v lt. rw is (zeros vertices v);
    few = λ v lt. rw is (let e = zeros vertices v in omega (arith, e));
  });
  left = rw (nobody links) (ap (first_overfull []) (from_zero links));
}
  where
    length_zeros : (n : ℕ) → length {A = ℕ} (replicate n 0) ≡ n
    length_zeros zero = refl
    length_zeros (suc n) = ap suc (length_zeros n)

    from_zero : (links : List Link) → drop 0 links ≡ links
    from_zero [] = refl
    from_zero (l ∷ ls) = refl

back : (base i : ℕ) → base ≤ i → base + (i - base) ≡ i
back base i le = omega (arith, le)

below : (base vertices i : ℕ) → base ≤ i → i < base + vertices → i - base < vertices
below base vertices i low high = omega (arith, low, high)

-- what the counts say of a link
counted_is : (base : ℕ) (links : List Link) (counts : List ℕ) (l : Link) → HoldsCounts base links counts → IsLinkFrom base (length counts) l
    → counted_end base counts l ≡ overfull_end links l
counted_is base links counts l holds from =
    let a : slice_index counts (l.a - base) ≡ links_at links l.a =
    holds.counts_at (l.a - base) (below base (length counts) l.a from.a_low from.a_high)
    ∙ ap (links_at links) (back base l.a from.a_low) in
    let b : slice_index counts (l.b - base) ≡ links_at links l.b =
    holds.counts_at (l.b - base) (below base (length counts) l.b from.b_low from.b_high)
    ∙ ap (links_at links) (back base l.b from.b_low) in
    rw (a, b) refl

some_first : (before links more : List Link) (l : Link) (i : ℕ) → links ≡ l ∷ more → overfull_end before l ≡ Some i
    → first_overfull before links ≡ Some i
some_first before links more l i are is = rw (are, is) refl

none_first : (before links more : List Link) (l : Link) → links ≡ l ∷ more → overfull_end before l ≡ None
    → first_overfull before links ≡ first_overfull (before ++ l ∷ []) more
none_first before links more l are is = rw (are, is) refl

-- a link at which there are 32 already
pub counts_found : (base vertices : ℕ) (links : List Link) (i : ℕ) (counts : List ℕ) (l d : Link) (end : ℕ)
    → CountsSoFar base vertices links i counts → i < length links → l ≡ get_or links i d → IsLinkFrom base vertices l
    → Some end ≡ counted_end base counts l → Some end ≡ first_overfull [] links
counts_found base vertices links i counts l d end so_far lt same from is =
    let from_counts : IsLinkFrom base (length counts) l = rw so_far.size from in
    let here : overfull_end (take i links) l ≡ Some end = sym (counted_is base (take i links) counts l so_far.holds from_counts) ∙ sym is in
    let are : drop i links ≡ l ∷ drop (i + 1) links = drop_more links i d lt ∙ ap (λ m. m ∷ drop (i + 1) links) (sym same) in
    sym (some_first (take i links) (drop i links) (drop (i + 1) links) l end are here) ∙ so_far.left

pub not_full : (n : ℕ) → (n == 32) ≡ false → n ≢ 32
not_full n t e = false≢true (sym t ∙ eq-eqb n 32 e)

-- neither end is full
ends_free : (base : ℕ) (counts : List ℕ) (l : Link) → None ≡ counted_end base counts l
    → (slice_index counts (l.a - base) ≢ 32) × (slice_index counts (l.b - base) ≢ 32)
ends_free base counts l is = first_case (slice_index counts (l.a - base) == 32) refl is
  where
    second_case : (c : Bool) → (slice_index counts (l.b - base) == 32) ≡ c → None ≡ cond c (Some l.b) None
        → slice_index counts (l.b - base) ≢ 32
    second_case true t e = cc
    second_case false t e = not_full (slice_index counts (l.b - base)) t

    first_case : (c : Bool) → (slice_index counts (l.a - base) == 32) ≡ c
        → None ≡ cond c (Some l.a) (cond (slice_index counts (l.b - base) == 32) (Some l.b) None)
        → (slice_index counts (l.a - base) ≢ 32) × (slice_index counts (l.b - base) ≢ 32)
    first_case true t e = cc
    first_case false t e = (not_full (slice_index counts (l.a - base)) t, second_case (slice_index counts (l.b - base) == 32) refl e)

cases_link : (base : ℕ) (links : List Link) (l : Link) (old now : List ℕ) (v : ℕ) → IsLinkFrom base (length old) l
    → HoldsCounts base links old → CountsLink base l old now → v < length old → slice_index now v ≡ links_at (links ++ l ∷ []) (base + v)
cases_link base links l old now v from holds counts lt = elim (cases_eq v (l.a - base)) [
  | inl e ↦ (
      let at : l.a ≡ base + v = sym (back base l.a from.a_low) ∙ ap (λ k. base + k) (sym e) in
      let test : (l.a == base + v || l.b == base + v) ≡ true = rw (eq-eqb l.a (base + v) at) refl in
      let old_at : slice_index old v ≡ links_at links (base + v) = holds.counts_at v lt in
      let now_at : slice_index now v ≡ slice_index old v + 1 = ap (slice_index now) e
      ∙ (counts.first ∙ ap (λ k. slice_index old k + 1) (sym e)) in
      now_at ∙ (ap (λ n. n + 1) old_at ∙ sym (links_push links l (base + v) ∙ ap (λ b. links_at links (base + v) + cond b 1 0) test)))
  | inr n ↦ elim (cases_eq v (l.b - base)) [
    | inl e ↦ (
        let at : l.b ≡ base + v = sym (back base l.b from.b_low) ∙ ap (λ k. base + k) (sym e) in
        let test : (l.a == base + v || l.b == base + v) ≡ true = or_right (l.a == base + v) (l.b == base + v) (eq-eqb l.b (base + v) at) in
        let old_at : slice_index old v ≡ links_at links (base + v) = holds.counts_at v lt in
        let now_at : slice_index now v ≡ slice_index old v + 1 = ap (slice_index now) e
        ∙ (counts.second ∙ ap (λ k. slice_index old k + 1) (sym e)) in
        now_at ∙ (ap (λ n. n + 1) old_at ∙ sym (links_push links l (base + v) ∙ ap (λ b. links_at links (base + v) + cond b 1 0) test)))
    | inr m ↦ (
        let not_a : l.a ≡ base + v → ⊥ = λ e. n (omega (arith, e)) in
        let not_b : l.b ≡ base + v → ⊥ = λ e. m (omega (arith, e)) in
        let test : (l.a == base + v || l.b == base + v) ≡ false = rw (ne_eqb l.a (base + v) not_a, ne_eqb l.b (base + v) not_b) refl in
        let old_at : slice_index old v ≡ links_at links (base + v) = holds.counts_at v lt in
        counts.others v n m ∙ (old_at ∙ (sym (omega arith) ∙ sym
        (links_push links l (base + v) ∙ ap (λ b. links_at links (base + v) + cond b 1 0) test))))
  ]
]

few_link : (base : ℕ) (l : Link) (old now : List ℕ) → AreFew old → None ≡ counted_end base old l → IsLinkFrom base (length old) l
    → CountsLink base l old now → AreFew now
few_link base l old now few free from counts = λ v lt.
    let ends = ends_free base old l free in
    let inside : v < length old = omega (arith, lt, counts.size) in
    let low = few v inside in
    elim (cases_eq v (l.a - base)) [
      | inl e ↦ (let below_full : slice_index old (l.a - base) ≢ 32 = ends.0 in
          let most : slice_index old (l.a - base) ≤ 32 = ap_le e low in
          let now_at : slice_index now v ≡ slice_index old (l.a - base) + 1 = ap (slice_index now) e ∙ counts.first in
          omega (arith, below_full, most, now_at))
      | inr n ↦ elim (cases_eq v (l.b - base)) [
        | inl e ↦ (let below_full : slice_index old (l.b - base) ≢ 32 = ends.1 in
            let most : slice_index old (l.b - base) ≤ 32 = ap_le e low in
            let now_at : slice_index now v ≡ slice_index old (l.b - base) + 1 = ap (slice_index now) e ∙ counts.second in
            omega (arith, below_full, most, now_at))
        | inr m ↦ (let same = counts.others v n m in omega (arith, same, low))
      ]
    ]
  where
    ap_le : {v w : ℕ} → v ≡ w → slice_index old v ≤ 32 → slice_index old w ≤ 32
    ap_le e le = rw (← e) le

-- one link more
pub counts_next : (base vertices : ℕ) (links : List Link) (i : ℕ) (counts now : List ℕ) (l d : Link)
    → CountsSoFar base vertices links i counts → i < length links → l ≡ get_or links i d → IsLinkFrom base vertices l
    → None ≡ counted_end base counts l → CountsLink base l counts now → CountsSoFar base vertices links (i + 1) now
counts_next base vertices links i counts now l d so_far lt same from free counted =
    let from_counts : IsLinkFrom base (length counts) l = rw so_far.size from in
    let taken : take (i + 1) links ≡ take i links ++ l ∷ [] = take_more links i d lt ∙ ap (λ m. take i links ++ m ∷ []) (sym same) in
    let are : drop i links ≡ l ∷ drop (i + 1) links = drop_more links i d lt ∙ ap (λ m. m ∷ drop (i + 1) links) (sym same) in
    let none : overfull_end (take i links) l ≡ None = sym (counted_is base (take i links) counts l so_far.holds from_counts) ∙ sym free in
    record {
      size = counted.size ∙ so_far.size;
      holds = rw taken (record {
        counts_at = λ v inside. cases_link base (take i links) l counts now v from_counts so_far.holds counted
            (omega (arith, inside, counted.size));
        few = few_link base l counts now so_far.holds.few free from_counts counted;
      });
      left = ap (λ ls. first_overfull ls (drop (i + 1) links)) taken
          ∙ (sym (none_first (take i links) (drop i links) (drop (i + 1) links) l are none) ∙ so_far.left);
    }

-- all links
pub counts_end : (base vertices : ℕ) (links : List Link) (i : ℕ) (counts : List ℕ) → CountsSoFar base vertices links i counts
    → length links ≤ i → None ≡ first_overfull [] links
counts_end base vertices links i counts so_far le =
    let none : drop i links ≡ [] = drop_all i links le in
    sym (ap (first_overfull (take i links)) none) ∙ so_far.left

-- ---- the ends of the links of a mesh

differ_from : (x c : ℕ) (front : List ℕ) (k : ℕ) → list_any (λ b. x == b) front ≡ false → k < length front → x ≢ get_or front k 0
differ_from x c [] k none lt = absurd (omega (arith, lt))
differ_from x c (y ∷ front) zero none lt = λ e. false≢true (sym (or_parts (x == y) (list_any (λ b. x == b) front) none).0 ∙ eq-eqb x y e)
differ_from x c (y ∷ front) (suc k) none lt = differ_from x c front k (or_parts (x == y) (list_any (λ b. x == b) front) none).1
    (omega (arith, lt))

-- two places of a list in which no number stands twice
once_apart : (ns : List ℕ) (i j : ℕ) → once ns ≡ true → i < j → j < length ns → get_or ns i 0 ≢ get_or ns j 0
once_apart [] i j is lt within = absurd (omega (arith, within))
once_apart (x ∷ ns) i zero is lt within = absurd (omega (arith, lt))
once_apart (x ∷ ns) zero (suc j) is lt within = differ_from x 0 ns j
    (not-true (list_any (λ b. x == b) ns) (and_parts (not (list_any (λ b. x == b) ns)) (once ns) is).0) (omega (arith, within))
once_apart (x ∷ ns) (suc i) (suc j) is lt within = once_apart ns i j (and_parts (not (list_any (λ b. x == b) ns)) (once ns) is).1
    (omega (arith, lt)) (omega (arith, within))

-- the links of a kind have these settings
abbrev pub Has : MeshSettings → LinkSettings → Type 0
Has t k = (k ≡ t.stretch) ⊎ ((k ≡ t.shear) ⊎ (t.bend ≡ Some k))

-- a link of a mesh, whose first vertex is particle `base`
pub record Made (t : MeshSettings) (mesh : ObjMesh) (base : ℕ) (l : Link) : Type 0 where
  pub from : IsLinkFrom base (length mesh.places) l
  pub rest : (i : ℕ) × (j : ℕ) × (i < length mesh.places) × (j < length mesh.places)
      × (l.rest ≡ pos (length_of (minus (place_at mesh i) (place_at mesh j))))
  pub settings : (k : LinkSettings) × Has t k × (l.k ≡ k.stiffness) × (l.tear ≡ k.tear)
  pub live : l.live ≡ true

link_from : (t : MeshSettings) (mesh : ObjMesh) (base : ℕ) (kind : Kind) (k : LinkSettings) (ends : ℕ × ℕ) → Has t k
    → ends.0 < length mesh.places → ends.1 < length mesh.places → ends.0 ≢ ends.1 → Made t mesh base (link mesh base kind k ends)
unfolding link
link_from t mesh base kind k ends has first second apart = record {
  from = record {
    a_low = omega arith;
    a_high = omega (arith, first);
    b_low = omega arith;
    b_high = omega (arith, second);
    apart = λ e. apart (omega (arith, e));
  };
  rest = (ends.0, ends.1, first, second, refl);
  settings = (k, has, refl, refl);
  live = refl;
}

-- the next of n places, the first after the last
next_place : (n i : ℕ) → 3 ≤ n → i < n → (((i + 1) % n ≡ i + 1) × (i + 1 < n)) ⊎ (((i + 1) % n ≡ 0) × (i + 1 ≡ n))
next_place n i three lt = elim (cases_lt (i + 1) n) [
  | inl less ↦ inl (mod-eq_of_lt less, less)
  | inr more ↦ (let e : i + 1 ≡ n = omega (arith, lt, more) in inr (rw e (mod_self n), e))
]

side_from : (t : MeshSettings) (mesh : ObjMesh) (base : ℕ) (face : List ℕ) (i : ℕ) → IsFace (length mesh.places) face → i < length face
    → Made t mesh base (link mesh base Stretch t.stretch (side face i))
side_from t mesh base face i is lt =
    let named : (k : ℕ) → k < length face → get_or face k 0
    < length mesh.places = λ k within. All-get_or (λ corner. corner < length mesh.places) face k 0 within is.within in
    elim (next_place (length face) i is.size lt) [
      | inl h ↦ link_from t mesh base Stretch t.stretch (side face i) (inl refl) (named i lt) (rw h.0 (named (i + 1) h.1))
          (rw h.0 (once_apart face i (i + 1) is.once (omega arith) h.1))
      | inr h ↦ (let wide = is.size in link_from t mesh base Stretch t.stretch (side face i) (inl refl) (named i lt)
          (rw h.0 (named 0 (omega (arith, wide)))) (rw h.0 (λ e. once_apart face 0 i is.once (omega (arith, wide, h.1)) lt (sym e))))
    ]

diagonals_from : (t : MeshSettings) (mesh : ObjMesh) (base : ℕ) (face : List ℕ) → IsFace (length mesh.places) face
    → AllByRecursion (λ ends. Made t mesh base (link mesh base Shear t.shear ends)) (diagonals face)
diagonals_from t mesh base (a ∷ b ∷ c ∷ d ∷ []) is =
    let named : (k : ℕ) → k < length (a ∷ b ∷ c ∷ d ∷ []) → get_or (a ∷ b ∷ c ∷ d ∷ []) k 0
    < length mesh.places = λ k within. All-get_or (λ corner. corner < length mesh.places) (a ∷ b ∷ c ∷ d ∷ []) k 0 within is.within in (
      link_from t mesh base Shear t.shear (a, c) (inr (inl refl)) (named 0 (omega arith)) (named 2 (omega arith))
          (once_apart (a ∷ b ∷ c ∷ d ∷ []) 0 2 is.once (omega arith) (omega arith)),
      (
        link_from t mesh base Shear t.shear (b, d) (inr (inl refl)) (named 1 (omega arith)) (named 3 (omega arith))
            (once_apart (a ∷ b ∷ c ∷ d ∷ []) 1 3 is.once (omega arith) (omega arith)),
        tt,
      ),
    )
diagonals_from t mesh base [] is = tt
diagonals_from t mesh base (a ∷ []) is = tt
diagonals_from t mesh base (a ∷ b ∷ []) is = tt
diagonals_from t mesh base (a ∷ b ∷ c ∷ []) is = tt
diagonals_from t mesh base (a ∷ b ∷ c ∷ d ∷ e ∷ more) is = tt

face_from : (t : MeshSettings) (mesh : ObjMesh) (base : ℕ) (kind : Kind) (face : List ℕ) → IsFace (length mesh.places) face
    → AllByRecursion {X = Link} (Made t mesh base) (face_links t mesh base kind face)
face_from t mesh base Stretch face is = all-map {A = ℕ × ℕ} {B = Link} (Made t mesh base) (link mesh base Stretch t.stretch) (ring face)
    (all-map {A = ℕ} {B = ℕ × ℕ} (λ ends. Made t mesh base (link mesh base Stretch t.stretch ends)) (side face)
    (range_with_len 0 (length face)) (all-range (λ i. Made t mesh base (link mesh base Stretch t.stretch (side face i))) 0 (length face)
    (λ k low high. side_from t mesh base face k is (omega (arith, high)))))
face_from t mesh base Shear face is = all-map {A = ℕ × ℕ} {B = Link} (Made t mesh base) (link mesh base Shear t.shear) (diagonals face)
    (diagonals_from t mesh base face is)
face_from t mesh base Bend face is = tt
face_from t mesh base Plain face is = tt

kind_from : (t : MeshSettings) (mesh : ObjMesh) (base : ℕ) (kind : Kind) → IsMesh mesh
    → AllByRecursion {X = Link} (Made t mesh base) (kind_links t mesh base kind)
kind_from t mesh base kind is = all-flat {A = List ℕ} {B = Link} (λ face. IsFace (length mesh.places) face) (Made t mesh base)
    (face_links t mesh base kind) (λ face h. face_from t mesh base kind face h) (faces mesh)
    (recursion_from_All {X = List ℕ} (λ face. IsFace (length mesh.places) face) (faces mesh) is.faces)

bends_from : (t : MeshSettings) (mesh : ObjMesh) (base : ℕ) (o : Option LinkSettings) → t.bend ≡ o → IsMesh mesh
    → AllByRecursion {X = Link} (Made t mesh base) (some_bends o mesh base)
bends_from t mesh base None at is = tt
bends_from t mesh base (Some k) at is = all-map {A = ℕ × ℕ} {B = Link} (Made t mesh base) (link mesh base Bend k)
    (facing (edges (faces mesh))) (each (facing (edges (faces mesh)))
    (facing_named (length mesh.places) (edges (faces mesh)) (mesh_edges mesh is)))
  where
    each : (ps : List (ℕ × ℕ)) → AllByRecursion (IsApart (length mesh.places)) ps
        → AllByRecursion (λ ends. Made t mesh base (link mesh base Bend k ends)) ps
    each [] all = tt
    each (p ∷ ps) all = (link_from t mesh base Bend k p (inr (inr at)) (all.0).0 (all.0).1 (all.0).2, each ps all.1)

once_keeps : (P : Link → Type 0) (kept ls : List Link) → AllByRecursion P kept → AllByRecursion P ls → AllByRecursion P (each_once kept ls)
once_keeps P kept [] h k = h
once_keeps P kept (l ∷ ls) h k = once_keeps P (cond (list_any (join_alike l) kept) kept (kept ++ l ∷ [])) ls
    (either (list_any (join_alike l) kept)) k.1
  where
    either : (b : Bool) → AllByRecursion P (cond b kept (kept ++ l ∷ []))
    either true = h
    either false = all-append P kept (l ∷ []) h (k.0, tt)

pub mesh_links_made : (t : MeshSettings) (mesh : ObjMesh) (base : ℕ) → IsMesh mesh
    → AllByRecursion {X = Link} (Made t mesh base) (mesh_links t mesh base)
unfolding mesh_links
mesh_links_made t mesh base is =
    let across = all-append (Made t mesh base) (kind_links t mesh base Shear) (bend_links t mesh base) (kind_from t mesh base Shear is)
    (bends_from t mesh base t.bend refl is) in
    once_keeps (Made t mesh base) [] (kind_links t mesh base Stretch ++ (kind_links t mesh base Shear ++ bend_links t mesh base)) tt
    (all-append (Made t mesh base) (kind_links t mesh base Stretch) (kind_links t mesh base Shear ++ bend_links t mesh base)
    (kind_from t mesh base Stretch is) across)

-- each link of a mesh joins two of its vertices
pub mesh_links_from : (t : MeshSettings) (mesh : ObjMesh) (base : ℕ) → IsMesh mesh
    → All {X = Link} (IsLinkFrom base (length mesh.places)) (mesh_links t mesh base)
mesh_links_from t mesh base is = All-weaker {X = Link} (Made t mesh base) (IsLinkFrom base (length mesh.places)) (λ l made. made.from)
    (mesh_links t mesh base) (All-from_recursion {X = Link} (Made t mesh base) (mesh_links t mesh base) (mesh_links_made t mesh base is))

-- ---- what adding comes to

pub valid_few : (parts : Parts) → IsTrue (is_valid parts) → (length parts.particles ≤ 65536) × (length parts.links ≤ 524288)
unfolding is_valid
valid_few parts valid =
    let f = formed parts (and_parts _ _ (and_parts _ _ (and_parts _ _ valid).0).0).0 in (
      leb-true (length parts.particles) 65536 (and_parts _ _ f.particles).0,
      leb-true (length parts.links) 524288 (and_parts _ _ (and_parts _ _ (and_parts _ _ f.links).0).0).0,
    )

pub mesh_fits : (mesh : ObjMesh) (base : ℕ) → IsMesh mesh → base + length mesh.places ≤ 65536 → FitsNet mesh base
mesh_fits mesh base is le = record {
  room = le;
  inside = All-weaker {X = Vec3} (λ place. IsTrue (is_within (pos 536870912) place)) (λ place. Within (2 ^ 29) place)
      (λ place t. (within_facts (pos 536870912) place (omega (arith, ints))).0 t) mesh.places is.inside;
}

pub mesh_added : (t : MeshSettings) (mesh : ObjMesh) (parts : Parts) → length parts.particles + length mesh.places ≤ 65536
    → length parts.links + length (mesh_links t mesh (length parts.particles)) ≤ 524288
    → None ≡ first_overfull [] (mesh_links t mesh (length parts.particles))
    → with_mesh_as t mesh parts ≡ Ok (with_all (particles t.weight mesh) (mesh_links t mesh (length parts.particles)) parts)
unfolding with_mesh_as
mesh_added t mesh parts few_particles few_links is =
    rw (
      le-ltb 65536 (length parts.particles + length mesh.places) few_particles,
      le-ltb 524288 (length parts.links + length (mesh_links t mesh (length parts.particles))) few_links,
      ← is,
    ) refl

pub links_from_at : (t : MeshSettings) (mesh : ObjMesh) (base vertices : ℕ) (slice links : List Link) → IsMesh mesh
    → vertices ≡ length mesh.places → slice ≡ links → links ≡ mesh_links t mesh base → All {X = Link} (IsLinkFrom base vertices) slice
links_from_at t mesh base vertices slice links is count same are =
    subst (λ (n : ℕ). All {X = Link} (IsLinkFrom base n) slice) (sym count)
    (subst (λ (ls : List Link). All {X = Link} (IsLinkFrom base (length mesh.places)) ls) (sym (same ∙ are))
    (mesh_links_from t mesh base is))

pub added_at : (t : MeshSettings) (mesh : ObjMesh) (parts new : Parts) (base vertices before : ℕ) (slice links : List Link)
    → base ≡ length parts.particles → base ≤ 65536 → vertices ≡ length mesh.places → vertices ≤ 65536 - base → before ≡ length parts.links
    → before ≤ 524288 → length links ≤ 524288 - before → links ≡ mesh_links t mesh base → slice ≡ links → None ≡ first_overfull [] slice
    → new ≡ with_all (particles t.weight mesh) links parts → with_mesh_as t mesh parts ≡ Ok new
added_at t mesh parts new base vertices before slice links at low count fits had room few are same none is =
    let particles_fit : length parts.particles + length mesh.places ≤ 65536 = omega (arith, at, low, count, fits) in
    let all : links ≡ mesh_links t mesh (length parts.particles) = are ∙ ap (mesh_links t mesh) at in
    let size : length links ≡ length (mesh_links t mesh (length parts.particles)) = ap length all in
    let links_fit : length parts.links + length (mesh_links t mesh (length parts.particles))
    ≤ 524288 = omega (arith, size, had, room, few) in
    let found : None ≡ first_overfull [] (mesh_links t mesh (length parts.particles)) = none ∙ ap (first_overfull []) (same ∙ all) in
    mesh_added t mesh parts particles_fit links_fit found ∙ ap (λ p. Ok p)
    (ap (λ ls. with_all (particles t.weight mesh) ls parts) (sym all) ∙ sym is)

-- ---- lists that grow

pub pushed_begin : {A B : Type 0} (f : A → B) (old : List B) (xs : List A) → old ≡ old ++ map f (take 0 xs)
pushed_begin f old [] = sym (append-nil old)
pushed_begin f old (x ∷ xs) = sym (append-nil old)

pub pushed_next : {A B : Type 0} (f : A → B) (old mid now : List B) (xs : List A) (i : ℕ) (x : A) → mid ≡ old ++ map f (take i xs)
    → now ≡ mid ++ f x ∷ [] → i < length xs → x ≡ get_or xs i x → now ≡ old ++ map f (take (i + 1) xs)
pushed_next f old mid now xs i x so_far push lt same =
    let taken : take (i + 1) xs ≡ take i xs ++ x ∷ [] = take_more xs i x lt ∙ ap (λ y. take i xs ++ y ∷ []) (sym same) in
    push ∙ (ap (λ t. t ++ f x ∷ []) so_far ∙ (append_assoc old (map f (take i xs)) (f x ∷ [])
    ∙ ap (λ t. old ++ t) (sym (map-append f (take i xs) (x ∷ [])) ∙ ap (map f) (sym taken))))

pub pushed_all : {A B : Type 0} (f : A → B) (old now : List B) (xs : List A) (i : ℕ) → now ≡ old ++ map f (take i xs) → length xs ≤ i
    → now ≡ old ++ map f xs
pushed_all f old now xs i so_far le = so_far ∙ ap (λ t. old ++ map f t) (take_all i xs le)

pub copied_begin : {A : Type 0} (old xs : List A) → old ≡ old ++ take 0 xs
copied_begin old [] = sym (append-nil old)
copied_begin old (x ∷ xs) = sym (append-nil old)

pub copied_next : {A : Type 0} (old mid now xs : List A) (i : ℕ) (x : A) → mid ≡ old ++ take i xs → now ≡ mid ++ x ∷ [] → i < length xs
    → x ≡ get_or xs i x → now ≡ old ++ take (i + 1) xs
copied_next old mid now xs i x so_far push lt same =
    let taken : take (i + 1) xs ≡ take i xs ++ x ∷ [] = take_more xs i x lt ∙ ap (λ y. take i xs ++ y ∷ []) (sym same) in
    push ∙ (ap (λ t. t ++ x ∷ []) so_far ∙ (append_assoc old (take i xs) (x ∷ []) ∙ ap (λ t. old ++ t) (sym taken)))
