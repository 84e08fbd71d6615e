-- Which faces share an edge, counted one by one, and the links that come of it.
use Rattle.std.proofs.Common.{◌≡◌, ◌∙◌, sym, ap, refl, ℕ, ◌+◌, ◌<◌, Bool, true, false, List, [], ◌∷◌, ◌++◌, length, get_or, drop, filter}
use Rattle.std.proofs.Common.{Option, Some, append-nil, subst}
use Rattle.std.specs.Prelude.{◌==◌, cond, All}
use Rattle.std.specs.List.{flat_map, AllByRecursion}
use Rattle.std.specs.BTreeMap.{BTreeMap, get, is_at}
use Rattle.std.proofs.lemmas.Bool.{and_parts, eqb-true}
use Rattle.std.proofs.lemmas.List.{drop_more, map-append}
use Rattle.std.proofs.lemmas.List.Elements.{filter-append}
use Rattle.pbd_world.specs.declared.parts.Link.{Link}
use Rattle.pbd_obj.specs.declared.mesh.ObjMesh.{ObjMesh}
use Rattle.pbd_obj.specs.declared.mesh.ObjFault.{ObjFault}
use Rattle.pbd_obj.specs.declared.settings.LinkSettings.{LinkSettings}
use Rattle.pbd_obj.specs.declared.edges.Edge.{Edge}
use Rattle.pbd_obj.specs.declared.bends.Sharing.{Sharing}
use Rattle.pbd_obj.specs.declared.links.FoundLinks.{FoundLinks}
use Rattle.pbd_obj.specs.Facing.{across, across_edge, facing, has_ends, IsEdgeOf}
use Rattle.pbd_obj.specs.MeshLinks.{bends}
use Rattle.pbd_obj.specs.Nets.{pair_cmp, Adds, HoldsJoined, IsStopped}
use Rattle.pbd_obj.specs.SharedEdges.{across_shared, sharing, with_one, HoldsShared, Notes, SharesWithin}
use Rattle.pbd_obj.proofs.NetLemmas.{pair_same, so_far_begins, so_far_next, so_far_stops, SoFar}
use Rattle.pbd_obj.proofs.EdgeLemmas.{sharers_of}

-- ---- one more

sharing_more : (es : List Edge) (e : Edge) → sharing (es ++ e ∷ []) ≡ Some (with_one (sharing es) e)
sharing_more [] e = refl
sharing_more (a ∷ []) e = refl
sharing_more (a ∷ b ∷ []) e = refl
sharing_more (a ∷ b ∷ c ∷ es) e = refl

pub note_is : (e : Edge) (old now : BTreeMap (ℕ × ℕ) Sharing) (known : Option Sharing) (more : Sharing)
    → known ≡ get pair_cmp old (e.low, e.high) → more ≡ with_one known e
    → ((q : ℕ × ℕ) → get pair_cmp now q ≡ cond (is_at (pair_cmp (e.low, e.high)) q) (Some more) (get pair_cmp old q)) → Notes e old now
unfolding HoldsShared
note_is e old now known more at is grown = λ es held ends.
    grown ends
    ∙ (ap (λ b. cond b (Some more) (get pair_cmp old ends)) (pair_same e.low e.high ends.0 ends.1)
    ∙ (by_test es held ends (has_ends ends e) refl
    ∙ ap sharing (sym (filter-append (has_ends ends) es (e ∷ [])))))
  where
    by_test : (es : List Edge) → ((q : ℕ × ℕ) → get pair_cmp old q ≡ sharing (filter (has_ends q) es)) → (ends : ℕ × ℕ) (b : Bool)
        → has_ends ends e ≡ b → cond (has_ends ends e) (Some more) (get pair_cmp old ends)
        ≡ sharing (filter (has_ends ends) es ++ filter (has_ends ends) (e ∷ []))
    by_test es held ends true t =
        let p = and_parts (e.low == ends.0) (e.high == ends.1) t in
        let same : (e.low, e.high) ≡ ends = ap (λ a. (a, e.high)) (eqb-true e.low ends.0 p.0)
        ∙ ap (λ b. (ends.0, b)) (eqb-true e.high ends.1 p.1) in
        let were : known ≡ sharing (filter (has_ends ends) es) = at
        ∙ (held (e.low, e.high) ∙ ap (λ q. sharing (filter (has_ends q) es)) same) in
        rw t (ap (λ s. Some s) (is ∙ ap (λ k. with_one k e) were) ∙ sym (sharing_more (filter (has_ends ends) es) e))
    by_test es held ends false t = rw t (held ends ∙ ap sharing (sym (append-nil (filter (has_ends ends) es))))

pub shared_none : (shared : BTreeMap (ℕ × ℕ) Sharing) → shared.entries ≡ [] → HoldsShared [] shared
unfolding HoldsShared
shared_none shared none = λ ends. rw none refl

-- ---- what comes of it

within_of : (n : ℕ) (es : List Edge) → AllByRecursion (IsEdgeOf n) es → SharesWithin n (sharing es)
within_of n [] all = tt
within_of n (e ∷ []) all = tt
within_of n (e ∷ f ∷ []) all = (all.0, (all.1).0)
within_of n (e ∷ f ∷ g ∷ es) all = tt

-- what is known of an edge
known_is : (es : List Edge) (ends : ℕ × ℕ) (shared : BTreeMap (ℕ × ℕ) Sharing) (known : Option Sharing) → HoldsShared es shared
    → known ≡ get pair_cmp shared ends → known ≡ sharing (filter (has_ends ends) es)
unfolding HoldsShared
known_is es ends shared known held is = is ∙ held ends

pub known_within : (n : ℕ) (es : List Edge) (ends : ℕ × ℕ) (shared : BTreeMap (ℕ × ℕ) Sharing) (known : Option Sharing)
    → HoldsShared es shared → known ≡ get pair_cmp shared ends → All (IsEdgeOf n) es → SharesWithin n known
known_within n es ends shared known held is all =
    subst (λ (k : Option Sharing). SharesWithin n k) (sym (known_is es ends shared known held is))
    (within_of n (filter (has_ends ends) es) (sharers_of n es ends all))

across_is : (es : List Edge) → across_shared (sharing es) ≡ across es
across_is [] = refl
across_is (e ∷ []) = refl
across_is (e ∷ f ∷ []) = refl
across_is (e ∷ f ∷ g ∷ es) = refl

-- the links of the edges from number i on
abbrev pub bends_left : ObjMesh → ℕ → LinkSettings → List Edge → ℕ → List Link
bends_left mesh base k es i = bends mesh base k (flat_map {X = Edge} {A = ℕ × ℕ} (across_edge es) (drop i es))

abbrev pub FacingSoFar : ObjMesh → LinkSettings → List Edge → FoundLinks → FoundLinks → ℕ → Type 0
FacingSoFar mesh k es old now i = SoFar (bends mesh old.base k (facing es)) old now (bends_left mesh old.base k es i)

pub facing_begins : (mesh : ObjMesh) (k : LinkSettings) (es : List Edge) (old : FoundLinks) → HoldsJoined old
    → FacingSoFar mesh k es old old 0
unfolding facing
facing_begins mesh k es old held = so_far_begins (bends mesh old.base k (facing es)) old (bends_left mesh old.base k es 0) held
    (ap (λ left. bends mesh old.base k (flat_map {X = Edge} {A = ℕ × ℕ} (across_edge es) left)) (from_zero es))
  where
    from_zero : (es : List Edge) → drop 0 es ≡ es
    from_zero [] = refl
    from_zero (e ∷ es) = refl

left_is : (mesh : ObjMesh) (base : ℕ) (k : LinkSettings) (es : List Edge) (i : ℕ) (e d : Edge) (shared : BTreeMap (ℕ × ℕ) Sharing)
    (known : Option Sharing) → HoldsShared es shared → i < length es → e ≡ get_or es i d → known ≡ get pair_cmp shared (e.low, e.high)
    → bends_left mesh base k es i ≡ bends mesh base k (across_shared known) ++ bends_left mesh base k es (i + 1)
left_is mesh base k es i e d shared known held lt same is =
    let left : drop i es ≡ e ∷ drop (i + 1) es = drop_more es i d lt ∙ ap (λ x. x ∷ drop (i + 1) es) (sym same) in
    let here : across_edge es e ≡ across_shared known = sym
    (ap across_shared (known_is es (e.low, e.high) shared known held is) ∙ across_is (filter (has_ends (e.low, e.high)) es)) in
    let rest = flat_map {X = Edge} {A = ℕ × ℕ} (across_edge es) (drop (i + 1) es) in
    ap (λ t. bends mesh base k (flat_map {X = Edge} {A = ℕ × ℕ} (across_edge es) t)) left
    ∙ (ap (λ ps. bends mesh base k (ps ++ rest)) here
    ∙ map-append {A = ℕ × ℕ} {B = Link} _ (across_shared known) rest)

pub facing_next : (mesh : ObjMesh) (k : LinkSettings) (es : List Edge) (old mid now : FoundLinks) (i : ℕ) (e d : Edge)
    (shared : BTreeMap (ℕ × ℕ) Sharing) (known : Option Sharing) → FacingSoFar mesh k es old mid i → HoldsShared es shared → i < length es
    → e ≡ get_or es i d → known ≡ get pair_cmp shared (e.low, e.high) → Adds (bends mesh mid.base k (across_shared known)) mid now
    → FacingSoFar mesh k es old now (i + 1)
facing_next mesh k es old mid now i e d shared known so_far held lt same is adds =
    so_far_next (bends mesh old.base k (facing es)) old mid now (bends mesh old.base k (across_shared known))
    (bends_left mesh old.base k es (i + 1)) (bends_left mesh old.base k es i) so_far
    (left_is mesh old.base k es i e d shared known held lt same is)
    (subst (λ (b : ℕ). Adds (bends mesh b k (across_shared known)) mid now) (so_far.adds).base adds)

pub facing_stops : (mesh : ObjMesh) (k : LinkSettings) (es : List Edge) (old mid : FoundLinks) (i : ℕ) (e d : Edge)
    (shared : BTreeMap (ℕ × ℕ) Sharing) (known : Option Sharing) (fault : ObjFault) → FacingSoFar mesh k es old mid i
    → HoldsShared es shared
    → i < length es → e ≡ get_or es i d → known ≡ get pair_cmp shared (e.low, e.high)
    → IsStopped (bends mesh mid.base k (across_shared known)) mid fault → IsStopped (bends mesh old.base k (facing es)) old fault
facing_stops mesh k es old mid i e d shared known fault so_far held lt same is stopped =
    so_far_stops (bends mesh old.base k (facing es)) old mid (bends mesh old.base k (across_shared known))
    (bends_left mesh old.base k es (i + 1)) (bends_left mesh old.base k es i) fault so_far
    (left_is mesh old.base k es i e d shared known held lt same is)
    (subst (λ (b : ℕ). IsStopped (bends mesh b k (across_shared known)) mid fault) (so_far.adds).base stopped)
