-- Valid parts with a mesh after their own are valid.
use Rattle.std.proofs.Common.{◌≡◌, ◌≢◌, ◌∙◌, sym, ap, refl, ℕ, ◌+◌, ◌<◌, ◌≤◌, ◌^◌, Bool, true, false, not, ◌&&◌, ◌||◌, List, [], ◌∷◌, ◌++◌}
use Rattle.std.proofs.Common.{length, map, All, arith, inl, inr, append_assoc, append-nil, length-append, Option, Some, None, Ok, Err}
use Rattle.std.proofs.Common.{nat_le, nat_lt, ℤ, pos, ◌*ℤ◌, ◌≤ℤ◌, subst}
use Rattle.std.specs.Prelude.{◌==◌, cond, IsTrue}
use Rattle.std.specs.List.{list_all, list_any, AllByRecursion}
use Rattle.std.specs.Option.{option_or}
use Rattle.std.proofs.lemmas.Bool.{and_parts, and_from, cases_eq, eq-eqb, eqb-true, ne_eqb, le-leb, leb-true, lt-ltb, ltb-true}
use Rattle.std.proofs.lemmas.Bool.{ltb-false, or_cases, or_parts}
use Rattle.std.proofs.lemmas.Int.{ints}
use Rattle.std.proofs.lemmas.List.{get_or_append_left, length-map}
use Rattle.std.proofs.lemmas.List.Elements.{All-from_recursion, All-get_or, All-weaker, recursion_from_All}
use Rattle.pbd_num.specs.declared.Vec3.{Vec3}
use Rattle.pbd_num.specs.Vectors.{is_within, Within, zero_vector}
use Rattle.pbd_num.proofs.Ranges.{within_facts}
use Rattle.pbd_mesh.proofs.Meshes.{rest_fits}
use Rattle.pbd_world.specs.declared.parts.Particle.{Particle}
use Rattle.pbd_world.specs.declared.parts.Link.{Link}
use Rattle.pbd_world.specs.declared.parts.Track.{Track}
use Rattle.pbd_world.specs.declared.parts.Kind.TheVariants.{Stretch, Shear}
use Rattle.pbd_world.specs.declared.parts.Parts.{Parts}
use Rattle.pbd_world.specs.Particles.{particle_at, no_particle}
use Rattle.pbd_world.specs.Valid.{is_between, is_valid, is_valid_particle, is_valid_track, are_valid_links, are_valid_tracks, join_alike}
use Rattle.pbd_world.specs.Valid.{links_at, none_twice, are_tracked_held, is_at_rest, ValidLink, ValidLinks}
use Rattle.pbd_world.proofs.WorldParts.{formed, from_formed, Formed}
use Rattle.pbd_world.proofs.TwiceLemmas.{twice_more}
use Rattle.pbd_world.proofs.ValidLinks.{between_facts, links_facts, links_join, IsFrom}
use Rattle.pbd_obj.specs.declared.mesh.ObjMesh.{ObjMesh}
use Rattle.pbd_obj.specs.declared.mesh.ObjFault.TheVariants.{TooMany}
use Rattle.pbd_obj.specs.declared.settings.LinkSettings.{LinkSettings}
use Rattle.pbd_obj.specs.declared.settings.MeshSettings.{MeshSettings}
use Rattle.pbd_obj.specs.Meshes.{IsMesh}
use Rattle.pbd_obj.specs.MeshLinks.{at_rest, bend_links, each_once, first_overfull, kind_links, mesh_links, overfull_end, particles}
use Rattle.pbd_obj.specs.MeshLinks.{place_at, unless_overfull, with_all, with_mesh, with_mesh_as}
use Rattle.pbd_obj.specs.Nets.{FitsNet}
use Rattle.pbd_obj.specs.Settings.{are_link_settings, are_settings, are_some_settings, stiff_settings}
use Rattle.pbd_obj.proofs.AddLemmas.{links_push, Has, Made, mesh_fits, mesh_links_made, not_full}

-- ---- lists

all_joined : {A : Type 0} (test : A → Bool) (xs ys : List A) → list_all test xs ≡ true → list_all test ys ≡ true
    → list_all test (xs ++ ys) ≡ true
all_joined test [] ys h k = k
all_joined test (x ∷ xs) ys h k = let parts = and_parts (test x) (list_all test xs) h in
    and_from (test x) (list_all test (xs ++ ys)) parts.0 (all_joined test xs ys parts.1 k)

all_wider : {A : Type 0} (test p : A → Bool) → ((x : A) → test x ≡ true → p x ≡ true) → (xs : List A) → list_all test xs ≡ true
    → list_all p xs ≡ true
all_wider test p more [] all = refl
all_wider test p more (x ∷ xs) all = let parts = and_parts (test x) (list_all test xs) all in
    and_from (p x) (list_all p xs) (more x parts.0) (all_wider test p more xs parts.1)

all_tested : {A : Type 0} (P : A → Type 0) (test : A → Bool) → ((x : A) → P x → test x ≡ true) → (xs : List A) → AllByRecursion P xs
    → list_all test xs ≡ true
all_tested P test h [] all = refl
all_tested P test h (x ∷ xs) all = and_from (test x) (list_all test xs) (h x all.0) (all_tested P test h xs all.1)

-- ---- no two alike

swapped_tests : (a b c d : Bool) → (a && b || c && d) ≡ (a && b || d && c)
swapped_tests true true c d = refl
swapped_tests true false true true = refl
swapped_tests true false true false = refl
swapped_tests true false false true = refl
swapped_tests true false false false = refl
swapped_tests false b true true = refl
swapped_tests false b true false = refl
swapped_tests false b false true = refl
swapped_tests false b false false = refl

eqb_swap : (a b : ℕ) → (a == b) ≡ (b == a)
eqb_swap a b = elim (cases_eq a b) [
  | inl e ↦ rw (eq-eqb a b e, eq-eqb b a (sym e)) refl
  | inr n ↦ rw (ne_eqb a b n, ne_eqb b a (λ e. n (sym e))) refl
]

alike_swap : (l m : Link) → join_alike l m ≡ join_alike m l
alike_swap l m = rw (eqb_swap l.a m.a, eqb_swap l.b m.b, eqb_swap l.a m.b, eqb_swap l.b m.a)
    (swapped_tests (m.a == l.a) (m.b == l.b) (m.b == l.a) (m.a == l.b))

any_swap : (l : Link) (ms : List Link) → list_any (join_alike l) ms ≡ list_any (λ m. join_alike m l) ms
any_swap l [] = refl
any_swap l (m ∷ ms) = ap (λ b. b || list_any (join_alike l) ms) (alike_swap l m) ∙ ap (λ b. join_alike m l || b) (any_swap l ms)

twice_push : (kept : List Link) (l : Link) → none_twice join_alike kept ≡ true → list_any (join_alike l) kept ≡ false
    → none_twice join_alike (kept ++ l ∷ []) ≡ true
twice_push kept l h none = twice_more join_alike kept l h (sym (any_swap l kept) ∙ none)

once_once : (kept ls : List Link) → none_twice join_alike kept ≡ true → none_twice join_alike (each_once kept ls) ≡ true
once_once kept [] h = h
once_once kept (l ∷ ls) h = once_once (cond (list_any (join_alike l) kept) kept (kept ++ l ∷ [])) ls
    (either (list_any (join_alike l) kept) refl)
  where
    either : (b : Bool) → list_any (join_alike l) kept ≡ b → none_twice join_alike (cond b kept (kept ++ l ∷ [])) ≡ true
    either true is = h
    either false is = twice_push kept l h is

mesh_once : (t : MeshSettings) (mesh : ObjMesh) (base : ℕ) → none_twice join_alike (mesh_links t mesh base) ≡ true
unfolding mesh_links
mesh_once t mesh base = once_once [] (kind_links t mesh base Stretch ++ (kind_links t mesh base Shear ++ bend_links t mesh base)) refl

-- ---- how many at a particle

end_none : (before : List Link) (l : Link) → overfull_end before l ≡ None → (links_at before l.a ≢ 32) × (links_at before l.b ≢ 32)
end_none before l is = first_case (links_at before l.a == 32) refl is
  where
    second_case : (c : Bool) → (links_at before l.b == 32) ≡ c → cond c (Some l.b) None ≡ None → links_at before l.b ≢ 32
    second_case true t e = cc
    second_case false t e = not_full (links_at before l.b) t

    first_case : (c : Bool) → (links_at before l.a == 32) ≡ c → cond c (Some l.a) (cond (links_at before l.b == 32) (Some l.b) None) ≡ None
        → (links_at before l.a ≢ 32) × (links_at before l.b ≢ 32)
    first_case true t e = cc
    first_case false t e = (not_full (links_at before l.a) t, second_case (links_at before l.b == 32) refl e)

or_none : (o p : Option ℕ) → option_or o p ≡ None → (o ≡ None) × (p ≡ None)
or_none None p is = (refl, is)
or_none (Some x) p is = cc

few_push : (before : List Link) (l : Link) (i : ℕ) → links_at before i ≤ 32 → (links_at before l.a ≢ 32) × (links_at before l.b ≢ 32)
    → links_at (before ++ l ∷ []) i ≤ 32
few_push before l i few free = by_test (l.a == i || l.b == i) refl
  where
    below_a : l.a ≡ i → links_at before i ≢ 32
    below_a e = λ f. free.0 (ap (links_at before) e ∙ f)

    below_b : l.b ≡ i → links_at before i ≢ 32
    below_b e = λ f. free.1 (ap (links_at before) e ∙ f)

    apart : (l.a == i || l.b == i) ≡ true → links_at before i ≢ 32
    apart t = elim (or_cases (l.a == i) (l.b == i) t) [ inl a ↦ below_a (eqb-true l.a i a) | inr b ↦ below_b (eqb-true l.b i b) ]

    by_test : (b : Bool) → (l.a == i || l.b == i) ≡ b → links_at (before ++ l ∷ []) i ≤ 32
    by_test true t =
        let size : links_at (before ++ l ∷ []) i ≡ links_at before i + 1 = links_push before l i
        ∙ ap (λ b. links_at before i + cond b 1 0) t in
        let not_full = apart t in
        omega (arith, size, few, not_full)
    by_test false t =
        let size : links_at (before ++ l ∷ []) i ≡ links_at before i + 0 = links_push before l i
        ∙ ap (λ b. links_at before i + cond b 1 0) t in
        omega (arith, size, few)

overfull_few : (before rest : List Link) (i : ℕ) → first_overfull before rest ≡ None → ((j : ℕ) → links_at before j ≤ 32)
    → links_at (before ++ rest) i ≤ 32
overfull_few before [] i is few = rw (append-nil before) (few i)
overfull_few before (l ∷ rest) i is few =
    let parts = or_none (overfull_end before l) (first_overfull (before ++ l ∷ []) rest) is in
    let free = end_none before l parts.0 in
    subst (λ (ls : List Link). links_at ls i ≤ 32) (append_assoc before (l ∷ []) rest)
    (overfull_few (before ++ l ∷ []) rest i parts.1 (λ j. few_push before l j (few j) free))

-- ---- links

place_within : (mesh : ObjMesh) (base i : ℕ) → FitsNet mesh base → i < length mesh.places
    → IsTrue (is_within (pos 536870912) (place_at mesh i))
place_within mesh base i fits lt = (within_facts (pos 536870912) (place_at mesh i) (omega (arith, ints))).1
    (All-get_or {X = Vec3} (λ place. Within (2 ^ 29) place) mesh.places i zero_vector lt fits.inside)

-- ---- settings

some_ranges : (o : Option LinkSettings) (k : LinkSettings) → are_some_settings o ≡ true → o ≡ Some k → are_link_settings k ≡ true
some_ranges None k is e = cc
some_ranges (Some s) k is e = let same : s ≡ k = cc in rw (← same) is

has_ranges : (t : MeshSettings) (k : LinkSettings) → IsTrue (are_settings t) → Has t k → are_link_settings k ≡ true
unfolding are_settings
has_ranges t k set (inl e) = let p = and_parts _ _ (and_parts _ _ (and_parts _ _ set).0).0 in rw e p.1
has_ranges t k set (inr (inl e)) = let p = and_parts _ _ (and_parts _ _ set).0 in rw e p.1
has_ranges t k set (inr (inr e)) = some_ranges t.bend k (and_parts _ _ set).1 e

ranges_of : (t : MeshSettings) (k : LinkSettings) → IsTrue (are_settings t) → Has t k
    → (k.stiffness ≤ 256) × (pos 0 ≤ℤ k.tear) × (k.tear ≤ℤ (pos 4 *ℤ pos 536870912))
ranges_of t k set has =
    let p = and_parts (nat_le k.stiffness 256) (is_between (pos 0) (pos 2147483648) k.tear) (has_ranges t k set has) in
    let b = (between_facts (pos 0) (pos 2147483648) k.tear).0 p.1 in
    (leb-true k.stiffness 256 p.0, b.0, b.1)

weight_of : (t : MeshSettings) → IsTrue (are_settings t) → nat_le 1 t.weight ≡ true
unfolding are_settings
weight_of t set = (and_parts _ _ (and_parts _ _ (and_parts _ _ set).0).0).0

rest_valid : (t : MeshSettings) (mesh : ObjMesh) (base : ℕ) (l : Link) → FitsNet mesh base → Made t mesh base l
    → IsTrue (is_between (pos 0) (pos 4 *ℤ pos 536870912) l.rest)
rest_valid t mesh base l fits made =
    let i = made.rest.0 in
    let j = made.rest.1 in
    ap (is_between (pos 0) (pos 4 *ℤ pos 536870912)) made.rest.4
    ∙ rest_fits (pos 536870912) (place_at mesh i) (place_at mesh j) (omega (arith, ints)) (place_within mesh base i fits made.rest.2)
    (place_within mesh base j fits made.rest.3)

made_valid : (t : MeshSettings) (mesh : ObjMesh) (base n : ℕ) (l : Link) → IsTrue (are_settings t) → FitsNet mesh base
    → n ≡ base + length mesh.places → Made t mesh base l → ValidLink (pos 536870912) n l
made_valid t mesh base n l set fits size made =
    let rest = (between_facts (pos 0) (pos 4 *ℤ pos 536870912) l.rest).0 (rest_valid t mesh base l fits made) in
    let a = (made.from).a_high in
    let b = (made.from).b_high in
    let k = made.settings.0 in
    let ranges = ranges_of t k set made.settings.1 in
    let stiff = made.settings.2 in
    let tear = made.settings.3 in
    record {
      first = omega (arith, size, a);
      second = omega (arith, size, b);
      apart = (made.from).apart;
      rest_low = rest.0;
      rest_high = rest.1;
      tear_low = rw tear ranges.1;
      tear_high = rw tear ranges.2;
      stiffness = rw stiff ranges.0;
    }

made_after : (t : MeshSettings) (mesh : ObjMesh) (base : ℕ) (l : Link) → Made t mesh base l → IsFrom base l
made_after t mesh base l made = record { first = (made.from).a_low; second = (made.from).b_low }

links_valid : (t : MeshSettings) (mesh : ObjMesh) (base n : ℕ) (old new : List Link) → IsTrue (are_settings t) → FitsNet mesh base
    → n ≡ base + length mesh.places → are_valid_links (pos 536870912) base old ≡ true → AllByRecursion (Made t mesh base) new
    → none_twice join_alike new ≡ true → first_overfull [] new ≡ None → length old + length new ≤ 524288
    → are_valid_links (pos 536870912) n (old ++ new) ≡ true
links_valid t mesh base n old new set fits size valid made once none number =
    let each : All (Made t mesh base) new = All-from_recursion (Made t mesh base) new made in
    let news : ValidLinks (pos 536870912) n new = record {
      number = omega (arith, number);
      each = All-weaker (Made t mesh base) (ValidLink (pos 536870912) n) (λ l h. made_valid t mesh base n l set fits size h) new each;
      once = once;
      few = λ i within. overfull_few [] new i none (λ j. omega arith);
    } in
    (links_facts (pos 536870912) n (old ++ new)).1 (links_join (pos 536870912) base n old new (omega (arith, size)) number
    ((links_facts (pos 536870912) base old).0 valid) news
    (All-weaker (Made t mesh base) (IsFrom base) (λ l h. made_after t mesh base l h) new each))

-- ---- particles and tracks

-- a weight that a `u16` can be
at_rest_valid : (weight : ℕ) (place : Vec3) → nat_le 1 weight ≡ true → nat_le weight 65535 ≡ true → IsTrue (is_within (pos 536870912) place)
    → is_valid_particle (pos 536870912) (at_rest weight place) ≡ true
at_rest_valid weight place low high t = rw (t, low, high) refl

particles_valid : (weight : ℕ) (mesh : ObjMesh) → nat_le 1 weight ≡ true → nat_le weight 65535 ≡ true → IsMesh mesh
    → list_all (is_valid_particle (pos 536870912)) (particles weight mesh) ≡ true
particles_valid weight mesh low high is = each mesh.places
    (recursion_from_All {X = Vec3} (λ place. IsTrue (is_within (pos 536870912) place)) mesh.places is.inside)
  where
    each : (ps : List Vec3) → AllByRecursion (λ place. IsTrue (is_within (pos 536870912) place)) ps
        → list_all (is_valid_particle (pos 536870912)) (map {A = Vec3} {B = Particle} (at_rest weight) ps) ≡ true
    each [] all = refl
    each (p ∷ ps) all = and_from (is_valid_particle (pos 536870912) (at_rest weight p))
        (list_all (is_valid_particle (pos 536870912)) (map {A = Vec3} {B = Particle} (at_rest weight) ps))
        (at_rest_valid weight p low high all.0) (each ps all.1)

free_rest : (weight : ℕ) (ps : List Vec3) → list_all (λ p. not p.held || is_at_rest p) (map {A = Vec3} {B = Particle} (at_rest weight) ps)
    ≡ true
free_rest weight [] = refl
free_rest weight (p ∷ ps) = free_rest weight ps

track_wider : (limit : ℤ) (n m : ℕ) (t : Track) → n ≤ m → is_valid_track limit n t ≡ true → is_valid_track limit m t ≡ true
track_wider limit n m t le valid =
    let p3 = and_parts _ _ valid in let p2 = and_parts _ _ p3.0 in let p1 = and_parts _ _ p2.0 in
    and_from _ _ (and_from _ _ (and_from _ _ (lt-ltb t.particle m (let lt = ltb-true t.particle n p1.0 in omega (arith, lt, le))) p1.1)
    p2.1) p3.1

tracks_valid : (limit : ℤ) (n m : ℕ) (tracks : List Track) → n ≤ m → are_valid_tracks limit n tracks ≡ true
    → are_valid_tracks limit m tracks ≡ true
tracks_valid limit n m tracks le valid =
    let p2 = and_parts _ _ valid in let p1 = and_parts _ _ p2.0 in
    and_from _ _ (and_from _ _ p1.0 (all_wider (is_valid_track limit n) (is_valid_track limit m)
    (λ t v. track_wider limit n m t le v) tracks p1.1)) p2.1

held_more : (limit : ℤ) (tracks : List Track) (ps qs : List Particle) → list_all (is_valid_track limit (length ps)) tracks ≡ true
    → are_tracked_held tracks ps ≡ true → are_tracked_held tracks (ps ++ qs) ≡ true
held_more limit [] ps qs valid held = refl
held_more limit (t ∷ tracks) ps qs valid held =
    let v = and_parts (is_valid_track limit (length ps) t) (list_all (is_valid_track limit (length ps)) tracks) valid in
    let h = and_parts (particle_at ps t.particle).held (are_tracked_held tracks ps) held in
    let lt : t.particle < length ps = ltb-true t.particle (length ps) (and_parts _ _ (and_parts _ _ (and_parts _ _ v.0).0).0).0 in
    let same : particle_at (ps ++ qs) t.particle ≡ particle_at ps t.particle = get_or_append_left ps qs no_particle t.particle lt in
    and_from (particle_at (ps ++ qs) t.particle).held (are_tracked_held tracks (ps ++ qs)) (ap (λ (p : Particle). p.held) same ∙ h.0)
    (held_more limit tracks ps qs v.1 h.1)

-- ---- all together

inversion : (b : Bool) (o : Option ℕ) (base : ℕ) (p new : Parts) → cond b (Err TooMany) (unless_overfull base o p) ≡ Ok new
    → (b ≡ false) × (o ≡ None) × (p ≡ new)
inversion true o base p new is = cc
inversion false (Some v) base p new is = cc
inversion false None base p new is = (refl, refl, cc)

all_valid : (t : MeshSettings) (mesh : ObjMesh) (parts : Parts) → IsTrue (are_settings t) → t.weight ≤ 65535 → IsMesh mesh
    → IsTrue (is_valid parts) → parts.limit ≡ pos 536870912 → length parts.particles + length mesh.places ≤ 65536
    → length parts.links + length (mesh_links t mesh (length parts.particles)) ≤ 524288
    → first_overfull [] (mesh_links t mesh (length parts.particles)) ≡ None
    → IsTrue (is_valid (with_all (particles t.weight mesh) (mesh_links t mesh (length parts.particles)) parts))
unfolding is_valid
all_valid t mesh parts set light is valid limit few few_links none =
    let v3 = and_parts _ _ valid in let v2 = and_parts _ _ v3.0 in let v1 = and_parts _ _ v2.0 in
    let f = formed parts v1.0 in
    let base = length parts.particles in
    let new = mesh_links t mesh base in
    let fits = mesh_fits mesh base is few in
    let made = mesh_links_made t mesh base is in
    let size : length (parts.particles ++ particles t.weight mesh)
    ≡ base + length mesh.places = length-append parts.particles (particles t.weight mesh)
    ∙ ap (λ k. base + k) (length-map mesh.places (at_rest t.weight)) in
    let grows : base ≤ length (parts.particles ++ particles t.weight mesh) = omega (arith, size) in
    let ps = and_parts (nat_le (length parts.particles) 65536) (list_all (is_valid_particle parts.limit) parts.particles) f.particles in
    let new_particles : list_all (is_valid_particle parts.limit) (particles t.weight mesh)
    ≡ true = subst (λ (z : ℤ). list_all (is_valid_particle z) (particles t.weight mesh) ≡ true) (sym limit)
    (particles_valid t.weight mesh (weight_of t set) (le-leb t.weight 65535 light) is) in
    let old_links : are_valid_links (pos 536870912) base parts.links
    ≡ true = subst (λ (z : ℤ). are_valid_links z base parts.links ≡ true) limit f.links in
    let new_links : are_valid_links parts.limit (length (parts.particles ++ particles t.weight mesh)) (parts.links ++ new) ≡ true =
    subst (λ (z : ℤ). are_valid_links z (length (parts.particles ++ particles t.weight mesh)) (parts.links ++ new) ≡ true) (sym limit)
    (links_valid t mesh base (length (parts.particles ++ particles t.weight mesh)) parts.links new set fits size old_links made
    (mesh_once t mesh base) none few_links) in
    let tracks_are = and_parts _ _ (and_parts _ _ f.tracks).0 in
    let whole = with_all (particles t.weight mesh) new parts in
    let now : Formed whole = record {
      limit = f.limit;
      particles = and_from (nat_le (length (parts.particles ++ particles t.weight mesh)) 65536)
          (list_all (is_valid_particle parts.limit) (parts.particles ++ particles t.weight mesh))
          (le-leb (length (parts.particles ++ particles t.weight mesh)) 65536 (omega (arith, size, few)))
          (all_joined (is_valid_particle parts.limit) parts.particles (particles t.weight mesh) ps.1 new_particles);
      links = new_links;
      shapes = f.shapes;
      tracks = tracks_valid parts.limit base (length (parts.particles ++ particles t.weight mesh)) parts.tracks grows f.tracks;
      gravity = f.gravity;
      numbers = f.numbers;
    } in
    and_from _ _ (and_from _ _ (and_from _ _ (from_formed whole now)
    (all_joined (λ l. l.live) parts.links new v1.1 (all_tested (Made t mesh base) (λ l. l.live) (λ l h. h.live) new made)))
    (all_joined (λ p. not p.held || is_at_rest p) parts.particles (particles t.weight mesh) v2.1 (free_rest t.weight mesh.places)))
    (held_more parts.limit parts.tracks parts.particles (particles t.weight mesh) tracks_are.1 v3.1)

pub added_valid : (t : MeshSettings) (mesh : ObjMesh) (parts new : Parts) → IsTrue (are_settings t) → t.weight ≤ 65535 → IsMesh mesh
    → IsTrue (is_valid parts) → parts.limit ≡ pos 536870912 → with_mesh_as t mesh parts ≡ Ok new → IsTrue (is_valid new)
unfolding with_mesh_as
added_valid t mesh parts new set light is valid limit added =
    let links = mesh_links t mesh (length parts.particles) in
    let inv = inversion (nat_lt 65536 (length parts.particles + length mesh.places) || nat_lt 524288 (length parts.links + length links))
    (first_overfull [] links) (length parts.particles) (with_all (particles t.weight mesh) links parts) new added in
    let small = or_parts (nat_lt 65536 (length parts.particles + length mesh.places))
    (nat_lt 524288 (length parts.links + length links)) inv.0 in
    subst (λ (p : Parts). IsTrue (is_valid p)) inv.2 (all_valid t mesh parts set light is valid limit
    (ltb-false 65536 (length parts.particles + length mesh.places) small.0)
    (ltb-false 524288 (length parts.links + length links) small.1) inv.1)

-- with the settings of the form `obj`
pub stiff_valid : (mesh : ObjMesh) (parts new : Parts) → IsMesh mesh → IsTrue (is_valid parts) → parts.limit ≡ pos 536870912
    → with_mesh mesh parts ≡ Ok new → IsTrue (is_valid new)
unfolding with_mesh are_settings
stiff_valid mesh parts new is valid limit added = added_valid stiff_settings mesh parts new refl (omega arith) is valid limit added
