-- What the entries that are accepted have.
use Rattle.std.proofs.Common.{suc, ◌≡◌, ◌∙◌, ap, refl, ℕ, ◌+◌, ◌-◌, ◌≤◌, ◌<◌, List, [], ◌∷◌, ◌++◌, length, Bool, true, false, Ok, Option, Some}
use Rattle.std.proofs.Common.{None, arith, pos, negsuc, ℤ}
use Rattle.std.specs.Prelude.{unwrap_or, ◌&&◌, ◌||◌, not, nat_le, nat_lt, int_le, unsigned_abs, ◌*ℤ◌, ◌≤ℤ◌, ◌^◌, if◌then◌else◌}
use Rattle.std.specs.List.{list_all, sum_by}
use Rattle.std.proofs.lemmas.Int.{ints}
use Rattle.std.proofs.lemmas.Bool.{and_parts, and_from, le-leb, leb-true}
use Rattle.std.proofs.lemmas.Bool.Decides.{nat_tests}
use Rattle.std.proofs.lemmas.List.Folds.{list_all-append}
use Rattle.toml.specs.Data.{Data, Members}
use Rattle.pbd_num.specs.declared.Vec3.{Vec3}
use Rattle.pbd_num.specs.Vectors.{is_within, is_axis_within, zero_vector, minus, squared_length}
use Rattle.pbd_mesh.proofs.Below.{below}
use Rattle.pbd_world.specs.declared.parts.Particle.{Particle}
use Rattle.pbd_world.specs.declared.parts.Plane.{Plane}
use Rattle.pbd_world.specs.declared.parts.Sphere.{Sphere}
use Rattle.pbd_world.specs.declared.parts.Key.{Key}
use Rattle.pbd_world.specs.declared.parts.ShapeLists.{ShapeLists}
use Rattle.pbd_world.specs.Shapes.{is_valid_plane, is_valid_sphere, are_valid_shapes}
use Rattle.pbd_world.specs.Valid.{is_valid_particle, is_at_rest, are_valid_keys}
use Rattle.pbd_world.proofs.ValidLemmas.{rising, rising_begins}
use Rattle.std.proofs.lemmas.List.Sums.{sum_by-append, sum_by-cons}
use Rattle.pbd_scene.specs.declared.raw.LinkEntry.{LinkEntry}
use Rattle.pbd_scene.specs.declared.raw.TrackEntry.{TrackEntry}
use Rattle.pbd_scene.specs.declared.fault.SceneRule.TheVariants.{OutOfRange, TooMany, BadTrack}
use Rattle.pbd_scene.specs.declared.fault.Place.{Place}
use Rattle.pbd_scene.specs.declared.tables.KeyName.TheVariants as keys
use Rattle.pbd_scene.specs.declared.tables.TableName.{TableName}
use Rattle.pbd_scene.specs.declared.tables.TableName.TheVariants as tables
use Rattle.pbd_scene.specs.Checks.{Checked, expect, each}
use Rattle.pbd_scene.specs.Values.{required_vector, vector_or, required_integer, required_any_integer, optional_integer, integer_or}
use Rattle.pbd_scene.specs.Values.{count_or, boolean_or, row, required_array, table_of}
use Rattle.pbd_scene.specs.Entries.{particle_of, inside_before, place_before, mesh_of, room_for}
use Rattle.pbd_scene.specs.Entries.{link_of, plane_of, planes_of, sphere_of, spheres_of, shape_lists_of, reaches_within, on_by, back_by}
use Rattle.pbd_scene.specs.Entries.{row_of, key_of, step_number, step_of, steps_rise, few_rows, rising_path, path_of, track_of}
use Rattle.pbd_scene.proofs.Accepted.{through, expect_ok, same_ok, tested, optional_some, between, required_integer_ok, integer_or_ok}
use Rattle.pbd_scene.proofs.Accepted.{count_or_ok, required_vector_ok, each_pass, each_count, table_pass, table_keeps}
use Rattle.pbd_num.proofs.VectorSizes.{minus_itself}

-- ---- particles

pub at_rest : (v : Vec3) → nat_le (squared_length (minus v v)) 0 ≡ true
at_rest v = ap (λ (u : Vec3). nat_le (squared_length u) 0) (minus_itself v)

-- valid, and at rest where it is held
abbrev pub is_entry_particle : ℤ → Particle → Bool
is_entry_particle limit p = is_valid_particle limit p && (not p.held || is_at_rest p)

particle_tests : (limit : ℤ) (at before : Vec3) (weight : ℕ) (held : Bool) → is_within limit at ≡ true → is_within limit before ≡ true
    → nat_le 1 weight ≡ true → nat_le weight 65535 ≡ true → is_entry_particle limit
    (record { at = at; before = if held then at else before; weight = weight; held = held }) ≡ true
particle_tests limit at before weight true h k low high = rw (h, low, high, at_rest at) refl
particle_tests limit at before weight false h k low high = rw (h, k, low, high) refl

inside_before_ok : (limit : ℤ) (place : Place) (at velocity v : Vec3) → inside_before limit place at velocity ≡ Ok v
    → is_within limit v ≡ true
unfolding inside_before
inside_before_ok limit place at velocity v is = let t = tested (is_within limit (place_before at velocity)) OutOfRange place keys.Velocity
    (place_before at velocity) v is in rw (← t.1) t.0

pub particle_passes : (limit : ℤ) (place : Place) (ms : Members) (p : Particle) → particle_of limit place ms ≡ Ok p
    → is_entry_particle limit p ≡ true
unfolding particle_of
particle_passes limit place ms p is =
    through (required_vector place keys.At limit ms) _ p is (λ here e2 is2.
    through (vector_or place keys.Velocity (pos 2 *ℤ limit) zero_vector ms) _ p is2 (λ velocity e3 is3.
    through (count_or place keys.Weight 1 65535 1 ms) _ p is3 (λ weight e4 is4.
    through (boolean_or place keys.Held false ms) _ p is4 (λ held e5 is5.
    through (inside_before limit place here velocity) _ p is5 (λ gone e6 is6.
    let w = count_or_ok place keys.Weight 1 65535 1 ms weight (omega arith) (omega arith) e4 in
    let all : Particle = record { at = here; before = if held then here else gone; weight = weight; held = held } in
    let same : all ≡ p = same_ok all p is6 in
    rw (← same) (particle_tests limit here gone weight held (required_vector_ok place keys.At limit ms here e2)
    (inside_before_ok limit place here velocity gone e6) (le-leb 1 weight w.0) (le-leb weight 65535 w.1)))))))

-- ---- meshes

-- meshes that fit, and leave the particles few
pub record AreClose {A : Type 0} (fits : A → Bool) (size : A → ℕ) (count : ℕ) (meshes : List A) : Type 0 where
  pub fit : list_all fits meshes ≡ true
  pub room : count + sum_by size meshes ≤ 65536

room_ok : (place : Place) (n : ℕ) (u : Unit {0}) → room_for place n ≡ Ok u → n ≤ 65536
unfolding room_for
room_ok place n u is = leb-true n 65536 (expect_ok (nat_le n 65536) TooMany place keys.NoKey u is)

mesh_ok : {A : Type 0} (fits : A → Bool) (size : A → ℕ) (count : ℕ) (before : List A) (place : Place) (given : Checked A) (s : A)
    → mesh_of fits size count before place given ≡ Ok s → (fits s ≡ true) × (count + sum_by size before + size s ≤ 65536)
unfolding mesh_of
mesh_ok fits size count before place given s is =
    through given _ s is (λ spec e1 is1.
    through (expect (fits spec) OutOfRange place keys.NoKey) _ s is1 (λ u e2 is2.
    through (room_for place (count + sum_by size before + size spec)) _ s is2 (λ v e3 is3.
    rw (← same_ok spec s is3) (
      expect_ok (fits spec) OutOfRange place keys.NoKey u e2,
      room_ok place (count + sum_by size before + size spec) v e3,
    ))))

close_next : {A : Type 0} (fits : A → Bool) (size : A → ℕ) (count : ℕ) (before : List A) (place : Place) (given : Checked A) (s : A)
    → AreClose fits size count before → mesh_of fits size count before place given ≡ Ok s → AreClose fits size count (before ++ s ∷ [])
close_next fits size count before place given s held is =
    let t = mesh_ok fits size count before place given s is in
    record {
      fit = rw (list_all-append fits before (s ∷ []), held.fit, t.0) refl;
      room = omega (arith, t.1, sum_by-append size before (s ∷ []), sum_by-cons size s []);
    }

-- the meshes of a table, where so many particles stand before them
pub meshes_close : {A : Type 0} (table : TableName) (fits : A → Bool) (size : A → ℕ) (count : ℕ) (given : Place → Members → Checked A)
    → count ≤ 65536 → (ms : Members) (meshes : List A)
    → table_of table 64 (λ before place ms. mesh_of fits size count before place (given place ms)) ms ≡ Ok meshes
    → AreClose fits size count meshes
meshes_close table fits size count given few ms meshes is =
    let none : AreClose fits size count [] = record { fit = refl; room = omega (arith, few) } in
    table_keeps table 64 (λ before place ms. mesh_of fits size count before place (given place ms)) (AreClose fits size count)
    (λ front place ms y held e. close_next fits size count front place (given place ms) y held e) none ms meshes is

-- ---- links

abbrev pub is_rest : ℤ → Option ℤ → Bool
is_rest limit None = true
is_rest limit (Some n) = between (pos 0) (pos 4 *ℤ limit) n

-- rest, tear and stiffness are in their ranges
abbrev pub is_link_entry : ℤ → LinkEntry → Bool
is_link_entry limit l = is_rest limit l.rest && between (pos 0) (pos 4 *ℤ limit) l.tear && nat_le l.k 256

rest_ok : (limit : ℤ) (place : Place) (ms : Members) (v : Option ℤ) → optional_integer place keys.Rest (pos 0) (pos 4 *ℤ limit) ms ≡ Ok v
    → is_rest limit v ≡ true
rest_ok limit place ms None is = refl
rest_ok limit place ms (Some n) is = optional_some place keys.Rest (pos 0) (pos 4 *ℤ limit) ms n is

pub rest_or : (limit : ℤ) (rest : Option ℤ) (default : ℤ) → is_rest limit rest ≡ true → between (pos 0) (pos 4 *ℤ limit) default ≡ true
    → between (pos 0) (pos 4 *ℤ limit) (unwrap_or rest default) ≡ true
rest_or limit None default h k = k
rest_or limit (Some n) default h k = h

-- 0 is a length
zero_length : (limit : ℤ) → pos 0 ≤ℤ limit → between (pos 0) (pos 4 *ℤ limit) (pos 0) ≡ true
zero_length limit low = grind (arith, ints, nat_tests)

pub link_passes : (limit : ℤ) → pos 0 ≤ℤ limit → (place : Place) (ms : Members) (l : LinkEntry) → link_of limit place ms ≡ Ok l
    → is_link_entry limit l ≡ true
unfolding link_of
link_passes limit low place ms l is =
    through (required_any_integer place keys.A ms) _ l is (λ a e2 is2.
    through (required_any_integer place keys.B ms) _ l is2 (λ b e3 is3.
    through (optional_integer place keys.Rest (pos 0) (pos 4 *ℤ limit) ms) _ l is3 (λ rest e4 is4.
    through (count_or place keys.Stiffness 0 256 256 ms) _ l is4 (λ k e5 is5.
    through (integer_or place keys.Tear (pos 0) (pos 4 *ℤ limit) (pos 0) ms) _ l is5 (λ tear e6 is6.
    let all : LinkEntry = record { a = a; b = b; rest = rest; k = k; tear = tear } in
    let stiff = count_or_ok place keys.Stiffness 0 256 256 ms k (omega arith) (omega arith) e5 in
    rw (← same_ok all l is6) (rw (
      rest_ok limit place ms rest e4,
      integer_or_ok place keys.Tear (pos 0) (pos 4 *ℤ limit) (pos 0) ms tear (zero_length limit low) e6,
      le-leb k 256 stiff.1,
    )
    refl))))))

-- ---- shapes

pub plane_passes : (place : Place) (ms : Members) (p : Plane) → plane_of place ms ≡ Ok p → is_valid_plane p ≡ true
unfolding plane_of
plane_passes place ms p is =
    through (required_vector place keys.Normal (pos 1024) ms) _ p is (λ normal e2 is2.
    through (required_integer place keys.Offset (negsuc 1099511627775) (pos 1099511627776) ms) _ p is2 (λ offset e3 is3.
    let all : Plane = record { normal = normal; offset = offset } in
    let t = tested (nat_lt 0 (squared_length normal)) OutOfRange place keys.Normal all p is3 in
    let far : is_axis_within (pos (2 ^ 40)) offset ≡ true =
    required_integer_ok place keys.Offset (negsuc 1099511627775) (pos 1099511627776) ms offset e3 in
    rw (← t.1) (and_from _ _ (and_from _ _ (required_vector_ok place keys.Normal (pos 1024) ms normal e2) t.0) far)))

reach_parts : (limit : ℤ) (centre : Vec3) (radius : ℤ) → reaches_within limit centre radius ≡ true
    → (is_within limit (on_by radius centre) ≡ true) × (is_within limit (back_by radius centre) ≡ true)
unfolding reaches_within
reach_parts limit centre radius t = and_parts (is_within limit (on_by radius centre)) (is_within limit (back_by radius centre)) t

sphere_tests : (limit : ℤ) (centre : Vec3) (radius : ℤ) → int_le (pos 1) radius ≡ true → is_within limit (on_by radius centre) ≡ true
    → is_within limit (back_by radius centre) ≡ true → is_valid_sphere limit (record { centre = centre; radius = radius }) ≡ true
unfolding on_by back_by
sphere_tests limit centre radius one up down = and_from _ _ (and_from _ _ one up) down

at_least_one : (limit radius : ℤ) → between (pos 1) limit radius ≡ true → int_le (pos 1) radius ≡ true
at_least_one limit radius t = (and_parts (int_le (pos 1) radius) (int_le radius limit) t).0

pub sphere_passes : (limit : ℤ) (place : Place) (ms : Members) (s : Sphere) → sphere_of limit place ms ≡ Ok s
    → is_valid_sphere limit s ≡ true
unfolding sphere_of
sphere_passes limit place ms s is =
    through (required_vector place keys.Centre limit ms) _ s is (λ centre e2 is2.
    through (required_integer place keys.Radius (pos 1) limit ms) _ s is2 (λ radius e3 is3.
    let all : Sphere = record { centre = centre; radius = radius } in
    let t = tested (reaches_within limit centre radius) OutOfRange place keys.Radius all s is3 in
    let reach = reach_parts limit centre radius t.0 in
    rw (← t.1) (sphere_tests limit centre radius (at_least_one limit radius
    (required_integer_ok place keys.Radius (pos 1) limit ms radius e3)) reach.0 reach.1)))

pub shapes_pass : (limit : ℤ) (ms : Members) (shapes : ShapeLists) → shape_lists_of limit ms ≡ Ok shapes
    → are_valid_shapes limit shapes ≡ true
unfolding shape_lists_of planes_of spheres_of
shapes_pass limit ms shapes is =
    through (planes_of ms) _ shapes is (λ planes e1 is1.
    through (spheres_of limit ms) _ shapes is1 (λ spheres e2 is2.
    let all : ShapeLists = record { planes = planes; spheres = spheres } in
    let p = table_pass tables.Plane 256 (λ _. plane_of) is_valid_plane (λ front place ms y e. plane_passes place ms y e) ms planes e1 in
    let s = table_pass tables.Sphere 256 (λ _. sphere_of limit) (is_valid_sphere limit)
    (λ front place ms y e. sphere_passes limit place ms y e) ms spheres e2 in
    rw (← same_ok all shapes is2) (and_from _ _ (and_from _ _ (le-leb (length planes) 256 p.1) p.0)
    (and_from _ _ (le-leb (length spheres) 256 s.1) s.0))))

-- ---- tracks

-- a step and a place in their ranges
abbrev is_key : ℤ → Key → Bool
is_key limit key = nat_le key.step 1000000 && is_within limit key.place

step_ok : (place : Place) (n : ℤ) (step : ℕ) → step_number place n ≡ Ok step → nat_le step 1000000 ≡ true
unfolding step_number
step_ok place n step is = let t = tested (int_le (pos 0) n && int_le n (pos 1000000)) OutOfRange place keys.Keys (unsigned_abs n) step is in
    rw (← t.1) (small n t.0)
  where
    small : (n : ℤ) → (int_le (pos 0) n && int_le n (pos 1000000)) ≡ true → nat_le (unsigned_abs n) 1000000 ≡ true
    small (pos n) t = grind (arith, ints, nat_tests)
    small (negsuc n) t = absurd (grind (arith, ints, nat_tests))

key_passes : (place : Place) (limit : ℤ) (before : List Key) (d : Data) (k : Key) → key_of place limit before d ≡ Ok k
    → is_key limit k ≡ true
unfolding key_of
key_passes place limit before d k is =
    through (row place keys.Keys d) _ k is (λ r e1 is1.
    through (step_number place r.step) _ k is1 (λ step e2 is2.
    let all : Key = record { step = step; place = r.place } in
    let t = tested (is_within limit r.place) OutOfRange place keys.Keys all k is2 in
    rw (← t.1) (and_from _ _ (step_ok place r.step step e2) t.0)))

-- steps that rise from one to the next rise from each to all later ones
rising_keys : (limit : ℤ) (low : ℕ) (path : List Key) → list_all (is_key limit) path ≡ true → (0 < length path → low ≤ step_of path 0)
    → ((i : ℕ) → suc i < length path → step_of path i < step_of path (suc i)) → rising limit low path ≡ true
rising_keys limit low [] pass first next = refl
rising_keys limit low (k ∷ ks) pass first next =
    let parts = and_parts (is_key limit k) (list_all (is_key limit) ks) pass in
    let here = and_parts (nat_le k.step 1000000) (is_within limit k.place) parts.0 in
    let low_here : low ≤ k.step = first (omega arith) in
    and_from _ _ (and_from _ _ (and_from _ _ (le-leb low k.step low_here) here.0) here.1)
    (rising_keys limit (k.step + 1) ks parts.1 (λ some. let h : k.step < step_of ks 0 = next 0 (omega (arith, some)) in omega arith)
    (λ i within. next (suc i) (omega (arith, within))))

rises_at : (path : List Key) → steps_rise path ≡ true → (i : ℕ) → suc i < length path → step_of path i < step_of path (suc i)
unfolding steps_rise
rises_at path t i within =
    let h = below (length path - 1) (λ i. nat_lt (step_of path i) (step_of path (i + 1))) i t (omega (arith, within)) in
    let e : i + 1 ≡ suc i = omega arith in
    less (step_of path i) (step_of path (suc i)) (rw e at h)
  where
    less : (m n : ℕ) → nat_lt m n ≡ true → m < n
    less m n t = grind (arith, nat_tests)

-- the keys of a track: some, few, and valid
abbrev pub has_keys : ℤ → List Key → Bool
has_keys limit path = nat_le 1 (length path) && nat_le (length path) 1024 && are_valid_keys limit path

some_keys : (m : ℕ) → nat_lt 0 m ≡ true → nat_le 1 m ≡ true
some_keys m t = grind (arith, nat_tests)

track_path : (limit : ℤ) (place : Place) (ds : List Data) (path : List Key) → length ds ≤ 1024 → rising_path place limit ds ≡ Ok path
    → has_keys limit path ≡ true
unfolding rising_path
track_path limit place ds path few is =
    through (each (key_of place limit) [] ds) _ path is (λ made e1 is1.
    let last = tested (nat_lt 0 (length made) && steps_rise made) BadTrack place keys.Keys made path is1 in
    let ends = and_parts (nat_lt 0 (length made)) (steps_rise made) last.0 in
    let pass = each_pass (key_of place limit) (is_key limit) (λ front d k e. key_passes place limit front d k e) ds made e1 in
    let number = each_count (key_of place limit) [] ds made e1 in
    rw (← last.1) (and_from _ _ (and_from _ _ (some_keys (length made) ends.0) (le-leb (length made) 1024 (omega (arith, few, number))))
    (rising_begins limit made ∙ rising_keys limit 0 made pass (λ some. omega arith) (rises_at made ends.1))))

rows_few : (place : Place) (ds : List Data) (u : Unit {0}) → few_rows place ds ≡ Ok u → length ds ≤ 1024
unfolding few_rows
rows_few place ds u is =
    through (each (row_of place) [] ds) _ u is (λ rows e1 is1.
    leb-true (length ds) 1024 (expect_ok (nat_le (length ds) 1024) TooMany place keys.Keys u is1))

path_passes : (limit : ℤ) (place : Place) (ms : Members) (path : List Key) → path_of place limit ms ≡ Ok path → has_keys limit path ≡ true
unfolding path_of
path_passes limit place ms path is =
    through (required_array place keys.Keys ms) _ path is (λ ds e1 is1.
    through (few_rows place ds) _ path is1 (λ u e2 is2.
    track_path limit place ds path (rows_few place ds u e2) is2))

pub track_passes : (limit : ℤ) (place : Place) (ms : Members) (t : TrackEntry) → track_of limit place ms ≡ Ok t
    → has_keys limit t.keys ≡ true
unfolding track_of
track_passes limit place ms t is =
    through (required_any_integer place keys.Particle ms) _ t is (λ particle e2 is2.
    through (path_of place limit ms) _ t is2 (λ path e3 is3.
    let all : TrackEntry = record { particle = particle; keys = path } in
    rw (← same_ok all t is3) (path_passes limit place ms path e3)))
