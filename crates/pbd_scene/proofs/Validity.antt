-- The parts of a tree that breaks no rule are valid.
use Rattle.std.proofs.Common.{◌≡◌, ◌∙◌, ap, sym, subst, refl, ℕ, zero, suc, ◌+◌, ◌*◌, ◌≤◌, ◌<◌, List, [], ◌∷◌, ◌++◌, length, Bool, true, false, not}
use Rattle.std.proofs.Common.{◌&&◌, ◌||◌, ◌==◌, Ok, map, arith, pos, ℤ, ◌≤ℤ◌, get_or, append_assoc}
use Rattle.std.specs.Prelude.{nat_le, nat_lt, IsTrue, fold, if◌then◌else◌}
use Rattle.std.specs.List.{list_all, list_any, sum_by}
use Rattle.std.proofs.lemmas.Bool.{and_parts, and_from, not-true, or_left, or_right, eq-eqb, lt-ltb, le-leb, ltb-true}
use Rattle.std.proofs.lemmas.List.{length-append}
use Rattle.std.proofs.lemmas.List.Folds.{list_all-append, list_any-append}
use Rattle.std.proofs.lemmas.List.Sums.{sum_by-cons}
use Rattle.toml.specs.Data.{Members}
use Rattle.pbd_num.specs.Vectors.{is_within, zero_vector}
use Rattle.pbd_num.proofs.Ranges.{within_facts}
use Rattle.pbd_mesh.specs.Cloth.{cloth_fits, cloth_particles, cloth_links}
use Rattle.pbd_mesh.specs.Rope.{rope_fits, rope_particles, rope_links}
use Rattle.pbd_mesh.specs.Meshes.{is_free_and_valid, IsMesh}
use Rattle.pbd_mesh.proofs.Every.{every_more, every_test, every_from_test, once_both, once_one, apart_one}
use Rattle.pbd_mesh.proofs.Facts.{limit_bounds}
use Rattle.pbd_mesh.proofs.Meshes.{cloth_mesh, cloth_size, rope_mesh, rope_size}
use Rattle.pbd_world.specs.declared.parts.Particle.{Particle}
use Rattle.pbd_world.specs.declared.parts.Link.{Link}
use Rattle.pbd_world.specs.declared.parts.Track.{Track}
use Rattle.pbd_world.specs.declared.parts.Parts.{Parts}
use Rattle.pbd_world.specs.Neighbours.{is_among}
use Rattle.pbd_world.specs.Shapes.{shapes_in, are_valid_shapes}
use Rattle.pbd_world.specs.Valid.{is_limit, is_between, is_valid, is_valid_particle, is_at_rest, is_valid_track, are_valid_keys}
use Rattle.pbd_world.specs.Valid.{are_valid_particles, are_valid_links, are_tracked_held, are_valid_numbers, none_twice}
use Rattle.pbd_world.proofs.ValidLinks.{links_facts}
use Rattle.pbd_world.proofs.WorldParts.{Formed, from_formed}
use Rattle.pbd_scene.specs.declared.raw.TrackEntry.{TrackEntry}
use Rattle.pbd_scene.specs.declared.raw.Numbers.{Numbers}
use Rattle.pbd_scene.specs.declared.raw.Settings.{Settings}
use Rattle.pbd_scene.specs.declared.raw.Tables.{Tables}
use Rattle.pbd_scene.specs.declared.fault.SceneRule.TheVariants.{BadTrack}
use Rattle.pbd_scene.specs.declared.tables.KeyName.TheVariants as keys
use Rattle.pbd_scene.specs.declared.tables.TableName.TheVariants as tables
use Rattle.pbd_scene.specs.Checks.{each}
use Rattle.pbd_scene.specs.Keys.{known}
use Rattle.pbd_scene.specs.Values.{at, vector_or, count_or, integer_or}
use Rattle.pbd_scene.specs.Entries.{cloth_spec_of, rope_spec_of, particle_of, link_of, shape_lists_of, track_of, all_cloths_size}
use Rattle.pbd_scene.specs.Entries.{cloth_size as size_of_cloth, rope_size as size_of_rope}
use Rattle.pbd_scene.specs.Naming.{particle_number, all_links, pinned, placed_track, held_still, holding}
use Rattle.pbd_scene.specs.Scene.{at_scene, pins_of, numbers_of, settings_of, particles_of, cloths_of, ropes_of, links_of, tracks_of}
use Rattle.pbd_scene.specs.Scene.{tables_of, with_cloth, with_rope, plain_parts, with_meshes, named, with_entries, scene_of}
use Rattle.pbd_scene.proofs.Accepted.{through, same_ok, tested, integer_or_ok, count_or_ok, vector_or_ok, each_keeps_where, table_pass}
use Rattle.pbd_scene.proofs.Accepted.{each_count}
use Rattle.pbd_scene.proofs.Entering.{at_rest, is_entry_particle, particle_passes, AreClose, meshes_close}
use Rattle.pbd_scene.proofs.Entering.{is_link_entry, link_passes, shapes_pass, has_keys, track_passes}
use Rattle.pbd_scene.proofs.LiveLinks.{LiveLinks, live_none, live_mesh, links_fit, number_ok}

-- ---- the tables

pub record TablesFit (limit : ℤ) (t : Tables) : Type 0 where
  pub particles : list_all (is_entry_particle limit) t.particles ≡ true
  pub cloths : AreClose (cloth_fits limit) size_of_cloth (length t.particles) t.cloths
  pub ropes : AreClose (rope_fits limit) size_of_rope (length t.particles + all_cloths_size t.cloths) t.ropes
  pub links : list_all (is_link_entry limit) t.links ≡ true
  pub few_links : length t.links ≤ 524288
  pub shapes : are_valid_shapes limit t.shapes ≡ true
  pub tracks : list_all {X = TrackEntry} (λ t. has_keys limit t.keys) t.tracks ≡ true
  pub few_tracks : length t.tracks ≤ 4096

pub tables_fit : (limit : ℤ) (ms : Members) (t : Tables) → pos 0 ≤ℤ limit → tables_of limit ms ≡ Ok t → TablesFit limit t
unfolding tables_of particles_of cloths_of ropes_of links_of tracks_of
tables_fit limit ms t low is =
    through (particles_of limit ms) _ t is (λ particles e1 is1.
    through (cloths_of limit (length particles) ms) _ t is1 (λ cloths e2 is2.
    through (ropes_of limit (length particles + all_cloths_size cloths) ms) _ t is2 (λ ropes e3 is3.
    through (links_of limit ms) _ t is3 (λ links e4 is4.
    through (shape_lists_of limit ms) _ t is4 (λ shapes e5 is5.
    through (tracks_of limit ms) _ t is5 (λ tracks e6 is6.
    let p = table_pass tables.Particle 65536 (λ _. particle_of limit) (is_entry_particle limit)
    (λ front place ms y e. particle_passes limit place ms y e) ms particles e1 in
    let c = meshes_close tables.Cloth (cloth_fits limit) size_of_cloth (length particles) (λ place ms. cloth_spec_of place limit ms)
    p.1 ms cloths e2 in
    let r = meshes_close tables.Rope (rope_fits limit) size_of_rope (length particles + all_cloths_size cloths)
    (λ place ms. rope_spec_of place limit ms) c.room ms ropes e3 in
    let l = table_pass tables.Link 524288 (λ _. link_of limit) (is_link_entry limit)
    (λ front place ms y e. link_passes limit low place ms y e) ms links e4 in
    let k = table_pass tables.Track 4096 (λ _. track_of limit) (λ t. has_keys limit t.keys)
    (λ front place ms y e. track_passes limit place ms y e) ms tracks e6 in
    rw (← same_ok _ t is6) (record {
      particles = p.0;
      cloths = c;
      ropes = r;
      links = l.0;
      few_links = l.1;
      shapes = shapes_pass limit ms shapes e5;
      tracks = k.0;
      few_tracks = k.1;
    })))))))

-- ---- the scene's own keys

zero_within : (limit : ℤ) → IsTrue (is_limit limit) → is_within limit zero_vector ≡ true
zero_within limit is = (within_facts limit zero_vector (limit_bounds limit is).0).1
    (record { x = omega arith; y = omega arith; z = omega arith })

-- the numbers in their ranges
pub record NumbersFit (n : Numbers) : Type 0 where
  pub passes : nat_le n.passes 64 ≡ true
  pub damping : is_between (pos 0) (pos 1024) n.damping ≡ true
  pub thickness : is_between (pos 0) (pos 1048576) n.thickness ≡ true
  pub friction : is_between (pos 0) (pos 256) n.friction ≡ true

numbers_fit : (ms : Members) (n : Numbers) → numbers_of ms ≡ Ok n → NumbersFit n
unfolding numbers_of
numbers_fit ms n is =
    through (count_or at_scene keys.Passes 0 64 1 ms) _ n is (λ passes e1 is1.
    through (integer_or at_scene keys.Damping (pos 0) (pos 1024) (pos 0) ms) _ n is1 (λ damping e2 is2.
    through (integer_or at_scene keys.Thickness (pos 0) (pos 1048576) (pos 0) ms) _ n is2 (λ thickness e3 is3.
    through (integer_or at_scene keys.Friction (pos 0) (pos 256) (pos 0) ms) _ n is3 (λ friction e4 is4.
    let all : Numbers = record { passes = passes; damping = damping; thickness = thickness; friction = friction } in
    let few = count_or_ok at_scene keys.Passes 0 64 1 ms passes (omega arith) (omega arith) e1 in
    let fit : NumbersFit all = record {
      passes = le-leb passes 64 few.1;
      damping = integer_or_ok at_scene keys.Damping (pos 0) (pos 1024) (pos 0) ms damping refl e2;
      thickness = integer_or_ok at_scene keys.Thickness (pos 0) (pos 1048576) (pos 0) ms thickness refl e3;
      friction = integer_or_ok at_scene keys.Friction (pos 0) (pos 256) (pos 0) ms friction refl e4;
    } in
    rw (← same_ok all n is4) fit))))

pub record SettingsFit (limit : ℤ) (s : Settings) : Type 0 where
  pub gravity : is_within limit s.gravity ≡ true
  pub numbers : NumbersFit s.numbers

pub settings_fit : (limit : ℤ) (ms : Members) (s : Settings) → IsTrue (is_limit limit) → settings_of limit ms ≡ Ok s → SettingsFit limit s
unfolding settings_of
settings_fit limit ms s lim is =
    through (known at_scene ms) _ s is (λ u e1 is1.
    through (vector_or at_scene keys.Gravity limit zero_vector ms) _ s is1 (λ gravity e2 is2.
    through (numbers_of ms) _ s is2 (λ n e3 is3.
    through (pins_of ms) _ s is3 (λ pins e4 is4.
    let all : Settings = record { gravity = gravity; numbers = n; pins = pins } in
    let fit : SettingsFit limit all = record {
      gravity = vector_or_ok at_scene keys.Gravity limit zero_vector ms gravity (zero_within limit lim) e2;
      numbers = numbers_fit ms n e3;
    } in
    rw (← same_ok all s is4) fit))))

-- ---- the meshes

pub record Meshed (limit : ℤ) (start parts : Parts) : Type 0 where
  pub others : parts ≡ record start { particles = parts.particles; links = parts.links }
  pub particles : list_all (is_entry_particle limit) parts.particles ≡ true
  pub few : length parts.particles ≤ 65536
  pub links : LiveLinks limit (length parts.particles) parts.links
  pub size : length parts.links ≤ 6 * length parts.particles

free_passes : (limit : ℤ) (p : Particle) → is_free_and_valid limit p ≡ true → is_entry_particle limit p ≡ true
free_passes limit p t =
    let h = and_parts (not p.held) (is_valid_particle limit p) t in
    and_from _ _ h.1 (or_left (not p.held) (is_at_rest p) h.0)

meshed_next : (limit : ℤ) (start parts : Parts) (ps : List Particle) (ls : List Link) → Meshed limit start parts
    → IsMesh limit (length parts.particles) ps ls → length parts.particles + length ps ≤ 65536
    → Meshed limit start (record parts { particles = parts.particles ++ ps; links = parts.links ++ ls })
meshed_next limit start parts ps ls m mesh room = record {
  others = ap (λ (q : Parts). record q { particles = parts.particles ++ ps; links = parts.links ++ ls }) m.others;
  particles = list_all-append (is_entry_particle limit) parts.particles ps
      ∙ and_from _ _ m.particles (every_test (is_entry_particle limit) ps
      (every_more (λ p. IsTrue (is_free_and_valid limit p)) (λ p. IsTrue (is_entry_particle limit p)) ps (λ p t. free_passes limit p t)
      (every_from_test (is_free_and_valid limit) ps mesh.particles)));
  few = omega (arith, room, length-append parts.particles ps);
  links = rw (length-append parts.particles ps) (live_mesh limit (length parts.particles) parts.links ls ps
      (omega (arith, m.size, mesh.size, room)) m.links mesh);
  size = omega (arith, m.size, mesh.size, length-append parts.particles ps, length-append parts.links ls);
}

-- the same with how many particles there are then
mesh_added : (limit : ℤ) (start parts : Parts) (ps : List Particle) (ls : List Link) (size : ℕ) → Meshed limit start parts
    → IsMesh limit (length parts.particles) ps ls → length ps ≡ size → length parts.particles + size ≤ 65536
    → Meshed limit start (record parts { particles = parts.particles ++ ps; links = parts.links ++ ls })
    × (length (parts.particles ++ ps) ≡ length parts.particles + size)
mesh_added limit start parts ps ls size m mesh is room =
    (meshed_next limit start parts ps ls m mesh (omega (arith, room, is)), omega (arith, length-append parts.particles ps, is))

-- meshes that fit are added one after another
all_meshed : {A : Type 0} (fits : A → Bool) (size : A → ℕ) (add : Parts → A → Parts) (limit : ℤ) (start : Parts)
    → ((parts : Parts) (s : A) → Meshed limit start parts → fits s ≡ true → length parts.particles + size s ≤ 65536
    → Meshed limit start (add parts s) × (length (add parts s).particles ≡ length parts.particles + size s))
    → (parts : Parts) (meshes : List A) → Meshed limit start parts → list_all fits meshes ≡ true
    → length parts.particles + sum_by size meshes ≤ 65536
    → Meshed limit start (fold add parts meshes) × (length (fold add parts meshes).particles ≡ length parts.particles + sum_by size meshes)
all_meshed fits size add limit start next parts [] m fit room = (m, omega arith)
all_meshed fits size add limit start next parts (s ∷ ss) m fit room =
    let here = and_parts (fits s) (list_all fits ss) fit in
    let sum = sum_by-cons size s ss in
    let one = next parts s m here.0 (omega (arith, room, sum)) in
    let rest = all_meshed fits size add limit start next (add parts s) ss one.0 here.1 (omega (arith, room, sum, one.1)) in
    (rest.0, omega (arith, rest.1, sum, one.1))

plain_meshed : (limit : ℤ) (s : Settings) (t : Tables) → TablesFit limit t → Meshed limit (plain_parts limit s t) (plain_parts limit s t)
plain_meshed limit s t fit = record {
  others = refl;
  particles = fit.particles;
  few = omega (arith, fit.cloths.room);
  links = live_none limit (length t.particles);
  size = omega arith;
}

pub meshes_fit : (limit : ℤ) (s : Settings) (t : Tables) → IsTrue (is_limit limit) → TablesFit limit t
    → Meshed limit (plain_parts limit s t) (with_meshes limit s t)
unfolding with_meshes
meshes_fit limit s t lim fit =
    let start = plain_parts limit s t in
    let c = all_meshed (cloth_fits limit) size_of_cloth with_cloth limit start
    (λ parts s m fits room. mesh_added limit start parts (cloth_particles s) (cloth_links s (length parts.particles)) (size_of_cloth s) m
    (cloth_mesh limit (length parts.particles) s lim fits) (cloth_size s) room) start t.cloths (plain_meshed limit s t fit)
    fit.cloths.fit fit.cloths.room in
    let r = all_meshed (rope_fits limit) size_of_rope with_rope limit start
    (λ parts s m fits room. mesh_added limit start parts (rope_particles s) (rope_links s (length parts.particles)) (size_of_rope s) m
    (rope_mesh limit (length parts.particles) s lim fits) (rope_size s) room) (fold with_cloth start t.cloths) t.ropes c.0
    fit.ropes.fit (omega (arith, c.1, fit.ropes.room)) in
    r.0

-- ---- pins and tracks

-- the particles that stay are valid, and as many as before
still_passes : (limit : ℤ) (named : Bool) (p : Particle) → is_entry_particle limit p ≡ true
    → is_entry_particle limit (if named then held_still p else p) ≡ true
still_passes limit true p t =
    let valid = (and_parts (is_valid_particle limit p) (not p.held || is_at_rest p) t).0 in
    let p2 = and_parts (is_within limit p.at && is_within limit p.before && nat_le 1 p.weight) (nat_le p.weight 65535) valid in
    let p1 = and_parts (is_within limit p.at && is_within limit p.before) (nat_le 1 p.weight) p2.0 in
    let p0 = and_parts (is_within limit p.at) (is_within limit p.before) p1.0 in
    and_from _ _ (and_from _ _ (and_from _ _ (and_from _ _ p0.0 p0.0) p1.1) p2.1)
    (or_right (not true) (is_at_rest (held_still p)) (at_rest p.at))
still_passes limit false p t = t

holding_passes : (limit : ℤ) (names : List ℕ) (i : ℕ) (ps : List Particle) → list_all (is_entry_particle limit) ps ≡ true
    → list_all (is_entry_particle limit) (holding names i ps) ≡ true
unfolding holding
holding_passes limit names i [] t = refl
holding_passes limit names i (p ∷ ps) t =
    let h = and_parts (is_entry_particle limit p) (list_all (is_entry_particle limit) ps) t in
    and_from _ _ (still_passes limit (is_among i names) p h.0) (holding_passes limit names (i + 1) ps h.1)

holding_length : (names : List ℕ) (i : ℕ) (ps : List Particle) → length (holding names i ps) ≡ length ps
unfolding holding
holding_length names i [] = refl
holding_length names i (p ∷ ps) = ap suc (holding_length names (i + 1) ps)

-- a particle that is named is held
named_held : (names : List ℕ) (i k : ℕ) (ps : List Particle) (d : Particle) → k < length ps → is_among (i + k) names ≡ true
    → (get_or (holding names i ps) k d).held ≡ true
unfolding holding
named_held names i k [] d within t = absurd (omega (arith, within))
named_held names i zero (p ∷ ps) d within t = let e : i + 0 ≡ i = omega arith in let u : is_among i names ≡ true = rw e at t in rw u refl
named_held names i (suc k) (p ∷ ps) d within t = let e : i + suc k ≡ i + 1 + k = omega arith in
    named_held names (i + 1) k ps d (omega (arith, within)) (rw e at t)

pub record TracksFit (limit : ℤ) (n : ℕ) (tracks : List Track) : Type 0 where
  pub valid : list_all (is_valid_track limit n) tracks ≡ true
  pub once : none_twice {A = Track} (λ t u. t.particle == u.particle) tracks ≡ true

tracks_next : (limit : ℤ) (n : ℕ) (before : List Track) (entry : TrackEntry) (t : Track) → has_keys limit entry.keys ≡ true
    → TracksFit limit n before → placed_track n before entry ≡ Ok t → TracksFit limit n (before ++ t ∷ [])
unfolding placed_track
tracks_next limit n before entry t pass held is =
    let place = at tables.Track (length before) in
    through (particle_number n place keys.Particle entry.particle) _ t is (λ i e1 is1.
    let made : Track = record { particle = i; keys = entry.keys } in
    let last = tested (not (list_any (λ u. u.particle == i) before)) BadTrack place keys.Particle made t is1 in
    let among = number_ok n place keys.Particle entry.particle i e1 in
    let free : list_any {X = Track} (λ u. u.particle == i) before ≡ false = not-true (list_any (λ u. u.particle == i) before) last.0 in
    let p2 = and_parts (nat_le 1 (length entry.keys) && nat_le (length entry.keys) 1024) (are_valid_keys limit entry.keys) pass in
    let p1 = and_parts (nat_le 1 (length entry.keys)) (nat_le (length entry.keys) 1024) p2.0 in
    let valid : is_valid_track limit n made ≡ true = and_from _ _ (and_from _ _ (and_from _ _ (lt-ltb i n among) p1.0) p1.1) p2.1 in
    let next : TracksFit limit n (before ++ made ∷ []) = record {
      valid = rw (list_all-append (is_valid_track limit n) before (made ∷ []), held.valid, valid) refl;
      once = once_both {A = Track} (λ t u. t.particle == u.particle) before (made ∷ []) held.once
          (once_one {A = Track} (λ t u. t.particle == u.particle) made)
          (apart_one {A = Track} (λ t u. t.particle == u.particle) before made free);
    } in
    rw (← last.1) next)

pub tracks_fit : (limit : ℤ) (n : ℕ) (entries : List TrackEntry) (tracks : List Track)
    → list_all {X = TrackEntry} (λ t. has_keys limit t.keys) entries ≡ true → each (placed_track n) [] entries ≡ Ok tracks
    → TracksFit limit n tracks
tracks_fit limit n entries tracks pass is = each_keeps_where (placed_track n) (λ (t : TrackEntry). has_keys limit t.keys)
    (TracksFit limit n) (λ front x y ok held e. tracks_next limit n front x y ok held e) [] entries tracks pass
    (record { valid = refl; once = refl }) is

-- ---- what is held

-- the names of the tracks are among those that are named
among_own : (front : List ℕ) (ts : List Track) → list_all {X = Track}
    (λ t. is_among t.particle (front ++ map {A = Track} {B = ℕ} (λ t. t.particle) ts)) ts ≡ true
among_own front [] = refl
among_own front (t ∷ ts) =
    let own : is_among t.particle (t.particle ∷ map {A = Track} {B = ℕ} (λ t. t.particle) ts)
    ≡ true = or_left (t.particle == t.particle) _ (eq-eqb t.particle t.particle refl) in
    let here : is_among t.particle (front ++ t.particle ∷ map {A = Track} {B = ℕ} (λ t. t.particle) ts)
    ≡ true = list_any-append (λ m. m == t.particle) front (t.particle ∷ map {A = Track} {B = ℕ} (λ t. t.particle) ts)
    ∙ or_right (is_among t.particle front) _ own in
    let rest = rw append_assoc at (among_own (front ++ t.particle ∷ []) ts) in
    and_from _ _ here rest

tracked_held : (limit : ℤ) (names : List ℕ) (ps : List Particle) (ts : List Track) → list_all (is_valid_track limit (length ps)) ts ≡ true
    → list_all {X = Track} (λ t. is_among t.particle names) ts ≡ true → are_tracked_held ts (holding names 0 ps) ≡ true
tracked_held limit names ps [] valid among = refl
tracked_held limit names ps (t ∷ ts) valid among =
    let v = and_parts (is_valid_track limit (length ps) t) (list_all (is_valid_track limit (length ps)) ts) valid in
    let a = and_parts (is_among t.particle names) (list_all {X = Track} (λ t. is_among t.particle names) ts) among in
    let p2 = and_parts (nat_lt t.particle (length ps) && nat_le 1 (length t.keys) && nat_le (length t.keys) 1024)
    (are_valid_keys limit t.keys) v.0 in
    let p1 = and_parts (nat_lt t.particle (length ps) && nat_le 1 (length t.keys)) (nat_le (length t.keys) 1024) p2.0 in
    let p0 = and_parts (nat_lt t.particle (length ps)) (nat_le 1 (length t.keys)) p1.0 in
    let e : 0 + t.particle ≡ t.particle = omega arith in
    let named_here : is_among (0 + t.particle) names ≡ true = rw e a.0 in
    and_from _ _ (named_held names 0 t.particle ps _ (ltb-true t.particle (length ps) p0.0) named_here)
    (tracked_held limit names ps ts v.1 a.1)

-- ---- all together

split_all : {A : Type 0} (f g : A → Bool) (xs : List A) → list_all (λ x. f x && g x) xs ≡ true
    → (list_all f xs ≡ true) × (list_all g xs ≡ true)
split_all f g [] t = (refl, refl)
split_all f g (x ∷ xs) t =
    let h = and_parts (f x && g x) (list_all (λ x. f x && g x) xs) t in
    let p = and_parts (f x) (g x) h.0 in
    let r = split_all f g xs h.1 in
    (and_from _ _ p.0 r.0, and_from _ _ p.1 r.1)

-- what is asked of parts
record Asked (parts : Parts) : Type 0 where
  pub formed : Formed parts
  pub live : list_all {X = Link} (λ l. l.live) parts.links ≡ true
  pub rest : list_all {X = Particle} (λ p. not p.held || is_at_rest p) parts.particles ≡ true
  pub held : are_tracked_held parts.tracks parts.particles ≡ true

all_asked : (parts : Parts) → Asked parts → is_valid parts ≡ true
unfolding is_valid
all_asked parts a = and_from _ _ (and_from _ _ (and_from _ _ (from_formed parts a.formed) a.live) a.rest) a.held

particles_asked : (limit : ℤ) (ps : List Particle) → list_all (is_entry_particle limit) ps ≡ true → length ps ≤ 65536
    → (are_valid_particles limit ps ≡ true) × (list_all {X = Particle} (λ p. not p.held || is_at_rest p) ps ≡ true)
particles_asked limit ps t few =
    let s = split_all (is_valid_particle limit) (λ p. not p.held || is_at_rest p) ps t in
    (and_from _ _ (le-leb (length ps) 65536 few) s.0, s.1)

links_asked : (limit : ℤ) (n : ℕ) (ls : List Link) → LiveLinks limit n ls
    → (are_valid_links limit n ls ≡ true) × (list_all {X = Link} (λ l. l.live) ls ≡ true)
links_asked limit n ls j = ((links_facts limit n ls).1 j.valid, j.live)

entries_valid : (limit : ℤ) (s : Settings) (t : Tables) (start m : Parts) (pins : List ℤ) (parts : Parts) → IsTrue (is_limit limit)
    → SettingsFit limit s → TablesFit limit t → start ≡ plain_parts limit s t → Meshed limit start m
    → with_entries pins t.links t.tracks m ≡ Ok parts → is_valid parts ≡ true
unfolding with_entries
entries_valid limit s t start m pins parts lim sf tf plain mf is =
    let low = (limit_bounds limit lim).0 in
    let n = length m.particles in
    through (all_links m.particles m.links t.links) _ parts is (λ links e1 is1.
    through (each (pinned n) [] pins) _ parts is1 (λ held e2 is2.
    through (each (placed_track n) [] t.tracks) _ parts is2 (λ tracks e3 is3.
    let names = named held tracks in
    let ps = holding names 0 m.particles in
    let all : Parts = record m { particles = ps; links = links; tracks = tracks } in
    let same : m ≡ record (plain_parts limit s t) { particles = m.particles; links = m.links } = mf.others
    ∙ ap (λ (q : Parts). record q { particles = m.particles; links = m.links }) plain in
    let size : length ps ≡ n = holding_length names 0 m.particles in
    let live = links_fit limit m.particles m.links t.links links low mf.particles tf.links mf.links e1 in
    let placed = tracks_fit limit n t.tracks tracks tf.tracks e3 in
    let number = each_count (placed_track n) [] t.tracks tracks e3 in
    let p = particles_asked limit ps (holding_passes limit names 0 m.particles mf.particles) (omega (arith, size, mf.few)) in
    let l = links_asked limit n links live in
    let its_limit : m.limit ≡ limit = ap (λ (q : Parts). q.limit) same in
    let formed : Formed all = record {
      limit = rw its_limit lim;
      particles = rw its_limit p.0;
      links = rw (its_limit, size) l.0;
      shapes = subst (λ (q : Parts). are_valid_shapes q.limit (shapes_in q) ≡ true) (sym same) tf.shapes;
      tracks = rw (its_limit, size) (and_from _ _ (and_from _ _
          (le-leb (length tracks) 4096 (omega (arith, number, tf.few_tracks))) placed.valid) placed.once);
      gravity = subst (λ (q : Parts). is_within q.limit q.gravity ≡ true) (sym same) sf.gravity;
      numbers = subst (λ (q : Parts). are_valid_numbers q ≡ true) (sym same)
          (and_from _ _ (and_from _ _ (and_from _ _ sf.numbers.passes sf.numbers.damping) sf.numbers.thickness) sf.numbers.friction);
    } in
    let asked : Asked all = record {
      formed = formed;
      live = l.1;
      rest = p.1;
      held = tracked_held limit names m.particles tracks placed.valid (among_own held tracks);
    } in
    let checked = all_asked all asked in
    rw (← same_ok all parts is3) checked)))

pub scene_valid : (limit : ℤ) (tree : Members) (parts : Parts) → IsTrue (is_limit limit) → scene_of limit tree ≡ Ok parts
    → IsTrue (is_valid parts)
unfolding scene_of
scene_valid limit tree parts lim is =
    let low = (limit_bounds limit lim).0 in
    through (settings_of limit tree) _ parts is (λ s e1 is1.
    through (tables_of limit tree) _ parts is1 (λ t e2 is2.
    let sf = settings_fit limit tree s lim e1 in
    let tf = tables_fit limit tree t low e2 in
    entries_valid limit s t (plain_parts limit s t) (with_meshes limit s t) s.pins parts lim sf tf refl (meshes_fit limit s t lim tf) is2))
