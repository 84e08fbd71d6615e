-- Links that are live and valid: those of meshes one after another, and one by one those of entries.
use Rattle.std.proofs.Common.{◌≡◌, ◌∙◌, refl, ℕ, zero, suc, ◌+◌, ◌≤◌, ◌<◌, List, [], ◌∷◌, ◌++◌, length, true, false, not}
use Rattle.std.proofs.Common.{◌&&◌, ◌==◌, Ok, arith, pos, ℤ, ◌≤ℤ◌, get_or, append_assoc, append-nil}
use Rattle.std.specs.Prelude.{unwrap_or, nat_le, nat_lt, int_le, int_lt, ◌*ℤ◌, unsigned_abs}
use Rattle.std.specs.List.{list_all}
use Rattle.std.proofs.lemmas.Int.{ints}
use Rattle.std.proofs.lemmas.Bool.{and_parts, and_from, not-true, ltb-true, leb-true}
use Rattle.std.proofs.lemmas.Bool.Decides.{nat_tests}
use Rattle.std.proofs.lemmas.List.Folds.{list_all-append}
use Rattle.pbd_num.specs.Vectors.{is_within}
use Rattle.pbd_mesh.specs.Meshes.{IsMesh}
use Rattle.pbd_mesh.proofs.MeshLinks.{links_valid, links_from, links_live}
use Rattle.pbd_mesh.proofs.Meshes.{rest_fits}
use Rattle.pbd_world.specs.declared.parts.Particle.{Particle}
use Rattle.pbd_world.specs.declared.parts.Link.{Link}
use Rattle.pbd_world.specs.Particles.{particle_at}
use Rattle.pbd_world.specs.Neighbours.{neighbours, is_among}
use Rattle.pbd_world.specs.Valid.{is_between, is_valid_particle, ValidLink, ValidLinks}
use Rattle.pbd_world.proofs.ValidLinks.{between_facts, links_join, links_more, no_links, differ}
use Rattle.pbd_scene.specs.declared.raw.LinkEntry.{LinkEntry}
use Rattle.pbd_scene.specs.declared.fault.SceneRule.TheVariants.{BadIndex, SelfLink, DoubleLink, TooMany, TooManyAtParticle}
use Rattle.pbd_scene.specs.declared.fault.Place.{Place}
use Rattle.pbd_scene.specs.declared.tables.KeyName.{KeyName}
use Rattle.pbd_scene.specs.declared.tables.KeyName.TheVariants as keys
use Rattle.pbd_scene.specs.declared.tables.TableName.TheVariants as tables
use Rattle.pbd_scene.specs.Checks.{expect, each}
use Rattle.pbd_scene.specs.Values.{at}
use Rattle.pbd_scene.specs.Naming.{particle_number, plain_link, length_between, room_for_link, entry_link, link_after, all_links}
use Rattle.pbd_scene.proofs.Accepted.{through, expect_ok, same_ok, tested, each_keeps_where}
use Rattle.pbd_scene.proofs.Entering.{is_entry_particle, is_link_entry, rest_or, is_rest}

-- links that are valid and live
pub record LiveLinks (limit : ℤ) (n : ℕ) (ls : List Link) : Type 0 where
  pub valid : ValidLinks limit n ls
  pub live : list_all {X = Link} (λ l. l.live) ls ≡ true

pub live_none : (limit : ℤ) (n : ℕ) → LiveLinks limit n []
live_none limit n = record { valid = no_links limit n; live = refl }

-- a mesh more
pub live_mesh : (limit : ℤ) (n : ℕ) (ls ms : List Link) (ps : List Particle) → length ls + length ms ≤ 524288 → LiveLinks limit n ls
    → IsMesh limit n ps ms → LiveLinks limit (n + length ps) (ls ++ ms)
live_mesh limit n ls ms ps number g mesh = record {
  valid = links_join limit n (n + length ps) ls ms (omega arith) number g.valid (links_valid limit n ps ms (omega (arith, number)) mesh)
      (links_from limit n ps ms mesh);
  live = list_all-append {X = Link} (λ l. l.live) ls ms ∙ and_from _ _ g.live (links_live limit n ps ms mesh);
}

-- ---- the entries

pub number_ok : (count : ℕ) (place : Place) (key : KeyName) (n : ℤ) (i : ℕ) → particle_number count place key n ≡ Ok i → i < count
unfolding particle_number
number_ok count place key n i is = let t = tested (int_le (pos 0) n && int_lt n (pos count)) BadIndex place key (unsigned_abs n) i is in
    rw (← t.1) (small n t.0)
  where
    small : (n : ℤ) → (int_le (pos 0) n && int_lt n (pos count)) ≡ true → unsigned_abs n < count
    small (pos n) t = grind (arith, ints, nat_tests)
    small n t = absurd (grind (arith, ints, nat_tests))

-- a particle of a list of valid ones is within the limit
pub within_at : (limit : ℤ) (ps : List Particle) (i : ℕ) (d : Particle) → list_all (is_entry_particle limit) ps ≡ true → i < length ps
    → is_within limit (get_or ps i d).at ≡ true
within_at limit [] i d t within = absurd (omega (arith, within))
within_at limit (p ∷ ps) zero d t within =
    let here = (and_parts (is_entry_particle limit p) (list_all (is_entry_particle limit) ps) t).0 in
    let valid = (and_parts (is_valid_particle limit p) _ here).0 in
    let p2 = and_parts (is_within limit p.at && is_within limit p.before && nat_le 1 p.weight) (nat_le p.weight 65535) valid in
    let p1 = and_parts (is_within limit p.at && is_within limit p.before) (nat_le 1 p.weight) p2.0 in
    (and_parts (is_within limit p.at) (is_within limit p.before) p1.0).0
within_at limit (p ∷ ps) (suc i) d t within = within_at limit ps i d
    (and_parts (is_entry_particle limit p) (list_all (is_entry_particle limit) ps) t).1 (omega (arith, within))

length_ok : (limit : ℤ) (ps : List Particle) (a b : ℕ) → pos 0 ≤ℤ limit → list_all (is_entry_particle limit) ps ≡ true → a < length ps
    → b < length ps → is_between (pos 0) (pos 4 *ℤ limit) (length_between ps a b) ≡ true
unfolding length_between
length_ok limit ps a b low all ha hb = rest_fits limit (particle_at ps a).at (particle_at ps b).at low (within_at limit ps a _ all ha)
    (within_at limit ps b _ all hb)

room_ok : (place : Place) (b : ℕ) (at_a at_b : List ℕ) (u : Unit {0}) → room_for_link place b at_a at_b ≡ Ok u
    → (is_among b at_a ≡ false) × (length at_a < 32) × (length at_b < 32)
unfolding room_for_link
room_ok place b at_a at_b u is =
    through (expect (not (is_among b at_a)) DoubleLink place keys.NoKey) _ u is (λ u1 e1 is1.
    through (expect (nat_lt (length at_a) 32) TooManyAtParticle place keys.A) _ u is1 (λ u2 e2 is2. (
      not-true (is_among b at_a) (expect_ok (not (is_among b at_a)) DoubleLink place keys.NoKey u1 e1),
      ltb-true (length at_a) 32 (expect_ok (nat_lt (length at_a) 32) TooManyAtParticle place keys.A u2 e2),
      ltb-true (length at_b) 32 (expect_ok (nat_lt (length at_b) 32) TooManyAtParticle place keys.B u is2),
    )))

link_next : (limit : ℤ) (ps : List Particle) (position : ℕ) (ls : List Link) (entry : LinkEntry) (l : Link) → pos 0 ≤ℤ limit
    → list_all (is_entry_particle limit) ps ≡ true → is_link_entry limit entry ≡ true → LiveLinks limit (length ps) ls
    → entry_link ps position ls entry ≡ Ok l → LiveLinks limit (length ps) (ls ++ l ∷ [])
unfolding entry_link plain_link
link_next limit ps position ls entry l low all passes g is =
    let place = at tables.Link position in
    through (expect (nat_lt (length ls) 524288) TooMany place keys.NoKey) _ l is (λ u1 e1 is1.
    through (particle_number (length ps) place keys.A entry.a) _ l is1 (λ a e2 is2.
    through (particle_number (length ps) place keys.B entry.b) _ l is2 (λ b e3 is3.
    through (expect (not (a == b)) SelfLink place keys.NoKey) _ l is3 (λ u4 e4 is4.
    through (room_for_link place b (neighbours a ls) (neighbours b ls)) _ l is4 (λ u5 e5 is5.
    let made : Link = plain_link a b (unwrap_or entry.rest (length_between ps a b)) entry in
    let room = ltb-true (length ls) 524288 (expect_ok (nat_lt (length ls) 524288) TooMany place keys.NoKey u1 e1) in
    let ha = number_ok (length ps) place keys.A entry.a a e2 in
    let hb = number_ok (length ps) place keys.B entry.b b e3 in
    let apart = expect_ok (not (a == b)) SelfLink place keys.NoKey u4 e4 in
    let room_at = room_ok place b (neighbours a ls) (neighbours b ls) u5 e5 in
    let p2 = and_parts (is_rest limit entry.rest && is_between (pos 0) (pos 4 *ℤ limit) entry.tear) (nat_le entry.k 256) passes in
    let p1 = and_parts (is_rest limit entry.rest) (is_between (pos 0) (pos 4 *ℤ limit) entry.tear) p2.0 in
    let rest = (between_facts (pos 0) (pos 4 *ℤ limit) (unwrap_or entry.rest (length_between ps a b))).0
    (rest_or limit entry.rest (length_between ps a b) p1.0 (length_ok limit ps a b low all ha hb)) in
    let tear = (between_facts (pos 0) (pos 4 *ℤ limit) entry.tear).0 p1.1 in
    let valid : ValidLink limit (length ps) made = record {
      first = ha;
      second = hb;
      apart = differ a b apart;
      rest_low = rest.0;
      rest_high = rest.1;
      tear_low = tear.0;
      tear_high = tear.1;
      stiffness = leb-true entry.k 256 p2.1;
    } in
    let grown : LiveLinks limit (length ps) (ls ++ made ∷ []) = record {
      valid = links_more limit (length ps) ls made g.valid valid room room_at.0 room_at.1 room_at.2;
      live = rw (list_all-append {X = Link} (λ l. l.live) ls (made ∷ []), g.live) refl;
    } in
    rw (← same_ok made l is5) grown)))))

pub links_fit : (limit : ℤ) (ps : List Particle) (meshes : List Link) (entries : List LinkEntry) (links : List Link) → pos 0 ≤ℤ limit
    → list_all (is_entry_particle limit) ps ≡ true → list_all (is_link_entry limit) entries ≡ true → LiveLinks limit (length ps) meshes
    → all_links ps meshes entries ≡ Ok links → LiveLinks limit (length ps) links
unfolding all_links
links_fit limit ps meshes entries links low all pass g is =
    through (each (link_after ps meshes) [] entries) _ links is (λ made e1 is1.
    let start : LiveLinks limit (length ps) (meshes ++ []) = rw (append-nil meshes) g in
    let end = each_keeps_where (link_after ps meshes) (is_link_entry limit) (λ front. LiveLinks limit (length ps) (meshes ++ front))
    (λ front x y ok held e. let next = link_next limit ps (length front) (meshes ++ front) x y low all ok held e in rw append_assoc at next)
    [] entries made pass start e1 in
    rw (← same_ok (meshes ++ made) links is1) end)
