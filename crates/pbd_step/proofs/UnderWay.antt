-- Worlds in the middle of a step, and the bonds of their links and contacts.
use Rattle.std.proofs.Common.{◌≡◌, ◌≢◌, ap, sym, ◌∙◌, subst, ℕ, suc, ◌+◌, ◌<◌, ◌≤◌, ◌==◌, ◌&&◌, not, false, List, [], ◌∷◌, length, drop}
use Rattle.std.proofs.Common.{arith, ℤ, pos, ◌≤ℤ◌, ◌*ℤ◌, unsigned_abs, IsTrue, nat_le, to_z, of_z, w64}
use Rattle.std.specs.List.{AllByRecursion, list_all}
use Rattle.std.proofs.lemmas.Int.{ints, to_z-of_z}
use Rattle.std.proofs.lemmas.Bool.{and_parts, and_from, leb-true, ltb-true, eq-eqb, false≢true}
use Rattle.std.proofs.lemmas.Bool.Decides.{nat_tests}
use Rattle.std.proofs.lemmas.List.{get_or-map, length-map}
use Rattle.std.proofs.lemmas.List.Sums.{AllPass-from_list_all}
use Rattle.pbd_num.specs.Vectors.{Within, is_within}
use Rattle.pbd_num.proofs.Ranges.{within_facts}
use Rattle.pbd_num.proofs.Sizes.{fits}
use Rattle.pbd_world.specs.declared.parts.Particle.{Particle}
use Rattle.pbd_world.specs.declared.parts.Link.{Link}
use Rattle.pbd_world.specs.declared.bond.Bond.{Bond}
use Rattle.pbd_world.specs.Ledger.{Ledger, ledger_of, HaveRoom}
use Rattle.pbd_world.specs.Particles.{particle_at, no_particle}
use Rattle.pbd_world.specs.Bonds.{link_at, no_link, link_bond, contact_bond}
use Rattle.pbd_world.specs.Colours.{pair_at}
use Rattle.pbd_world.specs.Contacts.{link_pairs}
use Rattle.pbd_world.specs.Valid.{is_limit, is_between, is_valid_particle, is_valid_link, are_valid_links, are_valid_tracks}
use Rattle.pbd_world.specs.World.{World, parts_of}
use Rattle.pbd_world.proofs.WorldParts.{Formed, formed, from_formed, numbers_of, IsFit, all_fit, are_fit}
use Rattle.pbd_store.specs.Moving.{fixed_parts, AreInside}
use Rattle.pbd_store.proofs.Limits.{valid_inside}
use Rattle.pbd_colour.specs.Pairs.{InRange}
use Rattle.pbd_pair.specs.declared.bonds.Bonds.{Bonds}
use Rattle.pbd_pair.specs.Bonds.{bond_of, bond_count, IsBond}
use Rattle.pbd_world.proofs.Rooms.{room_at}
use Rattle.pbd_pair.proofs.Batches.{weigh_same}
use Rattle.pbd_store.proofs.Fixed.{same_length}
use Rattle.pbd_step.specs.declared.state.Setting.{Setting}
use Rattle.pbd_step.specs.declared.state.State.{State}
use Rattle.pbd_step.specs.Projecting.{AreBondsOf, AreMovable}
use Rattle.pbd_step.specs.States.{world_of, IsUnderWay}
use Rattle.pbd_world.proofs.WholeLemmas.{limit_low}

-- ---- links and contacts as bonds

pub between_parts : (high n : ℤ) → IsTrue (is_between (pos 0) high n) → (pos 0 ≤ℤ n) × (n ≤ℤ high)
between_parts high n h = (grind (arith, ints, nat_tests), grind (arith, ints, nat_tests))

differ : (a b : ℕ) → IsTrue (not (a == b)) → a ≢ b
differ a b h e = false≢true (ap not (sym (eq-eqb a b e)) ∙ h)

pub link_is_bond : (limit : ℤ) (n : ℕ) (l : Link) → IsTrue (is_valid_link limit n l)
    → IsBond limit n (record { a = l.a; b = l.b; rest = l.rest; k = pos l.k; contact = false })
link_is_bond limit n l valid =
    let p5 = and_parts _ _ valid in
    let p4 = and_parts _ _ p5.0 in
    let p3 = and_parts _ _ p4.0 in
    let p2 = and_parts _ _ p3.0 in
    let p1 = and_parts _ _ p2.0 in
    let rest = between_parts (pos 4 *ℤ limit) l.rest p3.1 in
    let stiff : l.k ≤ 256 = leb-true l.k 256 p5.1 in
    record {
      first = ltb-true l.a n p1.0;
      second = ltb-true l.b n p1.1;
      different = differ l.a l.b p2.1;
      pulled = record { rest_low = rest.0; rest_high = rest.1; k_low = omega (arith, ints); k_high = omega (arith, ints, stiff) };
    }

pub link_parts : (limit : ℤ) (n : ℕ) (links : List Link) → IsTrue (are_valid_links limit n links)
    → (length links ≤ 524288) × IsTrue (list_all (is_valid_link limit n) links)
link_parts limit n links valid = let few = and_parts _ _ (and_parts _ _ (and_parts _ _ valid).0).0 in
    (leb-true (length links) 524288 few.0, few.1)

pub few_links : (limit : ℤ) (n : ℕ) (links : List Link) → IsTrue (are_valid_links limit n links) → length (link_pairs links) ≤ 524288
few_links limit n links valid = omega (arith, length-map {A = Link} {B = ℕ × ℕ} links (λ l. (l.a, l.b)), (link_parts limit n links valid).0)

pub link_bonds : (limit : ℤ) (n : ℕ) (links : List Link) (bonds : Bonds) → bond_count bonds ≡ length links
    → ((k : ℕ) → bond_of bonds k ≡ link_bond links k) → IsTrue (are_valid_links limit n links) → AreBondsOf limit n bonds (link_pairs links)
link_bonds limit n links bonds count is valid =
    let ends : Link → ℕ × ℕ = λ l. (l.a, l.b) in
    let same : length (link_pairs links) ≡ length links = length-map links ends in
    let pair : (k : ℕ) → k < length (link_pairs links) → pair_at (link_pairs links) k
    ≡ ends (link_at links k) = λ k lt. get_or-map ends links k _ _ (omega (arith, lt, same)) in
    record {
      count = count ∙ sym same;
      first = λ k lt. ap (λ (b : Bond). b.a) (is k) ∙ sym (ap (λ (p : ℕ × ℕ). p.0) (pair k lt));
      second = λ k lt. ap (λ (b : Bond). b.b) (is k) ∙ sym (ap (λ (p : ℕ × ℕ). p.1) (pair k lt));
      bond = λ k lt. subst (IsBond limit n) (sym (is k)) (link_is_bond limit n (link_at links k)
          (AllPass-from_list_all (is_valid_link limit n) links (link_parts limit n links valid).1 k no_link (omega (arith, lt, same))));
    }

limit_wide : (limit : ℤ) → IsTrue (is_limit limit) → pos 1048576 ≤ℤ (pos 4 *ℤ limit)
limit_wide limit h = grind (arith, ints, nat_tests)

thickness_fits : (limit t : ℤ) → IsTrue (is_limit limit) → t ≤ℤ pos 1048576 → t ≤ℤ (pos 4 *ℤ limit)
thickness_fits limit t l h = omega (arith, ints, limit_wide limit l, h)

pub contact_bonds : (limit thickness : ℤ) (n : ℕ) (pairs : List (ℕ × ℕ)) (bonds : Bonds) → bond_count bonds ≡ length pairs
    → ((k : ℕ) → bond_of bonds k ≡ contact_bond thickness pairs k) → IsTrue (is_limit limit)
    → IsTrue (is_between (pos 0) (pos 1048576) thickness) → InRange n pairs → AreBondsOf limit n bonds pairs
contact_bonds limit thickness n pairs bonds count is l t range =
    let thin = between_parts (pos 1048576) thickness t in
    record {
      count = count;
      first = λ k lt. ap (λ (b : Bond). b.a) (is k);
      second = λ k lt. ap (λ (b : Bond). b.b) (is k);
      bond = λ k lt. subst (IsBond limit n) (sym (is k)) (record {
        first = (range k lt).0;
        second = (range k lt).1;
        different = (range k lt).2;
        pulled = record {
          rest_low = thin.0;
          rest_high = thickness_fits limit thickness l thin.1;
          k_low = omega (arith, ints);
          k_high = omega (arith, ints);
        };
      });
    }

-- ---- what a world under way says of its particles

pub movable : (bound : ℕ) (w : World) → IsUnderWay bound w → AreMovable bound w.limit w.particles w.totals
movable bound w u =
    let f = formed (parts_of w) u.well_formed in
    let fits = and_parts (nat_le (length w.particles) 65536) (list_all (is_valid_particle w.limit) w.particles) f.particles in
    let weighs = λ (i : ℕ) (lt : i < length w.particles). AllPass-from_list_all
    (is_valid_particle w.limit) w.particles fits.1 i no_particle lt in
    record {
      inside = valid_inside w.limit w.particles f.limit f.particles;
      weights = record {
        low = λ i lt. leb-true 1 (particle_at w.particles i).weight (and_parts _ _ (and_parts _ _ (weighs i lt)).0).1;
        high = λ i lt. leb-true (particle_at w.particles i).weight 65535 (and_parts _ _ (weighs i lt)).1;
      };
      room = u.room;
    }

-- a particle that was moved within the limit
moved_fit : (limit : ℤ) (p q : Particle) → pos 0 ≤ℤ limit → record q { at = p.at } ≡ p → Within (unsigned_abs limit) q.at → IsFit limit p
    → IsFit limit q
moved_fit limit p q low e w f = record {
  at = (within_facts limit q.at low).1 w;
  before = ap (λ (r : Particle). is_within limit r.before) e ∙ f.before;
  low = ap (λ (r : Particle). nat_le 1 r.weight) e ∙ f.low;
  high = ap (λ (r : Particle). nat_le r.weight 65535) e ∙ f.high;
}

all_moved_fit : (limit : ℤ) (ps qs : List Particle) → pos 0 ≤ℤ limit → fixed_parts qs ≡ fixed_parts ps
    → ((i : ℕ) → i < length qs → Within (unsigned_abs limit) (particle_at qs i).at) → AllByRecursion (IsFit limit) ps
    → AllByRecursion (IsFit limit) qs
all_moved_fit limit ps [] low e w f = tt
all_moved_fit limit [] (q ∷ qs) low e w f = absurd (omega (arith, same_length (q ∷ qs) [] e))
all_moved_fit limit (p ∷ ps) (q ∷ qs) low e w f =
    let head = ap (λ (l : List Particle). particle_at l 0) e in
    let tail = ap (λ (l : List Particle). drop 1 l) e in (
      moved_fit limit p q low (ap (λ (r : Particle). record r { at = p.at }) head) (w 0 (omega arith)) f.0,
      all_moved_fit limit ps qs low tail (λ i lt. w (suc i) (omega (arith, lt))) f.1,
    )

-- after its particles moved within the limit, a world is under way still
pub moved_under_way : (n bound : ℕ) (w : World) (ps : List Particle) (t : Ledger) → IsUnderWay n w
    → fixed_parts ps ≡ fixed_parts w.particles → AreInside w.limit ps → HaveRoom bound t
    → IsUnderWay bound (record w { particles = ps; totals = t })
moved_under_way n bound w ps t u e inside room =
    let f = formed (parts_of w) u.well_formed in
    let fits = and_parts (nat_le (length w.particles) 65536) (list_all (is_valid_particle w.limit) w.particles) f.particles in
    let whole : length w.particles ≡ length ps = sym (same_length ps w.particles e) in
    let some = ap (λ (k : ℕ). nat_le k 65536) (sym whole) ∙ fits.0 in
    let all = are_fit w.limit ps (all_moved_fit w.limit w.particles ps (limit_low w.limit f.limit) e inside.each
    (all_fit w.limit w.particles fits.1)) in
    record {
      well_formed = from_formed (parts_of (record w { particles = ps; totals = t })) (record {
        limit = f.limit;
        particles = and_from (nat_le (length ps) 65536) (list_all (is_valid_particle w.limit) ps) some all;
        links = subst (λ (k : ℕ). IsTrue (are_valid_links w.limit k w.links)) whole f.links;
        shapes = f.shapes;
        tracks = subst (λ (k : ℕ). IsTrue (are_valid_tracks w.limit k w.tracks)) whole f.tracks;
        gravity = f.gravity;
        numbers = f.numbers;
      });
      room = room;
    }

-- the world of a state whose store and totals alone changed
pub moved_world : {l : ℕ} (setting : Setting) (old new : State l) → new ≡ record old { store = new.store; totals = new.totals }
    → new.store.limit ≡ old.store.limit
    → world_of setting new ≡ record (world_of setting old) { particles = new.store.particles; totals = ledger_of new.totals }
moved_world setting old new same limit = λ i. record (world_of setting new)
    { limit = limit i; steps = (same i).steps; links = (same i).links.items; contacts = (same i).contacts }

-- ---- what is known after an answer

pub still_movable : {limit l : ℤ} {ps qs : List Particle} {t u : Ledger} (grown : ℕ) → l ≡ limit → fixed_parts qs ≡ fixed_parts ps
    → AreInside limit qs → ((n : ℕ) → HaveRoom n t → HaveRoom (n + grown) u) → (n : ℕ) → AreMovable n limit ps t
    → AreMovable (n + grown) l qs u
still_movable {limit} {l} {ps} {qs} {t} {u} grown el fixed inside room n m = record {
  inside = subst (λ (k : ℤ). AreInside k qs) (sym el) inside;
  weights = weigh_same ps qs fixed m.weights;
  room = room n m.room;
}

pub more_movable : {n : ℕ} {limit : ℤ} {ps : List Particle} {t : Ledger} (m : ℕ) → n ≤ m → AreMovable n limit ps t → AreMovable m limit ps t
more_movable m le h = record { inside = h.inside; weights = h.weights; room = room_at m le h.room }

-- ---- numbers of a world under way

pub particles_few : (w : World) → Formed (parts_of w) → length w.particles ≤ 65536
particles_few w f = leb-true (length w.particles) 65536 (and_parts (nat_le (length w.particles) 65536)
    (list_all (is_valid_particle w.limit) w.particles) f.particles).0

pub thickness_of : (w : World) → Formed (parts_of w) → IsTrue (is_between (pos 0) (pos 1048576) w.thickness)
thickness_of w f =
    let p3 = and_parts (nat_le w.passes 64 && is_between (pos 0) (pos 1024) w.damping && is_between (pos 0) (pos 1048576) w.thickness)
    (is_between (pos 0) (pos 256) w.friction) f.numbers in
    (and_parts (nat_le w.passes 64 && is_between (pos 0) (pos 1024) w.damping) (is_between (pos 0) (pos 1048576) w.thickness) p3.0).1

pub thickness_kept : (t : ℤ) → IsTrue (is_between (pos 0) (pos 1048576) t) → to_z w64 (of_z w64 t) ≡ t
thickness_kept t h =
    let parts = between_parts (pos 1048576) t h in
    let low = parts.0 in
    let high = parts.1 in
    to_z-of_z w64 t (fits t (omega (arith, ints, low, high)))

pub more_under_way : {n : ℕ} {w : World} (m : ℕ) → n ≤ m → IsUnderWay n w → IsUnderWay m w
more_under_way m le u = record { well_formed = u.well_formed; room = room_at m le u.room }

pub passes_few : {n : ℕ} (w : World) → IsUnderWay n w → w.passes ≤ 64
passes_few w u = (numbers_of w (formed (parts_of w) u.well_formed)).passes
