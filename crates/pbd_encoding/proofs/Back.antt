-- The state of a world tells that world.
use Rattle.std.proofs.Common.{◌≡◌, refl, sym, ap, ◌∙◌, ℕ, ◌+◌, ◌*◌, ◌^◌, ◌<◌, ◌==◌, List, ◌++◌, length, arith}
use Rattle.std.specs.Prelude.{slice_index}
use Rattle.pbd_world.specs.declared.parts.Particle.{Particle}
use Rattle.pbd_world.specs.declared.parts.Link.{Link}
use Rattle.pbd_world.specs.Bonds.{link_at, no_link}
use Rattle.pbd_world.specs.Ledger.{Ledger}
use Rattle.pbd_world.specs.Particles.{particle_at, no_particle}
use Rattle.pbd_world.specs.World.{World, AreOfOneScene}
use Rattle.pbd_sound.specs.Described.{particle_told, link_told, particles_told, links_told}
use Rattle.pbd_sound.proofs.Telling.{numbered_is}
use Rattle.pbd_log.specs.Entries.{number_bytes, vector_bytes}
use Rattle.pbd_encoding.specs.Encoding.{sum_bytes, header_of, head_bytes, at_bytes, before_bytes, held_bytes, live_bytes}
use Rattle.pbd_encoding.specs.Encoding.{first_totals_bytes, last_totals_bytes, state_bytes}
use Rattle.pbd_encoding.specs.Described.{number_from, vector_from, sum_from, contacts_at, told_by}
use Rattle.pbd_encoding.specs.Laws.{TotalsFit, NumbersFit, told_on}
use Rattle.pbd_encoding.proofs.Lengths.{two_long, sum_long, flag_long, header_long}
use Rattle.pbd_encoding.proofs.Standing.{Stands, first_stands, second_stands, behind_front, stands_as, each_stands, byte_stands}
use Rattle.pbd_encoding.proofs.Reading.{number_back, vector_back, sum_back, flag_back}
use Rattle.pbd_encoding.proofs.Sections.{Sections, sections}
use Rattle.pbd_encoding.proofs.Scenes.{same_weight, same_link}
use Rattle.pbd_log.proofs.Fields.{length-number, length-vector}
use Rattle.pbd_world.proofs.SameShape.{scene_particles, scene_links}

-- ---- steps and gravity

record HeadBack (bytes : List ℕ) (v : World) : Type 0 where
  steps : number_from 8 bytes 96 ≡ v.steps
  gravity : vector_from bytes 104 ≡ v.gravity

head_back : (scene bytes : List ℕ) (v : World) → length scene ≡ 32 → NumbersFit v → Stands bytes 0 (head_bytes scene v) → HeadBack bytes v
unfolding head_bytes
head_back scene bytes v e fit h =
    let header = header_of scene v in
    let steps = number_bytes 8 v.steps in
    let long : length header ≡ 96 = header_long scene (length v.particles) (length v.links) v.opening e in
    let front = first_stands bytes 0 (header ++ steps) (vector_bytes v.gravity) h in
    record {
      steps = number_back 8 v.steps bytes 96 (behind_front bytes header steps 96 long front) (omega (arith, fit.steps));
      gravity = vector_back v.gravity bytes 104
          (behind_front bytes (header ++ steps) (vector_bytes v.gravity) 104 (two_long header steps 96 8 long (length-number 8 v.steps)) h)
          fit.gravity;
    }

-- ---- contacts and totals

record FirstTotalsBack (bytes : List ℕ) (c contacts : ℕ) (t : Ledger) : Type 0 where
  contacts_back : number_from 4 bytes c ≡ contacts
  gravity : sum_from bytes (c + 4) ≡ t.gravity
  damping : sum_from bytes (c + 4 + 48) ≡ t.damping
  link : sum_from bytes (c + 4 + 96) ≡ t.link

first_totals_back : (bytes : List ℕ) (c contacts : ℕ) (t : Ledger) → contacts < 2 ^ 32 → TotalsFit t
    → Stands bytes c (first_totals_bytes contacts t)
    → FirstTotalsBack bytes c contacts t
unfolding first_totals_bytes
first_totals_back bytes c contacts t few fit h =
    let a = number_bytes 4 contacts in let g = sum_bytes t.gravity in let d = sum_bytes t.damping in let l = sum_bytes t.link in
    let agd = first_stands bytes c (a ++ g ++ d) l h in
    let ag = first_stands bytes c (a ++ g) d agd in
    let long2 : length (a ++ g) ≡ 52 = two_long a g 4 48 (length-number 4 contacts) (sum_long t.gravity) in
    let long3 : length (a ++ g ++ d) ≡ 100 = two_long (a ++ g) d 52 48 long2 (sum_long t.damping) in
    let damping = stands_as bytes (c + 52) (c + 4 + 48) d d (omega arith) refl (second_stands bytes c (a ++ g) d 52 long2 agd) in
    let link = stands_as bytes (c + 100) (c + 4 + 96) l l (omega arith) refl (second_stands bytes c (a ++ g ++ d) l 100 long3 h) in
    record {
      contacts_back = number_back 4 contacts bytes c (first_stands bytes c a g ag) (omega (arith, few));
      gravity = sum_back t.gravity bytes (c + 4) (second_stands bytes c a g 4 (length-number 4 contacts) ag) fit.gravity;
      damping = sum_back t.damping bytes (c + 4 + 48) damping fit.damping;
      link = sum_back t.link bytes (c + 4 + 96) link fit.link;
    }

record LastTotalsBack (bytes : List ℕ) (c : ℕ) (t : Ledger) : Type 0 where
  contact : sum_from bytes (c + 4 + 144) ≡ t.contact
  shape : sum_from bytes (c + 4 + 192) ≡ t.shape
  pin : sum_from bytes (c + 4 + 240) ≡ t.pin

last_totals_back : (bytes : List ℕ) (c : ℕ) (t : Ledger) → TotalsFit t → Stands bytes (c + 148) (last_totals_bytes t)
    → LastTotalsBack bytes c t
unfolding last_totals_bytes
last_totals_back bytes c t fit h =
    let a = sum_bytes t.contact in let b = sum_bytes t.shape in let p = sum_bytes t.pin in
    let ab = first_stands bytes (c + 148) (a ++ b) p h in
    let long2 : length (a ++ b) ≡ 96 = two_long a b 48 48 (sum_long t.contact) (sum_long t.shape) in
    let contact = stands_as bytes (c + 148) (c + 4 + 144) a a (omega arith) refl (first_stands bytes (c + 148) a b ab) in
    let shape = stands_as bytes (c + 148 + 48) (c + 4 + 192) b b (omega arith) refl
    (second_stands bytes (c + 148) a b 48 (sum_long t.contact) ab) in
    let pin = stands_as bytes (c + 148 + 96) (c + 4 + 240) p p (omega arith) refl (second_stands bytes (c + 148) (a ++ b) p 96 long2 h) in
    record {
      contact = sum_back t.contact bytes (c + 4 + 144) contact fit.contact;
      shape = sum_back t.shape bytes (c + 4 + 192) shape fit.shape;
      pin = sum_back t.pin bytes (c + 4 + 240) pin fit.pin;
    }

-- ---- particles and links

at_back : (scene bytes : List ℕ) (v : World) (i : ℕ) → NumbersFit v → Sections bytes scene v → i < length v.particles
    → vector_from bytes (128 + 24 * i) ≡ (particle_at v.particles i).at
at_back scene bytes v i fit s lt =
    let h = each_stands {A = Particle} bytes at_bytes 24 128 v.particles i no_particle (λ p. length-vector p.at) lt s.at in
    let text = vector_bytes (particle_at v.particles i).at in
    vector_back (particle_at v.particles i).at bytes (128 + 24 * i)
    (stands_as bytes (128 + i * 24) (128 + 24 * i) text text (omega arith) refl h) (fit.at i lt)

before_back : (scene bytes : List ℕ) (v : World) (i : ℕ) → NumbersFit v → Sections bytes scene v → i < length v.particles
    → vector_from bytes (128 + 24 * length v.particles + 24 * i) ≡ (particle_at v.particles i).before
before_back scene bytes v i fit s lt =
    let start = 128 + 24 * length v.particles in
    let h = each_stands {A = Particle} bytes before_bytes 24 start v.particles i no_particle (λ p. length-vector p.before) lt s.before in
    let text = vector_bytes (particle_at v.particles i).before in
    let there = stands_as bytes (start + i * 24) (start + 24 * i) text text (omega arith) refl h in
    vector_back (particle_at v.particles i).before bytes (start + 24 * i) there (fit.before i lt)

pub held_there : (scene bytes : List ℕ) (v : World) (i : ℕ) → Sections bytes scene v → i < length v.particles
    → Stands bytes (128 + 48 * length v.particles + i) (held_bytes (particle_at v.particles i))
held_there scene bytes v i s lt = byte_stands {A = Particle} bytes held_bytes (128 + 48 * length v.particles) v.particles i no_particle
    (λ p. flag_long p.held) lt s.held

pub live_there : (scene bytes : List ℕ) (v : World) (l : ℕ) → Sections bytes scene v → l < length v.links
    → Stands bytes (128 + 49 * length v.particles + l) (live_bytes (link_at v.links l))
live_there scene bytes v l s lt = byte_stands {A = Link} bytes live_bytes (128 + 49 * length v.particles) v.links l no_link
    (λ x. flag_long x.live) lt s.live

-- ---- all of it

pub told_back : (scene : List ℕ) (w v : World) → length scene ≡ 32 → AreOfOneScene w v → NumbersFit v → told_on w (state_bytes scene v) ≡ v
told_back scene w v e same fit =
    let bytes = state_bytes scene v in
    let s : Sections bytes scene v = sections scene v e in
    let d = told_by bytes (length w.particles) (length w.links) in
    let en : length w.particles ≡ length v.particles = scene_particles w v same in
    let em : length w.links ≡ length v.links = scene_links w v same in
    let c = contacts_at (length w.particles) (length w.links) in
    let ec : contacts_at (length v.particles) (length v.links) ≡ c = omega (arith, en, em) in
    let head = head_back scene bytes v e fit s.head in
    let first = first_totals_back bytes c v.contacts v.totals fit.contacts fit.totals (stands_as bytes _ c _ _ ec refl s.first_totals) in
    let last = last_totals_back bytes c v.totals fit.totals
    (stands_as bytes _ (c + 148) _ _ (ap (λ (k : ℕ). k + 148) ec) refl s.last_totals) in
    let particle : (i : ℕ) → i < length w.particles → particle_at v.particles i ≡ particle_told d i (particle_at w.particles i) = λ i lt.
    let within : i < length v.particles = omega (arith, lt, en) in
    let at = at_back scene bytes v i fit s within in
    let before = ap (λ (k : ℕ). vector_from bytes (128 + 24 * k + 24 * i)) en ∙ before_back scene bytes v i fit s within in
    let flag = flag_back bytes (128 + 48 * length v.particles + i) (particle_at v.particles i).held (held_there scene bytes v i s within) in
    let held = ap (λ (k : ℕ). slice_index bytes (128 + 48 * k + i) == 1) en ∙ flag in
    λ j. record { at = sym at j; before = sym before j; weight = same_weight w v i same lt j; held = sym held j } in
    let link : (l : ℕ) → l < length w.links → link_at v.links l ≡ link_told d l (link_at w.links l) = λ l lt.
    let within : l < length v.links = omega (arith, lt, em) in
    let flag = flag_back bytes (128 + 49 * length v.particles + l) (link_at v.links l).live (live_there scene bytes v l s within) in
    let live = ap (λ (k : ℕ). slice_index bytes (128 + 49 * k + l) == 1) en ∙ flag in
    λ j. record (same_link w v l same lt j) { live = sym live j } in
    let particles : v.particles ≡ particles_told d w.particles =
    numbered_is (particle_told d) w.particles v.particles no_particle (sym en) particle in
    let links : v.links ≡ links_told d w.links = numbered_is (link_told d) w.links v.links no_link (sym em) link in
    λ j. record {
      limit = ap (λ (u : World). u.limit) same j;
      steps = head.steps j;
      particles = sym particles j;
      links = sym links j;
      tracks = ap (λ (u : World). u.tracks) same j;
      shapes = ap (λ (u : World). u.shapes) same j;
      gravity = head.gravity j;
      passes = ap (λ (u : World). u.passes) same j;
      damping = ap (λ (u : World). u.damping) same j;
      thickness = ap (λ (u : World). u.thickness) same j;
      friction = ap (λ (u : World). u.friction) same j;
      contacts = first.contacts_back j;
      totals = record {
        gravity = first.gravity j;
        damping = first.damping j;
        link = first.link j;
        contact = last.contact j;
        pin = last.pin j;
        shape = last.shape j;
      };
      opening = ap (λ (u : World). u.opening) same j;
    }

-- two worlds of a scene that have one state are one
pub worlds_apart : (scene : List ℕ) (v w : World) → length scene ≡ 32 → AreOfOneScene v w → NumbersFit v → NumbersFit w
    → state_bytes scene v ≡ state_bytes scene w → v ≡ w
worlds_apart scene v w e same fv fw h =
    sym (told_back scene v v e refl fv) ∙ ap (λ (b : List ℕ). told_on v b) h ∙ told_back scene v w e same fw
