-- Where each part of a state stands.
use Rattle.std.proofs.Common.{◌≡◌, refl, sym, ap, ◌∙◌, ℕ, ◌+◌, ◌*◌, List, ◌++◌, length, arith}
use Rattle.std.specs.List.{flat_map}
use Rattle.pbd_world.specs.declared.parts.Particle.{Particle}
use Rattle.pbd_world.specs.declared.parts.Link.{Link}
use Rattle.pbd_world.specs.World.{World}
use Rattle.pbd_encoding.specs.Described.{contacts_at}
use Rattle.pbd_encoding.specs.Encoding.{head_bytes, at_bytes, before_bytes, held_bytes, live_bytes, first_totals_bytes, last_totals_bytes}
use Rattle.pbd_encoding.specs.Encoding.{state_bytes, state_size}
use Rattle.pbd_encoding.proofs.Lengths.{two_long, flag_long, head_long, first_totals_long, last_totals_long, longer_by_each}
use Rattle.pbd_encoding.proofs.Standing.{Stands, first_stands, behind_front, both_front, whole_stands, stands_whole}
use Rattle.pbd_log.proofs.Fields.{length-vector}

-- ---- a state up to the end of each part

abbrev pub to_at : List ℕ → World → List ℕ
to_at scene w = head_bytes scene w ++ flat_map at_bytes w.particles

abbrev pub to_before : List ℕ → World → List ℕ
to_before scene w = to_at scene w ++ flat_map before_bytes w.particles

abbrev pub to_held : List ℕ → World → List ℕ
to_held scene w = to_before scene w ++ flat_map held_bytes w.particles

abbrev pub to_live : List ℕ → World → List ℕ
to_live scene w = to_held scene w ++ flat_map live_bytes w.links

abbrev pub to_first_totals : List ℕ → World → List ℕ
to_first_totals scene w = to_live scene w ++ first_totals_bytes w.contacts w.totals

pub state_parts : (scene : List ℕ) (w : World) → state_bytes scene w ≡ to_first_totals scene w ++ last_totals_bytes w.totals
unfolding state_bytes
state_parts scene w = refl

to_at_long : (scene : List ℕ) (w : World) → length scene ≡ 32 → length (to_at scene w) ≡ 128 + 24 * length w.particles
to_at_long scene w e = omega (
  arith,
  longer_by_each {A = Particle} (head_bytes scene w) at_bytes 128 24 w.particles (head_long scene w e) (λ p. length-vector p.at),
)

to_before_long : (scene : List ℕ) (w : World) → length scene ≡ 32 → length (to_before scene w) ≡ 128 + 48 * length w.particles
to_before_long scene w e =
    let longer = longer_by_each {A = Particle} (to_at scene w) before_bytes _ 24 w.particles (to_at_long scene w e) (λ p. length-vector p.before) in
    omega (arith, longer)

to_held_long : (scene : List ℕ) (w : World) → length scene ≡ 32 → length (to_held scene w) ≡ 128 + 49 * length w.particles
to_held_long scene w e =
    let longer = longer_by_each {A = Particle} (to_before scene w) held_bytes _ 1 w.particles (to_before_long scene w e) (λ p. flag_long p.held) in
    omega (arith, longer)

to_live_long : (scene : List ℕ) (w : World) → length scene ≡ 32
    → length (to_live scene w) ≡ contacts_at (length w.particles) (length w.links)
to_live_long scene w e =
    let longer = longer_by_each {A = Link} (to_held scene w) live_bytes _ 1 w.links (to_held_long scene w e) (λ l. flag_long l.live) in
    omega (arith, longer)

to_first_totals_long : (scene : List ℕ) (w : World) → length scene ≡ 32
    → length (to_first_totals scene w) ≡ contacts_at (length w.particles) (length w.links) + 148
to_first_totals_long scene w e =
    two_long (to_live scene w) (first_totals_bytes w.contacts w.totals) (contacts_at (length w.particles) (length w.links)) 148
    (to_live_long scene w e) (first_totals_long w.contacts w.totals)

pub state_long : (scene : List ℕ) (w : World) → length scene ≡ 32
    → length (state_bytes scene w) ≡ state_size (length w.particles) (length w.links)
state_long scene w e =
    let whole = ap (λ (t : List ℕ). length t) (state_parts scene w) in
    let both = two_long (to_first_totals scene w) (last_totals_bytes w.totals) _ 144 (to_first_totals_long scene w e)
    (last_totals_long w.totals) in
    omega (arith, whole, both)

-- ---- the parts

pub record Sections (bytes scene : List ℕ) (w : World) : Type 0 where
  pub head : Stands bytes 0 (head_bytes scene w)
  pub at : Stands bytes 128 (flat_map at_bytes w.particles)
  pub before : Stands bytes (128 + 24 * length w.particles) (flat_map before_bytes w.particles)
  pub held : Stands bytes (128 + 48 * length w.particles) (flat_map held_bytes w.particles)
  pub live : Stands bytes (128 + 49 * length w.particles) (flat_map live_bytes w.links)
  pub first_totals : Stands bytes (contacts_at (length w.particles) (length w.links)) (first_totals_bytes w.contacts w.totals)
  pub last_totals : Stands bytes (contacts_at (length w.particles) (length w.links) + 148) (last_totals_bytes w.totals)

-- each part stands in the state of a world
pub sections : (scene : List ℕ) (w : World) → length scene ≡ 32 → Sections (state_bytes scene w) scene w
unfolding state_bytes
sections scene w e =
    let bytes = state_bytes scene w in
    let all = whole_stands bytes in
    let totals = first_stands bytes 0 (to_first_totals scene w) (last_totals_bytes w.totals) all in
    let live = first_stands bytes 0 (to_live scene w) (first_totals_bytes w.contacts w.totals) totals in
    let held = first_stands bytes 0 (to_held scene w) (flat_map live_bytes w.links) live in
    let before = first_stands bytes 0 (to_before scene w) (flat_map held_bytes w.particles) held in
    let at = first_stands bytes 0 (to_at scene w) (flat_map before_bytes w.particles) before in
    record {
      head = first_stands bytes 0 (head_bytes scene w) (flat_map at_bytes w.particles) at;
      at = behind_front bytes (head_bytes scene w) (flat_map at_bytes w.particles) 128 (head_long scene w e) at;
      before = behind_front bytes (to_at scene w) (flat_map before_bytes w.particles) (128 + 24 * length w.particles)
          (to_at_long scene w e) before;
      held = behind_front bytes (to_before scene w) (flat_map held_bytes w.particles) (128 + 48 * length w.particles)
          (to_before_long scene w e) held;
      live = behind_front bytes (to_held scene w) (flat_map live_bytes w.links) (128 + 49 * length w.particles)
          (to_held_long scene w e) live;
      first_totals = behind_front bytes (to_live scene w) (first_totals_bytes w.contacts w.totals) _ (to_live_long scene w e) totals;
      last_totals = behind_front bytes (to_first_totals scene w) (last_totals_bytes w.totals) _ (to_first_totals_long scene w e) all;
    }

-- bytes in which each part stands, and no more, are the state
pub from_sections : (bytes scene : List ℕ) (w : World) → length scene ≡ 32 → length bytes ≡ state_size (length w.particles) (length w.links)
    → Sections bytes scene w → state_bytes scene w ≡ bytes
from_sections bytes scene w e long s =
    let at = both_front bytes (head_bytes scene w) (flat_map at_bytes w.particles) 128 (head_long scene w e) s.head s.at in
    let before = both_front bytes (to_at scene w) (flat_map before_bytes w.particles) _ (to_at_long scene w e) at s.before in
    let held = both_front bytes (to_before scene w) (flat_map held_bytes w.particles) _ (to_before_long scene w e) before s.held in
    let live = both_front bytes (to_held scene w) (flat_map live_bytes w.links) _ (to_held_long scene w e) held s.live in
    let totals = both_front bytes (to_live scene w) (first_totals_bytes w.contacts w.totals) _
    (to_live_long scene w e) live s.first_totals in
    let all = both_front bytes (to_first_totals scene w) (last_totals_bytes w.totals) _
    (to_first_totals_long scene w e) totals s.last_totals in
    let size = ap (λ (t : List ℕ). length t) (sym (state_parts scene w)) ∙ state_long scene w e ∙ sym long in
    state_parts scene w ∙ stands_whole bytes (to_first_totals scene w ++ last_totals_bytes w.totals) size all
