-- Bytes that have the form of a state are the state of the world that they tell.
use Rattle.std.proofs.Common.{◌≡◌, refl, sym, ap, ◌∙◌, ℕ, ◌+◌, ◌*◌, ◌<◌, ◌≤◌, ◌==◌, Bool, true, false, not, List, ◌++◌, length, take, drop}
use Rattle.std.proofs.Common.{min, arith, Option, Some, None, Ok, Err, if◌then◌else◌}
use Rattle.std.specs.Prelude.{nat_lt, slice_index}
use Rattle.std.proofs.lemmas.Bool.{lt-ltb, le-ltb, le-leb, eqb-true, ltb-false, not-false}
use Rattle.std.proofs.lemmas.List.{ext_get_or, get_or-take, take_all, length-take, take-append-drop}
use Rattle.pbd_world.specs.declared.parts.Particle.{Particle}
use Rattle.pbd_world.specs.declared.parts.Link.{Link}
use Rattle.pbd_world.specs.Bonds.{link_at, no_link}
use Rattle.pbd_world.specs.Particles.{particle_at, no_particle}
use Rattle.pbd_world.specs.World.{World}
use Rattle.pbd_sound.specs.Described.{particle_told, link_told}
use Rattle.pbd_sound.specs.Soundness.{first_where}
use Rattle.pbd_sound.proofs.Where.{none_first}
use Rattle.pbd_sound.proofs.Telling.{numbered_length, numbered_at}
use Rattle.pbd_log.specs.Entries.{number_bytes, vector_bytes}
use Rattle.pbd_log.specs.Laws.{IsBytes}
use Rattle.pbd_encoding.specs.Encoding.{sum_bytes, header_bytes, header_of, head_bytes, at_bytes, before_bytes, held_bytes, live_bytes}
use Rattle.pbd_encoding.specs.Encoding.{flag_bytes, first_totals_bytes, last_totals_bytes, state_bytes, state_size}
use Rattle.pbd_encoding.specs.Described.{number_from, vector_from, sum_from, contacts_at, told_by}
use Rattle.pbd_encoding.specs.Form.{Formed, fault_at, is_foreign, form_of, form_checked}
use Rattle.pbd_encoding.specs.Laws.{form_on, told_on}
use Rattle.pbd_encoding.proofs.Lengths.{two_long, sum_long, flag_long, header_long}
use Rattle.pbd_encoding.proofs.Standing.{Stands, both_stand, both_front, stands_as, all_stand}
use Rattle.pbd_encoding.proofs.Reading.{number_stands, vector_stands, sum_stands, flag_stands}
use Rattle.pbd_encoding.proofs.Sections.{from_sections}
use Rattle.pbd_log.proofs.Fields.{length-number, length-vector}

-- ---- the form of bytes

pub record HasForm (header : List ℕ) (n m : ℕ) (bytes : List ℕ) : Type 0 where
  pub long : length bytes ≡ state_size n m
  pub each : (k : ℕ) → k < length bytes → is_foreign header n m k (slice_index bytes k) ≡ false

abbrev sized : ℕ → ℕ → Bool → Formed
sized len size b = if b then Ok tt else Err (fault_at (min len size))

sized_so : (len size : ℕ) (b : Bool) → (len == size) ≡ b → sized len size b ≡ Ok (tt {0}) → len ≡ size
sized_so len size true e h = eqb-true len size e
sized_so len size false e h = cc

form_by : (len size : ℕ) (o : Option ℕ) → form_of len size o ≡ Ok (tt {0}) → (o ≡ None) × (len ≡ size)
form_by len size (Some k) h = cc
form_by len size None h = (refl, sized_so len size (len == size) refl h)

pub has_form : (header : List ℕ) (n m : ℕ) (bytes : List ℕ) → form_checked header n m bytes ≡ Ok tt → HasForm header n m bytes
unfolding form_checked
has_form header n m bytes h =
    let o = first_where 0 (is_foreign header n m) (take (state_size n m) bytes) in
    let p : (o ≡ None) × (length bytes ≡ state_size n m) = form_by (length bytes) (state_size n m) o h in
    let all : take (state_size n m) bytes ≡ bytes = take_all (state_size n m) bytes (omega (arith, p.1)) in
    let none = ap (λ (t : List ℕ). first_where 0 (is_foreign header n m) t) (sym all) ∙ p.0 in
    record { long = p.1; each = λ k lt. none_first (is_foreign header n m) bytes k 0 none lt }

-- a flag stands where one has to
flag_there : (header : List ℕ) (n m : ℕ) (bytes : List ℕ) (k : ℕ) → HasForm header n m bytes → 128 + 48 * n ≤ k → k < contacts_at n m
    → Stands bytes k (flag_bytes (slice_index bytes k == 1))
flag_there header n m bytes k form low high =
    let within : k < length bytes = omega (arith, form.long, high) in
    let far : nat_lt k 96 ≡ false = le-ltb k 96 (omega (arith, low)) in
    let is : is_foreign header n m k (slice_index bytes k) ≡ nat_lt 1 (slice_index bytes k) =
    rw (far, le-leb (128 + 48 * n) k low, lt-ltb k (contacts_at n m) high) refl in
    flag_stands bytes k within (ltb-false 1 (slice_index bytes k) (sym is ∙ form.each k within))

same_byte : (a b : ℕ) → not (a == b) ≡ false → a ≡ b
same_byte a b h = eqb-true a b (not-false (a == b) h)

header_stands : (header : List ℕ) (n m : ℕ) (bytes : List ℕ) → length header ≡ 96 → HasForm header n m bytes → Stands bytes 0 header
header_stands header n m bytes e form =
    let ends : 96 ≡ 0 + length header = omega (arith, e) in
    let short : length (take 96 bytes) ≡ 96 = omega (arith, length-take 96 bytes, form.long) in
    let same : take 96 bytes ≡ header = ext_get_or 0 (take 96 bytes) header (short ∙ sym e) (λ i lt.
    let near : i < 96 = omega (arith, lt, short) in
    let within : i < length bytes = omega (arith, near, form.long) in
    let is : is_foreign header n m i (slice_index bytes i)
    ≡ not (slice_index bytes i == slice_index header i) = rw (lt-ltb i 96 near) refl in
    get_or-take 96 bytes i 0 near ∙ same_byte _ _ (sym is ∙ form.each i within)) in
    sym (take-append-drop 96 bytes) ∙ ap (λ (t : List ℕ). t ++ drop 96 bytes) same ∙ ap (λ (k : ℕ). header ++ drop k bytes) ends

-- ---- the parts of what is told

told_particles : (bytes : List ℕ) (w : World) → length (told_on w bytes).particles ≡ length w.particles
told_particles bytes w = numbered_length (particle_told (told_by bytes (length w.particles) (length w.links))) 0 w.particles

told_links : (bytes : List ℕ) (w : World) → length (told_on w bytes).links ≡ length w.links
told_links bytes w = numbered_length (link_told (told_by bytes (length w.particles) (length w.links))) 0 w.links

particle_seen : (bytes : List ℕ) (w : World) (i : ℕ) → i < length w.particles
    → particle_at (told_on w bytes).particles i ≡ particle_told (told_by bytes (length w.particles) (length w.links)) i
    (particle_at w.particles i)
particle_seen bytes w i lt = numbered_at (particle_told (told_by bytes (length w.particles) (length w.links))) w.particles i no_particle lt

link_seen : (bytes : List ℕ) (w : World) (l : ℕ) → l < length w.links
    → link_at (told_on w bytes).links l ≡ link_told (told_by bytes (length w.particles) (length w.links)) l (link_at w.links l)
link_seen bytes w l lt = numbered_at (link_told (told_by bytes (length w.particles) (length w.links))) w.links l no_link lt

head_stands : (scene bytes : List ℕ) (w : World) → length scene ≡ 32 → IsBytes bytes
    → HasForm (header_of scene w) (length w.particles) (length w.links) bytes → Stands bytes 0 (head_bytes scene (told_on w bytes))
unfolding head_bytes
head_stands scene bytes w e fits form =
    let n = length w.particles in
    let m = length w.links in
    let header = header_of scene w in
    let steps = number_bytes 8 (number_from 8 bytes 96) in
    let gravity = vector_bytes (vector_from bytes 104) in
    let same : header_of scene (told_on w bytes) ≡ header = λ i.
    header_bytes scene (told_particles bytes w i) (told_links bytes w i) w.opening in
    let long : length header ≡ 96 = header_long scene n m w.opening e in
    let first = both_front bytes header steps 96 long (header_stands header n m bytes long form)
    (number_stands 8 bytes 96 fits (omega (arith, form.long))) in
    let longer = two_long header steps 96 8 long (length-number 8 _) in
    let all = both_front bytes (header ++ steps) gravity 104 longer first (vector_stands bytes 104 fits (omega (arith, form.long))) in
    stands_as bytes 0 0 (header ++ steps ++ gravity) _ refl (ap (λ (t : List ℕ). t ++ steps ++ gravity) (sym same)) all

sum_there : (bytes : List ℕ) (s t : ℕ) → s ≡ t → IsBytes bytes → t + 48 ≤ length bytes → Stands bytes s (sum_bytes (sum_from bytes t))
sum_there bytes s t e fits long = stands_as bytes t s _ _ (sym e) refl (sum_stands bytes t fits long)

first_totals_stand : (bytes : List ℕ) (w : World) → IsBytes bytes → length bytes ≡ state_size (length w.particles) (length w.links)
    → Stands bytes (contacts_at (length w.particles) (length w.links))
    (first_totals_bytes (told_on w bytes).contacts (told_on w bytes).totals)
unfolding first_totals_bytes
first_totals_stand bytes w fits long =
    let c = contacts_at (length w.particles) (length w.links) in
    let a = number_bytes 4 (number_from 4 bytes c) in
    let g = sum_bytes (sum_from bytes (c + 4)) in
    let d = sum_bytes (sum_from bytes (c + 4 + 48)) in
    let ag : length (a ++ g) ≡ 52 = two_long a g 4 48 (length-number 4 _) (sum_long _) in
    let agd : length (a ++ g ++ d) ≡ 100 = two_long (a ++ g) d 52 48 ag (sum_long _) in
    let contacts = number_stands 4 bytes c fits (omega (arith, long)) in
    let gravity = sum_there bytes (c + 4) (c + 4) refl fits (omega (arith, long)) in
    let damping = sum_there bytes (c + 52) (c + 4 + 48) (omega arith) fits (omega (arith, long)) in
    let link = sum_there bytes (c + 100) (c + 4 + 96) (omega arith) fits (omega (arith, long)) in
    both_stand bytes c (a ++ g ++ d) _ 100 agd
    (both_stand bytes c (a ++ g) d 52 ag (both_stand bytes c a g 4 (length-number 4 _) contacts gravity) damping) link

last_totals_stand : (bytes : List ℕ) (w : World) → IsBytes bytes → length bytes ≡ state_size (length w.particles) (length w.links)
    → Stands bytes (contacts_at (length w.particles) (length w.links) + 148) (last_totals_bytes (told_on w bytes).totals)
unfolding last_totals_bytes
last_totals_stand bytes w fits long =
    let c = contacts_at (length w.particles) (length w.links) in
    let a = sum_bytes (sum_from bytes (c + 4 + 144)) in
    let b = sum_bytes (sum_from bytes (c + 4 + 192)) in
    let contact = sum_there bytes (c + 148) (c + 4 + 144) (omega arith) fits (omega (arith, long)) in
    let shape = sum_there bytes (c + 148 + 48) (c + 4 + 192) (omega arith) fits (omega (arith, long)) in
    let pin = sum_there bytes (c + 148 + 96) (c + 4 + 240) (omega arith) fits (omega (arith, long)) in
    both_stand bytes (c + 148) (a ++ b) _ 96 (two_long a b 48 48 (sum_long _) (sum_long _))
    (both_stand bytes (c + 148) a b 48 (sum_long _) contact shape) pin

-- ---- all of it

pub formed_state : (scene bytes : List ℕ) (w : World) → length scene ≡ 32 → IsBytes bytes
    → HasForm (header_of scene w) (length w.particles) (length w.links) bytes
    → state_bytes scene (told_on w bytes) ≡ bytes
formed_state scene bytes w e fits form =
    let n = length w.particles in
    let m = length w.links in
    let header = header_of scene w in
    let v = told_on w bytes in
    let en : length v.particles ≡ n = told_particles bytes w in
    let em : length v.links ≡ m = told_links bytes w in
    let ec : contacts_at n m ≡ contacts_at (length v.particles) (length v.links) = omega (arith, en, em) in
    let at = all_stand {A = Particle} bytes at_bytes 24 128 v.particles no_particle (λ p. length-vector p.at) (λ i lt.
    let within : i < n = omega (arith, lt, en) in
    stands_as bytes (128 + 24 * i) (128 + i * 24) (vector_bytes (vector_from bytes (128 + 24 * i))) _ (omega arith)
    (ap (λ (p : Particle). vector_bytes p.at) (sym (particle_seen bytes w i within)))
    (vector_stands bytes (128 + 24 * i) fits (omega (arith, within, form.long)))) in
    let before = all_stand {A = Particle} bytes before_bytes 24 (128 + 24 * length v.particles) v.particles no_particle
    (λ p. length-vector p.before) (λ i lt.
    let within : i < n = omega (arith, lt, en) in
    let s = 128 + 24 * n + 24 * i in
    stands_as bytes s (128 + 24 * length v.particles + i * 24) (vector_bytes (vector_from bytes s)) _ (omega (arith, en))
    (ap (λ (p : Particle). vector_bytes p.before) (sym (particle_seen bytes w i within)))
    (vector_stands bytes s fits (omega (arith, within, form.long)))) in
    let held = all_stand {A = Particle} bytes held_bytes 1 (128 + 48 * length v.particles) v.particles no_particle (λ p. flag_long p.held)
    (λ i lt.
    let within : i < n = omega (arith, lt, en) in
    let s = 128 + 48 * n + i in
    stands_as bytes s (128 + 48 * length v.particles + i * 1) (flag_bytes (slice_index bytes s == 1)) _ (omega (arith, en))
    (ap (λ (p : Particle). flag_bytes p.held) (sym (particle_seen bytes w i within)))
    (flag_there header n m bytes s form (omega arith) (omega (arith, within)))) in
    let live = all_stand {A = Link} bytes live_bytes 1 (128 + 49 * length v.particles) v.links no_link (λ l. flag_long l.live) (λ l lt.
    let within : l < m = omega (arith, lt, em) in
    let s = 128 + 49 * n + l in
    stands_as bytes s (128 + 49 * length v.particles + l * 1) (flag_bytes (slice_index bytes s == 1)) _ (omega (arith, en))
    (ap (λ (x : Link). flag_bytes x.live) (sym (link_seen bytes w l within)))
    (flag_there header n m bytes s form (omega arith) (omega (arith, within)))) in
    from_sections bytes scene v e (omega (arith, form.long, en, em)) (record {
      head = head_stands scene bytes w e fits form;
      at = at;
      before = before;
      held = held;
      live = live;
      first_totals = stands_as bytes (contacts_at n m) _ _ _ ec refl (first_totals_stand bytes w fits form.long);
      last_totals = stands_as bytes (contacts_at n m + 148) _ _ _ (omega (arith, en, em)) refl (last_totals_stand bytes w fits form.long);
    })

pub told_state : (scene bytes : List ℕ) (w : World) → length scene ≡ 32 → IsBytes bytes → form_on scene w bytes ≡ Ok tt
    → state_bytes scene (told_on w bytes) ≡ bytes
told_state scene bytes w e fits h = formed_state scene bytes w e fits
    (has_form (header_of scene w) (length w.particles) (length w.links) bytes h)
