-- The fields of a state, one after the other, are the state.
use Rattle.std.proofs.Common.{◌≡◌, refl, sym, ap, ◌∙◌, ℕ, zero, suc, ◌+◌, ◌-◌, ◌*◌, ◌<◌, ◌≤◌, List, [], ◌∷◌, ◌++◌, length, take, drop}
use Rattle.std.proofs.Common.{get_or, append_assoc, append-nil, arith}
use Rattle.std.specs.Prelude.{nat_lt, if◌then◌else◌}
use Rattle.std.specs.List.{flat_map}
use Rattle.std.proofs.lemmas.Bool.{lt-ltb, le-ltb}
use Rattle.std.proofs.lemmas.List.{take_at, length-append}
use Rattle.std.proofs.lemmas.Slice.{drop-append-drop}
use Rattle.pbd_world.specs.declared.parts.Particle.{Particle}
use Rattle.pbd_world.specs.declared.parts.Link.{Link}
use Rattle.pbd_world.specs.Bonds.{link_at, no_link}
use Rattle.pbd_world.specs.Particles.{particle_at, no_particle}
use Rattle.pbd_world.specs.World.{World}
use Rattle.pbd_encoding.specs.Encoding.{head_bytes, at_bytes, before_bytes, held_bytes, live_bytes, first_totals_bytes, last_totals_bytes}
use Rattle.pbd_encoding.specs.Encoding.{state_bytes, state_size}
use Rattle.pbd_encoding.proofs.Sections.{to_at, to_before, to_held, to_live, to_first_totals, state_parts, state_long}
use Rattle.pbd_state.specs.Fields.{field_bytes, fields_bytes, fields_of}

-- ---- which field is which

pub is_head : (scene : List ℕ) (w : World) (k : ℕ) → k < 1 → field_bytes scene w k ≡ head_bytes scene w
unfolding field_bytes
is_head scene w k a = rw (lt-ltb k 1 a) refl

pub is_at : (scene : List ℕ) (w : World) (k : ℕ) → 1 ≤ k → k < length w.particles + 1
    → field_bytes scene w k ≡ at_bytes (particle_at w.particles (k - 1))
unfolding field_bytes
is_at scene w k a b = rw (le-ltb k 1 a, lt-ltb k (length w.particles + 1) b) refl

pub is_before : (scene : List ℕ) (w : World) (k : ℕ) → length w.particles + 1 ≤ k → k < 2 * length w.particles + 1
    → field_bytes scene w k ≡ before_bytes (particle_at w.particles (k - (length w.particles + 1)))
unfolding field_bytes
is_before scene w k a b =
    rw (le-ltb k 1 (omega (arith, a)), le-ltb k (length w.particles + 1) a, lt-ltb k (2 * length w.particles + 1) b) refl

pub is_held : (scene : List ℕ) (w : World) (k : ℕ) → 2 * length w.particles + 1 ≤ k → k < 3 * length w.particles + 1
    → field_bytes scene w k ≡ held_bytes (particle_at w.particles (k - (2 * length w.particles + 1)))
unfolding field_bytes
is_held scene w k a b =
    let n = length w.particles in
    rw (le-ltb k 1 (omega (arith, a)), le-ltb k (n + 1) (omega (arith, a)), le-ltb k (2 * n + 1) a, lt-ltb k (3 * n + 1) b) refl

pub is_live : (scene : List ℕ) (w : World) (k : ℕ) → 3 * length w.particles + 1 ≤ k → k < 3 * length w.particles + length w.links + 1
    → field_bytes scene w k ≡ live_bytes (link_at w.links (k - (3 * length w.particles + 1)))
unfolding field_bytes
is_live scene w k a b =
    let n = length w.particles in
    rw (
      le-ltb k 1 (omega (arith, a)),
      le-ltb k (n + 1) (omega (arith, a)),
      le-ltb k (2 * n + 1) (omega (arith, a)),
      le-ltb k (3 * n + 1) a,
      lt-ltb k (3 * n + length w.links + 1) b,
    ) refl

-- behind the lists
past_lists : (scene : List ℕ) (w : World) (k : ℕ) → 3 * length w.particles + length w.links + 1 ≤ k
    → field_bytes scene w k ≡ (if nat_lt k (3 * length w.particles + length w.links + 2) then first_totals_bytes w.contacts w.totals
    else last_totals_bytes w.totals)
unfolding field_bytes
past_lists scene w k a =
    let n = length w.particles in let m = length w.links in
    rw (
      le-ltb k 1 (omega (arith, a)),
      le-ltb k (n + 1) (omega (arith, a)),
      le-ltb k (2 * n + 1) (omega (arith, a)),
      le-ltb k (3 * n + 1) (omega (arith, a)),
      le-ltb k (3 * n + m + 1) a,
    ) refl

pub is_first_totals : (scene : List ℕ) (w : World) (k : ℕ) → 3 * length w.particles + length w.links + 1 ≤ k
    → k < 3 * length w.particles + length w.links + 2
    → field_bytes scene w k ≡ first_totals_bytes w.contacts w.totals
is_first_totals scene w k a b = past_lists scene w k a ∙ rw (lt-ltb k (3 * length w.particles + length w.links + 2) b) refl

pub is_last_totals : (scene : List ℕ) (w : World) (k : ℕ) → 3 * length w.particles + length w.links + 2 ≤ k
    → field_bytes scene w k ≡ last_totals_bytes w.totals
is_last_totals scene w k a = past_lists scene w k (omega (arith, a))
    ∙ rw (le-ltb k (3 * length w.particles + length w.links + 2) a) refl

-- ---- one field more

pub no_fields : (scene : List ℕ) (w : World) → fields_bytes scene w 0 ≡ []
unfolding fields_bytes
no_fields scene w = refl

pub one_more : (scene : List ℕ) (w : World) (k : ℕ) → fields_bytes scene w (k + 1) ≡ fields_bytes scene w k ++ field_bytes scene w k
unfolding fields_bytes
one_more scene w k = let e : k + 1 ≡ suc k = omega arith in rw e refl

-- the fields so far and the piece of the next one are the fields with it
pub piece_after : {piece : List ℕ} (scene : List ℕ) (w : World) (k : ℕ) → piece ≡ field_bytes scene w k
    → fields_bytes scene w k ++ piece ≡ fields_bytes scene w (k + 1)
piece_after scene w k is = ap (λ (t : List ℕ). fields_bytes scene w k ++ t) is ∙ sym (one_more scene w k)

-- fields that are the items of a list
column : {A : Type 0} (scene : List ℕ) (w : World) (f : A → List ℕ) (s : ℕ) (xs : List A) (d : A)
    → ((i : ℕ) → i < length xs → field_bytes scene w (s + i) ≡ f (get_or xs i d))
    → fields_bytes scene w (s + length xs) ≡ fields_bytes scene w s ++ flat_map f xs
column scene w f s [] d h =
    let e : s + 0 ≡ s = omega arith in
    ap (λ (k : ℕ). fields_bytes scene w k) e ∙ sym (append-nil (fields_bytes scene w s))
column scene w f s (x ∷ xs) d h =
    let e : s + suc (length xs) ≡ (s + 1) + length xs = omega arith in
    let here : s ≡ s + 0 = omega arith in
    let first : field_bytes scene w s ≡ f x = ap (λ (k : ℕ). field_bytes scene w k) here ∙ h 0 (omega arith) in
    let rest = column scene w f (s + 1) xs d (λ i lt.
    let next : (s + 1) + i ≡ s + suc i = omega arith in
    ap (λ (k : ℕ). field_bytes scene w k) next ∙ h (suc i) (omega (arith, lt))) in
    ap (λ (k : ℕ). fields_bytes scene w k) e ∙ rest
    ∙ ap (λ (t : List ℕ). t ++ flat_map f xs) (one_more scene w s ∙ ap (λ (t : List ℕ). fields_bytes scene w s ++ t) first)
    ∙ append_assoc (fields_bytes scene w s) (f x) (flat_map f xs)

-- ---- all fields

fields_to_at : (scene : List ℕ) (w : World) → fields_bytes scene w (1 + length w.particles) ≡ to_at scene w
fields_to_at scene w =
    let first : fields_bytes scene w 1 ≡ head_bytes scene w =
    one_more scene w 0 ∙ (λ i. no_fields scene w i ++ is_head scene w 0 (omega arith) i) in
    column {A = Particle} scene w at_bytes 1 w.particles no_particle (λ i lt.
    let back : (1 + i) - 1 ≡ i = omega arith in
    is_at scene w (1 + i) (omega arith) (omega (arith, lt)) ∙ ap (λ (j : ℕ). at_bytes (particle_at w.particles j)) back)
    ∙ ap (λ (t : List ℕ). t ++ flat_map at_bytes w.particles) first

fields_to_before : (scene : List ℕ) (w : World) → fields_bytes scene w (1 + length w.particles + length w.particles) ≡ to_before scene w
fields_to_before scene w =
    let n = length w.particles in
    column {A = Particle} scene w before_bytes (1 + n) w.particles no_particle (λ i lt.
    let back : (1 + n + i) - (n + 1) ≡ i = omega arith in
    is_before scene w (1 + n + i) (omega arith) (omega (arith, lt)) ∙ ap (λ (j : ℕ). before_bytes (particle_at w.particles j)) back)
    ∙ ap (λ (t : List ℕ). t ++ flat_map before_bytes w.particles) (fields_to_at scene w)

fields_to_held : (scene : List ℕ) (w : World) → fields_bytes scene w (1 + length w.particles + length w.particles + length w.particles)
    ≡ to_held scene w
fields_to_held scene w =
    let n = length w.particles in
    column {A = Particle} scene w held_bytes (1 + n + n) w.particles no_particle (λ i lt.
    let back : (1 + n + n + i) - (2 * n + 1) ≡ i = omega arith in
    is_held scene w (1 + n + n + i) (omega arith) (omega (arith, lt)) ∙ ap (λ (j : ℕ). held_bytes (particle_at w.particles j)) back)
    ∙ ap (λ (t : List ℕ). t ++ flat_map held_bytes w.particles) (fields_to_before scene w)

fields_to_live : (scene : List ℕ) (w : World)
    → fields_bytes scene w (1 + length w.particles + length w.particles + length w.particles + length w.links) ≡ to_live scene w
fields_to_live scene w =
    let n = length w.particles in
    column {A = Link} scene w live_bytes (1 + n + n + n) w.links no_link (λ i lt.
    let back : (1 + n + n + n + i) - (3 * n + 1) ≡ i = omega arith in
    is_live scene w (1 + n + n + n + i) (omega arith) (omega (arith, lt)) ∙ ap (λ (j : ℕ). live_bytes (link_at w.links j)) back)
    ∙ ap (λ (t : List ℕ). t ++ flat_map live_bytes w.links) (fields_to_held scene w)

pub all_fields : (scene : List ℕ) (w : World) → state_bytes scene w ≡ fields_bytes scene w (fields_of (length w.particles) (length w.links))
all_fields scene w =
    let n = length w.particles in
    let m = length w.links in
    let k = 1 + n + n + n + m in
    let first : fields_bytes scene w (k + 1) ≡ to_first_totals scene w =
    one_more scene w k ∙ (λ i. fields_to_live scene w i ++ is_first_totals scene w k (omega arith) (omega arith) i) in
    let last : fields_bytes scene w (k + 1 + 1) ≡ to_first_totals scene w ++ last_totals_bytes w.totals =
    one_more scene w (k + 1) ∙ (λ i. first i ++ is_last_totals scene w (k + 1) (omega arith) i) in
    let ends : k + 1 + 1 ≡ fields_of n m = omega arith in
    state_parts scene w ∙ sym last ∙ ap (λ (j : ℕ). fields_bytes scene w j) ends

more : (scene : List ℕ) (w : World) (k j : ℕ) → (rest : List ℕ) × (fields_bytes scene w (k + j) ≡ fields_bytes scene w k ++ rest)
more scene w k zero = let e : k + 0 ≡ k = omega arith in
    ([], ap (λ (i : ℕ). fields_bytes scene w i) e ∙ sym (append-nil (fields_bytes scene w k)))
more scene w k (suc j) =
    let p = more scene w k j in
    let e : k + suc j ≡ (k + j) + 1 = omega arith in
    let next = ap (λ (i : ℕ). fields_bytes scene w i) e ∙ one_more scene w (k + j)
    ∙ ap (λ (t : List ℕ). t ++ field_bytes scene w (k + j)) p.1 in
    (p.0 ++ field_bytes scene w (k + j), next ∙ append_assoc (fields_bytes scene w k) p.0 (field_bytes scene w (k + j)))

-- a field ends within the state
pub field_within : (scene : List ℕ) (w : World) (k : ℕ) → length scene ≡ 32 → k < fields_of (length w.particles) (length w.links)
    → length (fields_bytes scene w k) + length (field_bytes scene w k) ≤ state_size (length w.particles) (length w.links)
field_within scene w k e lt =
    let all = fields_of (length w.particles) (length w.links) in
    let p = more scene w (k + 1) (all - (k + 1)) in
    let ends : all ≡ (k + 1) + (all - (k + 1)) = omega (arith, lt) in
    let whole = ap (λ (t : List ℕ). length t) (all_fields scene w ∙ ap (λ (i : ℕ). fields_bytes scene w i) ends ∙ p.1) in
    let own = ap (λ (t : List ℕ). length t) (one_more scene w k) in
    omega (
      arith,
      whole,
      own,
      state_long scene w e,
      length-append (fields_bytes scene w (k + 1)) p.0,
      length-append (fields_bytes scene w k) (field_bytes scene w k),
    )

-- ---- pieces that are put into bytes

-- a piece put behind the fields so far
pub put_next : (done piece start into : List ℕ) (at : ℕ) → length done ≡ at → into ≡ done ++ drop at start
    → take at into ++ piece ++ drop (at + length piece) into ≡ (done ++ piece) ++ drop (at + length piece) start
put_next done piece start into at e is =
    let front : take at into ≡ done = ap (λ (t : List ℕ). take at t) is ∙ take_at done (drop at start) at e in
    let rest : drop (at + length piece) into ≡ drop (at + length piece) start =
    ap (λ (t : List ℕ). drop (at + length piece) t) is ∙ drop-append-drop at start done (at + length piece) (omega arith) e in
    λ i. front i ++ piece ++ rest i

-- all pieces that were put
pub all_put : (scene : List ℕ) (w : World) (k at size : ℕ) (into start : List ℕ) → length scene ≡ 32 → at ≡ length (fields_bytes scene w k)
    → into ≡ fields_bytes scene w k ++ drop at start → k ≡ fields_of (length w.particles) (length w.links)
    → size ≡ state_size (length w.particles) (length w.links)
    → into ≡ state_bytes scene w ++ drop size start
all_put scene w k at size into start e ea is ek es =
    let text : fields_bytes scene w k ≡ state_bytes scene w = ap (λ (i : ℕ). fields_bytes scene w i) ek ∙ sym (all_fields scene w) in
    let end : at ≡ size = ea ∙ ap (λ (t : List ℕ). length t) text ∙ state_long scene w e ∙ sym es in
    is ∙ (λ i. text i ++ drop (end i) start)
