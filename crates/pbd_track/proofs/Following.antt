-- Valid tracks, and how particles follow them one after another.
use Rattle.std.proofs.Common.{◌≡◌, refl, sym, ap, ◌∙◌, subst, ℕ, zero, suc, ◌+◌, ◌-◌, ◌<◌, ◌≤◌, ◌^◌, ◌==◌, nat_le, nat_lt, not, ◌||◌, Bool}
use Rattle.std.proofs.Common.{true, false, cond, List, [], ◌∷◌, length, take, drop, get_or, arith, ℤ, IsTrue, Option, Some, None, inl, inr}
use Rattle.std.specs.List.{list_all, list_any, All}
use Rattle.std.proofs.lemmas.Bool.{and_parts, leb-true, ltb-true, cases_eq, eq-eqb, ne_eqb, false≢true}
use Rattle.std.proofs.lemmas.Bool.Decides.{nat_tests}
use Rattle.std.proofs.lemmas.List.{at_drop_more, at_drop_all, drop_more, drop_all, take_all, length-drop, get_or-set_same, get_or-set_other}
use Rattle.std.proofs.lemmas.List.{length-set}
use Rattle.std.proofs.lemmas.List.Elements.{All-drop}
use Rattle.pbd_num.specs.declared.Vec3.{Vec3}
use Rattle.pbd_num.specs.Vectors.{Within, is_within}
use Rattle.pbd_num.proofs.Ranges.{within_facts}
use Rattle.pbd_world.specs.declared.parts.Key.{Key}
use Rattle.pbd_world.specs.declared.parts.Track.{Track}
use Rattle.pbd_world.specs.declared.parts.Particle.{Particle}
use Rattle.pbd_world.specs.Particles.{particle_at, no_particle, placed}
use Rattle.pbd_world.specs.Tracks.{place_between, place_after, place_at, track_of, held_place}
use Rattle.pbd_world.specs.Valid.{is_limit, none_twice, are_valid_keys, is_valid_track, are_valid_tracks}
use Rattle.pbd_track.specs.Tracking.{IsKey, IsTrack, attached_at, Attached}
use Rattle.pbd_world.proofs.WholeLemmas.{limit_low, limit_high}

-- ---- limits and keys

within_limit : (limit : ℤ) (v : Vec3) → IsTrue (is_limit limit) → IsTrue (is_within limit v) → Within (2 ^ 29) v
within_limit limit v l h =
    let size = limit_high limit l in
    let w = (within_facts limit v (limit_low limit l)).0 h in
    record { x = omega (arith, w.x, size); y = omega (arith, w.y, size); z = omega (arith, w.z, size) }

pub keys_are : (limit : ℤ) (keys : List Key) → IsTrue (is_limit limit) → IsTrue (are_valid_keys limit keys) → (k : ℕ) (d : Key)
    → k < length keys → IsKey (get_or keys k d)
keys_are limit [] l h k d lt = absurd (omega (arith, lt))
keys_are limit (key ∷ keys) l h zero d lt =
    let p = and_parts _ _ h in
    let q = and_parts _ _ p.0 in
    let r = and_parts _ _ q.0 in
    record { step = leb-true key.step 1000000 r.0; place = within_limit limit key.place l r.1 }
keys_are limit (key ∷ keys) l h (suc k) d lt = keys_are limit keys l (and_parts _ _ h).1 k d (omega (arith, lt))

pub track_keys : (track : Track) → IsTrack track → All IsKey track.keys
track_keys track h =
    let parts = and_parts _ _ h.valid in
    keys_are h.limit track.keys h.either parts.1

-- ---- places between keys

pub before_next : (from l : Key) (keys : List Key) (t : ℕ) → t < l.step → place_after from (l ∷ keys) t ≡ place_between from l t
before_next from l keys t k =
    let f : nat_lt t l.step ≡ true = grind (arith, nat_tests) in
    rw f refl

pub from_next : (from l : Key) (keys : List Key) (t : ℕ) → l.step ≤ t → place_after from (l ∷ keys) t ≡ place_after l keys t
from_next from l keys t k =
    let f : nat_lt t l.step ≡ false = grind (arith, nat_tests) in
    rw f refl

pub left_over : (from : Key) (later : List Key) (i t : ℕ) (d : Key) → i < length later
    → place_after from (drop i later) t ≡ place_after from (get_or later i d ∷ drop (i + 1) later) t
left_over from later i t d lt = at_drop_more (λ (keys : List Key). place_after from keys t) later i d lt

pub none_left : (from : Key) (later : List Key) (i t : ℕ) → length later ≤ i → place_after from (drop i later) t ≡ from.place
none_left from later i t le = at_drop_all (λ (keys : List Key). place_after from keys t) later i le

-- what a slice from the second item on holds
pub all_but_first : (keys : List Key) → take (length keys - 1) (drop 1 keys) ≡ drop 1 keys
all_but_first keys = take_all (length keys - 1) (drop 1 keys) (omega (arith, length-drop 1 keys))

pub later_keys : (keys : List Key) → ((k : ℕ) (d : Key) → k < length keys → IsKey (get_or keys k d)) → (k : ℕ) (d : Key)
    → k < length (take (length keys - 1) (drop 1 keys)) → IsKey (get_or (take (length keys - 1) (drop 1 keys)) k d)
later_keys keys h = rw (all_but_first keys) (All-drop IsKey 1 keys h)

pub up_to_first : (keys : List Key) (d : Key) (t : ℕ) → 0 < length keys → t ≤ (get_or keys 0 d).step
    → place_at keys t ≡ (get_or keys 0 d).place
unfolding place_at
up_to_first [] d t h le = absurd (omega (arith, h))
up_to_first (k ∷ keys) d t h le = let e : nat_le t k.step ≡ true = grind (arith, nat_tests) in rw e refl

pub after_first : (keys : List Key) (d : Key) (t : ℕ) → 0 < length keys → (get_or keys 0 d).step < t
    → place_at keys t ≡ place_after (get_or keys 0 d) (take (length keys - 1) (drop 1 keys)) t
unfolding place_at
after_first [] d t h lt = absurd (omega (arith, h))
after_first (k ∷ keys) d t h lt =
    let e : nat_le t k.step ≡ false = grind (arith, nat_tests) in
    rw e (ap (λ (later : List Key). place_after k later t) (sym (all_but_first (k ∷ keys))))

-- ---- one particle after another

abbrev pub same_particle : Track → Track → Bool
same_particle t u = t.particle == u.particle

-- the tracks that are left lead the particles as they are now to where all tracks lead them from the start
pub record Following (left all : List Track) (t : ℕ) (limit : ℤ) (old now : List Particle) : Type 0 where
  pub whole : length now ≡ length old
  pub valid : IsTrue (list_all (is_valid_track limit (length old)) left)
  pub apart : IsTrue (none_twice same_particle left)
  pub same : (i : ℕ) → i < length old → attached_at left t now i ≡ attached_at all t old i

pub following_none : (tracks : List Track) (t : ℕ) (limit : ℤ) (ps : List Particle) → IsTrue (are_valid_tracks limit (length ps) tracks)
    → Following tracks tracks t limit ps ps
following_none tracks t limit ps h =
    let parts = and_parts _ _ h in
    let valid = and_parts _ _ parts.0 in
    record { whole = refl; valid = valid.1; apart = parts.1; same = λ i lt. refl }

pub following_all : (tracks : List Track) (t : ℕ) (limit : ℤ) (old now : List Particle) → Following [] tracks t limit old now
    → Attached tracks t old now
following_all tracks t limit old now h = record { whole = h.whole; each = h.same }

clash : (a b : Bool) → a ≡ true → not (a || b) ≡ true → ⊥
clash true b e h = false≢true h
clash false b e h = false≢true e

past_or : (a b : Bool) → a ≡ false → not (a || b) ≡ true → not b ≡ true
past_or true b e h = absurd (false≢true (sym e))
past_or false b e h = h

-- no track of a list has the particle of a track that shares it with none of them
none_of : (x : Track) (left : List Track) → not (list_any (same_particle x) left) ≡ true → track_of left x.particle ≡ None
none_of x [] h = refl
none_of x (u ∷ us) h = elim (cases_eq u.particle x.particle) [
  | inl e ↦ absurd (clash (x.particle == u.particle) (list_any (same_particle x) us) (eq-eqb x.particle u.particle (sym e)) h)
  | inr n ↦ ap (λ (b : Bool). cond b (Some u) (track_of us x.particle)) (ne_eqb u.particle x.particle n)
      ∙ none_of x us (past_or (x.particle == u.particle) (list_any (same_particle x) us) (ne_eqb x.particle u.particle (λ e. n (sym e))) h)
]

pub next_valid : {x : Track} {left all : List Track} {t : ℕ} {limit : ℤ} {old now : List Particle}
    → Following (x ∷ left) all t limit old now → IsTrue (is_valid_track limit (length old) x)
next_valid h = (and_parts _ _ h.valid).0

pub next_within : (x : Track) (limit : ℤ) (n : ℕ) → IsTrue (is_valid_track limit n x) → x.particle < n
next_within x limit n h = ltb-true x.particle n ((and_parts _ _ (and_parts _ _ (and_parts _ _ h).0).0).0)

abbrev follow : Option Track → ℕ → Particle → Particle
follow o t p = record p { at = held_place o t p.at }

at_own : (x : Track) (left : List Track) (t : ℕ) (now : List Particle) → x.particle < length now → track_of left x.particle ≡ None
    → attached_at left t (placed now x.particle (place_at x.keys t)) x.particle ≡ attached_at (x ∷ left) t now x.particle
at_own x left t now lt none =
    let j = x.particle in
    let p = particle_at now j in
    let q : Particle = record p { at = place_at x.keys t } in
    ap (λ (r : Particle). follow (track_of left j) t r) (get_or-set_same now j q no_particle lt)
    ∙ ap (λ (o : Option Track). follow o t q) none
    ∙ sym (ap (λ (b : Bool). follow (cond b (Some x) (track_of left j)) t p) (eq-eqb j j refl))

at_other : (x : Track) (left : List Track) (t : ℕ) (now : List Particle) (i : ℕ) → (x.particle ≡ i → ⊥)
    → attached_at left t (placed now x.particle (place_at x.keys t)) i ≡ attached_at (x ∷ left) t now i
at_other x left t now i n =
    ap (λ (r : Particle). follow (track_of left i) t r) (get_or-set_other now x.particle i
    (record (particle_at now x.particle) { at = place_at x.keys t }) no_particle (λ e. n (sym e)))
    ∙ sym (ap (λ (b : Bool). follow (cond b (Some x) (track_of left i)) t (particle_at now i)) (ne_eqb x.particle i n))

pub following_more : {x : Track} {left all : List Track} {t : ℕ} {limit : ℤ} {old now : List Particle}
    → Following (x ∷ left) all t limit old now → Following left all t limit old (placed now x.particle (place_at x.keys t))
following_more {x} {left} {t} {limit} {old} {now} h =
    let within : x.particle < length old = next_within x limit (length old) (next_valid h) in
    let apart = and_parts _ _ h.apart in
    let now_as : (i : ℕ) → attached_at left t (placed now x.particle (place_at x.keys t)) i ≡ attached_at (x ∷ left) t now i =
    λ i. elim (cases_eq x.particle i) [
      | inl e ↦ subst (λ (m : ℕ). attached_at left t (placed now x.particle (place_at x.keys t)) m ≡ attached_at (x ∷ left) t now m) e
          (at_own x left t now (omega (arith, within, h.whole)) (none_of x left apart.0))
      | inr n ↦ at_other x left t now i n
    ] in
    record {
      whole = length-set now x.particle (record (particle_at now x.particle) { at = place_at x.keys t }) ∙ h.whole;
      valid = (and_parts _ _ h.valid).1;
      apart = apart.1;
      same = λ i lt. now_as i ∙ h.same i lt;
    }

pub following_next : (tracks : List Track) (i : ℕ) (x : Track) (t : ℕ) (limit : ℤ) (old now : List Particle) → i < length tracks
    → x ≡ get_or tracks i x → Following (drop i tracks) tracks t limit old now → Following (x ∷ drop (i + 1) tracks) tracks t limit old now
following_next tracks i x t limit old now lt e h = subst (λ (ts : List Track). Following ts tracks t limit old now)
    (drop_more tracks i x lt ∙ ap (λ (u : Track). u ∷ drop (i + 1) tracks) (sym e)) h

pub following_end : (tracks : List Track) (i t : ℕ) (limit : ℤ) (old now : List Particle) → length tracks ≤ i
    → Following (drop i tracks) tracks t limit old now → Attached tracks t old now
following_end tracks i t limit old now le h = following_all tracks t limit old now
    (subst (λ (ts : List Track). Following ts tracks t limit old now) (drop_all i tracks le) h)
