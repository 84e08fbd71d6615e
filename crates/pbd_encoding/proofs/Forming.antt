-- The state of a world has the form of a state of its scene, and what hasn't goes on as no state does.
use Rattle.std.proofs.Common.{◌≡◌, refl, sym, ap, ◌∙◌, subst, ℕ, suc, ◌+◌, ◌-◌, ◌*◌, ◌<◌, ◌≤◌, ◌==◌, Bool, true, false, not, ◌&&◌, cond}
use Rattle.std.proofs.Common.{List, [], ◌∷◌, ◌++◌, length, min, take, arith, inl, inr, Option, Some, None, Ok, Err, if◌then◌else◌}
use Rattle.std.specs.Prelude.{nat_le, nat_lt, slice_index, ◌⊎◌}
use Rattle.std.proofs.lemmas.Bool.{cases_lt, lt-ltb, le-ltb, eq-eqb, leb-true, ltb-true}
use Rattle.std.proofs.lemmas.List.{get_or-take, get_or_append_left, length-take, take_all}
use Rattle.pbd_world.specs.Bonds.{link_at}
use Rattle.pbd_world.specs.Particles.{particle_at}
use Rattle.pbd_world.specs.World.{World, AreOfOneScene}
use Rattle.pbd_sound.specs.Soundness.{first_where}
use Rattle.pbd_sound.proofs.Where.{none_cons}
use Rattle.pbd_log.specs.Entries.{number_bytes, vector_bytes}
use Rattle.pbd_encoding.specs.declared.form.StateFault.{StateFault}
use Rattle.pbd_encoding.specs.Encoding.{header_bytes, header_of, head_bytes, state_bytes, state_size}
use Rattle.pbd_encoding.specs.Described.{contacts_at}
use Rattle.pbd_encoding.specs.Form.{Formed, fault_at, is_foreign, form_of, form_checked}
use Rattle.pbd_encoding.specs.Laws.{NumbersFit, form_on, IsToldBack}
use Rattle.pbd_encoding.proofs.Lengths.{header_long}
use Rattle.pbd_encoding.proofs.Standing.{Stands, first_stands}
use Rattle.pbd_encoding.proofs.Reading.{flag_small}
use Rattle.pbd_encoding.proofs.Sections.{Sections, sections, state_long}
use Rattle.pbd_encoding.proofs.Back.{held_there, live_there, told_back}
use Rattle.pbd_world.proofs.SameShape.{scene_particles, scene_links}

none_from : (n : ℕ) (test : ℕ → ℕ → Bool) (xs : List ℕ) → ((i : ℕ) → i < length xs → test (n + i) (slice_index xs i) ≡ false)
    → first_where n test xs ≡ None
none_from n test [] h = refl
none_from n test (x ∷ xs) h =
    let here : n + 0 ≡ n = omega arith in
    none_cons n test x xs (sym (ap (λ (k : ℕ). test k x) here) ∙ h 0 (omega arith))
    (none_from (n + 1) test xs (λ i lt.
    let next : n + suc i ≡ (n + 1) + i = omega arith in
    sym (ap (λ (k : ℕ). test k (slice_index xs i)) next) ∙ h (suc i) (omega (arith, lt))))

-- ---- no byte of a state is foreign

header_there : (scene : List ℕ) (v : World) → length scene ≡ 32 → Stands (state_bytes scene v) 0 (header_of scene v)
unfolding head_bytes
header_there scene v e =
    let bytes = state_bytes scene v in
    let header = header_of scene v in
    let steps = number_bytes 8 v.steps in
    first_stands bytes 0 header steps (first_stands bytes 0 (header ++ steps) (vector_bytes v.gravity) (sections scene v e).head)

flag_told : (scene : List ℕ) (v : World) (k : ℕ) → length scene ≡ 32 → 128 + 48 * length v.particles ≤ k
    → k < contacts_at (length v.particles) (length v.links)
    → nat_lt 1 (slice_index (state_bytes scene v) k) ≡ false
flag_told scene v k e low high =
    let n = length v.particles in
    let bytes = state_bytes scene v in
    let s : Sections bytes scene v = sections scene v e in
    elim (cases_lt k (128 + 49 * n)) [
      | inl a ↦
          let i = k - (128 + 48 * n) in
          let is : 128 + 48 * n + i ≡ k = omega (arith, low) in
          let there = held_there scene bytes v i s (omega (arith, low, a)) in
          ap (λ (j : ℕ). nat_lt 1 (slice_index bytes j)) (sym is)
          ∙ flag_small bytes (128 + 48 * n + i) (particle_at v.particles i).held there
      | inr a ↦
          let l = k - (128 + 49 * n) in
          let is : 128 + 49 * n + l ≡ k = omega (arith, a) in
          let there = live_there scene bytes v l s (omega (arith, a, high)) in
          ap (λ (j : ℕ). nat_lt 1 (slice_index bytes j)) (sym is) ∙ flag_small bytes (128 + 49 * n + l) (link_at v.links l).live there
    ]

none_of_three : (a b c : Bool) → (a ≡ true → b ≡ true → c ≡ false) → (a && b && c) ≡ false
none_of_three true true c h = h refl refl
none_of_three true false c h = refl
none_of_three false b c h = refl

pub own_native : (scene : List ℕ) (v : World) (k : ℕ) → length scene ≡ 32 → k < length (state_bytes scene v)
    → is_foreign (header_of scene v) (length v.particles) (length v.links) k (slice_index (state_bytes scene v) k) ≡ false
own_native scene v k e lt =
    let n = length v.particles in
    let bytes = state_bytes scene v in
    let header = header_of scene v in
    let c = contacts_at n (length v.links) in
    elim (cases_lt k 96) [
      | inl near ↦
          let long : length header ≡ 96 = header_long scene n (length v.links) v.opening e in
          let byte : slice_index bytes k ≡ slice_index header k =
          ap (λ (t : List ℕ). slice_index t k) (header_there scene v e) ∙ get_or_append_left header _ 0 k (omega (arith, near, long)) in
          let same : not (slice_index bytes k == slice_index header k)
          ≡ false = ap not (eq-eqb (slice_index bytes k) (slice_index header k) byte) in
          rw (lt-ltb k 96 near) same
      | inr far ↦
          let inner = none_of_three (nat_le (128 + 48 * n) k) (nat_lt k c) (nat_lt 1 (slice_index bytes k))
          (λ a b. flag_told scene v k e (leb-true (128 + 48 * n) k a) (ltb-true k c b)) in
          rw (le-ltb k 96 far) inner
    ]

-- ---- the form of a scene

-- the form of a state is the same for all worlds of a scene
same_form : (scene bytes : List ℕ) (w v : World) → AreOfOneScene w v → form_on scene w bytes ≡ form_on scene v bytes
same_form scene bytes w v same =
    let en = scene_particles w v same in
    let em = scene_links w v same in
    λ i. form_checked (header_bytes scene (en i) (em i) (ap (λ (u : World). u.opening) same i)) (en i) (em i) bytes

pub form_is : (header bytes : List ℕ) (n m : ℕ)
    → form_checked header n m bytes ≡ form_of (length bytes) (state_size n m)
    (first_where 0 (is_foreign header n m) (take (state_size n m) bytes))
unfolding form_checked
form_is header bytes n m = refl

pub own_form : (scene : List ℕ) (w v : World) → length scene ≡ 32 → AreOfOneScene w v → form_on scene w (state_bytes scene v) ≡ Ok tt
own_form scene w v e same =
    let n = length v.particles in
    let m = length v.links in
    let bytes = state_bytes scene v in
    let test = is_foreign (header_of scene v) n m in
    let long : length bytes ≡ state_size n m = state_long scene v e in
    let all : take (state_size n m) bytes ≡ bytes = take_all (state_size n m) bytes (omega (arith, long)) in
    let none : first_where 0 test bytes ≡ None = none_from 0 test bytes (λ i lt.
    let from : 0 + i ≡ i = omega arith in ap (λ (k : ℕ). test k (slice_index bytes i)) from ∙ own_native scene v i e lt) in
    same_form scene bytes w v same
    ∙ form_is (header_of scene v) bytes n m
    ∙ ap (λ (t : List ℕ). form_of (length bytes) (state_size n m) (first_where 0 test t)) all
    ∙ ap (λ (o : Option ℕ). form_of (length bytes) (state_size n m) o) none
    ∙ ap (λ (b : Bool). if b then Ok tt else Err (fault_at (min (length bytes) (state_size n m))))
    (eq-eqb (length bytes) (state_size n m) long)

-- ---- what is refused

pub record IsFirst (n : ℕ) (test : ℕ → ℕ → Bool) (xs : List ℕ) (k : ℕ) : Type 0 where
  pub low : n ≤ k
  pub within : k < n + length xs
  pub holds : test k (slice_index xs (k - n)) ≡ true

later_first : (n : ℕ) (test : ℕ → ℕ → Bool) (x : ℕ) (xs : List ℕ) (k : ℕ) → IsFirst (n + 1) test xs k → IsFirst n test (x ∷ xs) k
later_first n test x xs k f =
    let up : k - n ≡ suc (k - (n + 1)) = omega (arith, f.low) in
    record {
      low = omega (arith, f.low);
      within = omega (arith, f.within);
      holds = ap (λ (i : ℕ). test k (slice_index (x ∷ xs) i)) up ∙ f.holds;
    }

here_first : (n : ℕ) (test : ℕ → ℕ → Bool) (x : ℕ) (xs : List ℕ) → test n x ≡ true → IsFirst n test (x ∷ xs) n
here_first n test x xs h =
    let here : n - n ≡ 0 = omega arith in
    record { low = omega arith; within = omega arith; holds = ap (λ (i : ℕ). test n (slice_index (x ∷ xs) i)) here ∙ h }

both_values : (b : Bool) → b ≡ true → b ≡ false → ⊥
both_values true h k = cc
both_values false h k = cc

pub some_is : (a b : ℕ) → (let some : ℕ → Option ℕ = λ n. Some n in some a ≡ some b) → a ≡ b
some_is a b h = cc

first_by : (n : ℕ) (test : ℕ → ℕ → Bool) (x : ℕ) (xs : List ℕ) (k : ℕ) → (first_where (n + 1) test xs ≡ Some k → IsFirst (n + 1) test xs k)
    → (b : Bool) → test n x ≡ b → cond b (Some n) (first_where (n + 1) test xs) ≡ Some k → IsFirst n test (x ∷ xs) k
first_by n test x xs k later true is h =
    let e : n ≡ k = some_is n k h in
    subst (λ (j : ℕ). IsFirst n test (x ∷ xs) j) e (here_first n test x xs is)
first_by n test x xs k later false is h = later_first n test x xs k (later h)

pub first_is : (n : ℕ) (test : ℕ → ℕ → Bool) (xs : List ℕ) (k : ℕ) → first_where n test xs ≡ Some k → IsFirst n test xs k
first_is n test [] k h = cc
first_is n test (x ∷ xs) k h = first_by n test x xs k (λ rest. first_is (n + 1) test xs k rest) (test n x) refl h

fault_is : (a b : StateFault) → (let err : StateFault → Formed = λ f. Err f in err a ≡ err b) → a ≡ b
fault_is a b h = cc

-- the length of bytes in which no byte is foreign is another
pub record IsOtherSize (len size : ℕ) (o : Option ℕ) (offset : ℕ) : Type 0 where
  pub none : o ≡ None
  pub apart : len ≡ size → ⊥
  pub least : min len size ≡ offset

-- a byte that can't stand there, or another length
abbrev pub Refused : ℕ → ℕ → Option ℕ → ℕ → Type 0
Refused len size o offset = (o ≡ Some offset) ⊎ IsOtherSize len size o offset

not_same : (len size : ℕ) → (len == size) ≡ false → len ≡ size → ⊥
not_same len size is e = both_values (len == size) (eq-eqb len size e) is

refused_size : (len size : ℕ) (fault : StateFault) (b : Bool) → (len == size) ≡ b
    → (let formed : Formed = if b then Ok tt else Err (fault_at (min len size)) in formed ≡ Err fault)
    → IsOtherSize len size None fault.offset
refused_size len size fault true is h = cc
refused_size len size fault false is h =
    record {
      none = refl;
      apart = not_same len size is;
      least =
          ap (λ (f : StateFault). f.offset) (fault_is (fault_at (min len size)) fault h);
    }

pub refused_so : (len size : ℕ) (fault : StateFault) (o : Option ℕ) → form_of len size o ≡ Err fault → Refused len size o fault.offset
refused_so len size fault (Some k) h = inl (ap (λ (f : StateFault). Some f.offset) (fault_is (fault_at k) fault h))
refused_so len size fault None h = inr (refused_size len size fault (len == size) refl h)

own_refused : (scene bytes : List ℕ) (v : World) (fault : StateFault) → length scene ≡ 32 → form_on scene v bytes ≡ Err fault
    → take (fault.offset + 1) bytes ≡ take (fault.offset + 1) (state_bytes scene v) → ⊥
own_refused scene bytes v fault e h goes =
    let offset = fault.offset in
    let n = length v.particles in
    let m = length v.links in
    let size = state_size n m in
    let state = state_bytes scene v in
    let test = is_foreign (header_of scene v) n m in
    let long : length state ≡ size = state_long scene v e in
    elim (refused_so (length bytes) size fault (first_where 0 test (take size bytes)) (sym (form_is (header_of scene v) bytes n m) ∙ h)) [
      | inl first ↦
          let f = first_is 0 test (take size bytes) offset first in
          let within : offset < size = omega (arith, f.within, length-take size bytes) in
          let none : offset - 0 ≡ offset = omega arith in
          let byte : slice_index bytes offset ≡ slice_index state offset =
          sym (get_or-take (offset + 1) bytes offset 0 (omega arith)) ∙ ap (λ (t : List ℕ). slice_index t offset) goes
          ∙ get_or-take (offset + 1) state offset 0 (omega arith) in
          let there : test offset (slice_index (take size bytes) (offset - 0)) ≡ test offset (slice_index state offset) =
          ap (λ (i : ℕ). test offset (slice_index (take size bytes) i)) none
          ∙ ap (λ (b : ℕ). test offset b) (get_or-take size bytes offset 0 within ∙ byte) in
          both_values (test offset (slice_index state offset)) (sym there ∙ f.holds)
          (own_native scene v offset e (omega (arith, within, long)))
      | inr apart ↦
          let same = ap (λ (t : List ℕ). length t) goes in
          apart.apart (omega (arith, same, length-take (offset + 1) bytes, length-take (offset + 1) state, long, apart.least))
    ]

-- ---- laws

pub refused_nowhere : (scene bytes : List ℕ) (w : World) (fault : StateFault) → length scene ≡ 32 → form_on scene w bytes ≡ Err fault
    → (v : World)
    → AreOfOneScene w v → take (fault.offset + 1) bytes ≡ take (fault.offset + 1) (state_bytes scene v) → ⊥
refused_nowhere scene bytes w fault e h v same goes = own_refused scene bytes v fault e (sym (same_form scene bytes w v same) ∙ h) goes

-- the state of a world has the form, and tells it
pub written_told : (scene : List ℕ) (w v : World) → length scene ≡ 32 → AreOfOneScene w v → NumbersFit v → IsToldBack scene w v
written_told scene w v e same fit = record { form = own_form scene w v e same; back = told_back scene w v e same fit }
