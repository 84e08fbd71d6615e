-- Bytes without the form of a state go on as some state of the scene does, up to the byte at which they are refused.
use Rattle.std.proofs.Common.{◌≡◌, refl, sym, ap, ◌∙◌, subst, ℕ, zero, suc, ◌+◌, ◌-◌, ◌<◌, ◌≤◌, Bool, true, false, cond, List, [], ◌∷◌}
use Rattle.std.proofs.Common.{◌++◌, length, take, drop, arith, inl, inr, Some, Err}
use Rattle.std.specs.Prelude.{slice_index}
use Rattle.std.proofs.lemmas.Bool.{cases_lt}
use Rattle.std.proofs.lemmas.List.{get_or_append_left, get_or-append_right, get_or-drop, get_or-take, length-append, length-drop}
use Rattle.std.proofs.lemmas.List.{length-take, length-take-le, take_at}
use Rattle.pbd_world.specs.World.{World}
use Rattle.pbd_sound.specs.Soundness.{first_where}
use Rattle.pbd_sound.proofs.Telling.{told_scene}
use Rattle.pbd_sound.proofs.Where.{none_first}
use Rattle.pbd_log.specs.Laws.{IsBytes}
use Rattle.pbd_encoding.specs.declared.form.StateFault.{StateFault}
use Rattle.pbd_encoding.specs.Described.{told_by}
use Rattle.pbd_encoding.specs.Encoding.{header_of, state_bytes, state_size}
use Rattle.pbd_encoding.specs.Form.{is_foreign, form_checked}
use Rattle.pbd_encoding.specs.Laws.{form_on, told_on, GoesWrongAt}
use Rattle.pbd_encoding.proofs.Sections.{state_long}
use Rattle.pbd_encoding.proofs.Telling.{HasForm, formed_state}
use Rattle.pbd_encoding.proofs.Forming.{own_native, form_is, first_is, some_is, refused_so, refused_nowhere}
use Rattle.pbd_encoding.proofs.Bytes.{state_is}

-- ---- up to where bytes have the form

before_by : (n : ℕ) (test : ℕ → ℕ → Bool) (x : ℕ) (xs : List ℕ) (k : ℕ)
    → (first_where (n + 1) test xs ≡ Some k → (i : ℕ) → n + 1 + i < k → test (n + 1 + i) (slice_index xs i) ≡ false)
    → (b : Bool) → test n x ≡ b → cond b (Some n) (first_where (n + 1) test xs) ≡ Some k → (i : ℕ) → n + i < k
    → test (n + i) (slice_index (x ∷ xs) i) ≡ false
before_by n test x xs k later true is h i lt = let e : n ≡ k = some_is n k h in absurd (omega (arith, e, lt))
before_by n test x xs k later false is h zero lt = let here : n + 0 ≡ n = omega arith in ap (λ (j : ℕ). test j x) here ∙ is
before_by n test x xs k later false is h (suc i) lt =
    let next : n + suc i ≡ n + 1 + i = omega arith in
    ap (λ (j : ℕ). test j (slice_index xs i)) next ∙ later h i (omega (arith, lt))

none_before : (n : ℕ) (test : ℕ → ℕ → Bool) (xs : List ℕ) (k : ℕ) → first_where n test xs ≡ Some k → (i : ℕ) → n + i < k
    → test (n + i) (slice_index xs i) ≡ false
none_before n test [] k h = cc
none_before n test (x ∷ xs) k h = before_by n test x xs k (λ rest. none_before (n + 1) test xs k rest) (test n x) refl h

record HasFormTo (header : List ℕ) (n m : ℕ) (bytes : List ℕ) (offset : ℕ) : Type 0 where
  there : offset ≤ length bytes
  within : offset ≤ state_size n m
  each : (i : ℕ) → i < offset → is_foreign header n m i (slice_index bytes i) ≡ false

has_form_to : (header bytes : List ℕ) (n m : ℕ) (fault : StateFault) → form_checked header n m bytes ≡ Err fault
    → HasFormTo header n m bytes fault.offset
has_form_to header bytes n m fault h =
    let offset = fault.offset in
    let size = state_size n m in
    let test = is_foreign header n m in
    let o = first_where 0 test (take size bytes) in
    let long = length-take size bytes in
    elim (refused_so (length bytes) size fault o (sym (form_is header bytes n m) ∙ h)) [
      | inl first ↦
          let f = first_is 0 test (take size bytes) offset first in
          record {
            there = omega (arith, f.within, long);
            within = omega (arith, f.within, long);
            each = λ i lt.
                let from : 0 + i ≡ i = omega arith in
                let byte = get_or-take size bytes i 0 (omega (arith, lt, f.within, long)) in
                sym (ap (λ (b : ℕ). test i b) byte) ∙ sym (ap (λ (j : ℕ). test j (slice_index (take size bytes) i)) from)
                ∙ none_before 0 test (take size bytes) offset first i (omega (arith, lt));
          }
      | inr other ↦
          record {
            there = omega (arith, other.least);
            within = omega (arith, other.least);
            each = λ i lt.
                let byte = get_or-take size bytes i 0 (omega (arith, lt, other.least)) in
                sym (ap (λ (b : ℕ). test i b) byte) ∙ none_first test (take size bytes) i 0 other.none
                (omega (arith, lt, other.least, long));
          }
    ]

-- ---- bytes that go on as the state of the scene's world does

abbrev mended : List ℕ → ℕ → List ℕ → List ℕ
mended bytes offset state = take offset bytes ++ drop offset state

mended_front : (bytes state : List ℕ) (offset k : ℕ) → offset ≤ length bytes → k < offset
    → slice_index (mended bytes offset state) k ≡ slice_index bytes k
mended_front bytes state offset k there lt =
    get_or_append_left (take offset bytes) (drop offset state) 0 k (omega (arith, lt, length-take-le offset bytes there))
    ∙ get_or-take offset bytes k 0 lt

mended_back : (bytes state : List ℕ) (offset k : ℕ) → offset ≤ length bytes → offset ≤ k
    → slice_index (mended bytes offset state) k ≡ slice_index state k
mended_back bytes state offset k there le =
    let back : offset + (k - offset) ≡ k = omega (arith, le) in
    get_or-append_right (take offset bytes) (drop offset state) offset k 0 (length-take-le offset bytes there) le
    ∙ get_or-drop offset state (k - offset) 0 ∙ ap (λ (j : ℕ). slice_index state j) back

mended_bytes : (bytes state : List ℕ) (offset : ℕ) → offset ≤ length bytes → IsBytes bytes → IsBytes state
    → IsBytes (mended bytes offset state)
mended_bytes bytes state offset there hb hs k =
    elim (cases_lt k offset) [
      | inl lt ↦ subst (λ (b : ℕ). b < 256) (sym (mended_front bytes state offset k there lt)) (hb k)
      | inr le ↦ subst (λ (b : ℕ). b < 256) (sym (mended_back bytes state offset k there le)) (hs k)
    ]

mended_form : (scene bytes : List ℕ) (w : World) (offset : ℕ) → length scene ≡ 32
    → HasFormTo (header_of scene w) (length w.particles) (length w.links) bytes offset
    → HasForm (header_of scene w) (length w.particles) (length w.links) (mended bytes offset (state_bytes scene w))
mended_form scene bytes w offset e u =
    let state = state_bytes scene w in
    let test = is_foreign (header_of scene w) (length w.particles) (length w.links) in
    let size = state_long scene w e in
    let long : length (mended bytes offset state) ≡ state_size (length w.particles) (length w.links) =
    omega (
      arith,
      length-append (take offset bytes) (drop offset state),
      length-take-le offset bytes u.there,
      length-drop offset state,
      size,
      u.within,
    ) in
    record {
      long = long;
      each = λ k lt. elim (cases_lt k offset) [
        | inl front ↦ ap (λ (b : ℕ). test k b) (mended_front bytes state offset k u.there front) ∙ u.each k front
        | inr back ↦ ap (λ (b : ℕ). test k b) (mended_back bytes state offset k u.there back)
            ∙ own_native scene w k e (omega (arith, lt, long, size))
      ];
    }

pub refused_exactly : (scene bytes : List ℕ) (w : World) (fault : StateFault) → length scene ≡ 32 → IsBytes scene → IsBytes bytes
    → form_on scene w bytes ≡ Err fault → GoesWrongAt scene bytes w fault.offset
refused_exactly scene bytes w fault e hs hb h =
    let offset = fault.offset in
    let state = state_bytes scene w in
    let u = has_form_to (header_of scene w) bytes (length w.particles) (length w.links) fault h in
    let good = mended bytes offset state in
    let fits = mended_bytes bytes state offset u.there hb (state_is scene w hs) in
    let same : state_bytes scene (told_on w good) ≡ good = formed_state scene good w e fits (mended_form scene bytes w offset e u) in
    let front : take offset good ≡ take offset bytes = take_at (take offset bytes) (drop offset state) offset
    (length-take-le offset bytes u.there) in
    record {
      like = told_on w good;
      one_scene = told_scene (told_by good (length w.particles) (length w.links)) w;
      so_far = sym front ∙ ap (λ (t : List ℕ). take offset t) (sym same);
      no_further = refused_nowhere scene bytes w fault e h;
    }
