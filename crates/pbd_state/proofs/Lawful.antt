-- The laws of states.
use Rattle.std.proofs.Common.{◌≡◌, refl, sym, ap, ◌∙◌, ℕ, List, length, Ok, Err}
use Rattle.std.specs.Prelude.{OnOk}
use Rattle.pbd_world.specs.Outcomes.{◌>>=◌, with_fault}
use Rattle.pbd_world.specs.World.{World, IsSound, AreOfOneScene}
use Rattle.pbd_log.specs.Laws.{IsBytes}
use Rattle.pbd_sound.specs.Soundness.{Checked, soundness}
use Rattle.pbd_sound.proofs.Sounding.{tested_sound, sound_tested}
use Rattle.pbd_sound.proofs.Telling.{told_scene}
use Rattle.pbd_encoding.specs.declared.form.StateFault.{StateFault}
use Rattle.pbd_encoding.specs.Described.{told_by}
use Rattle.pbd_encoding.specs.Encoding.{header_of, state_bytes}
use Rattle.pbd_encoding.specs.Form.{Formed, fault_at, form_checked}
use Rattle.pbd_encoding.specs.Laws.{form_on, told_on}
use Rattle.pbd_encoding.proofs.Telling.{told_state}
use Rattle.pbd_encoding.proofs.Back.{told_back, worlds_apart}
use Rattle.pbd_encoding.proofs.Forming.{own_form}
use Rattle.pbd_state.specs.Reading.{place_of, sound_on, reading}
use Rattle.pbd_state.specs.Laws.{IsReadBack, IsState}
use Rattle.pbd_state.proofs.Fitting.{numbers_fit}

-- ---- reading, part by part

-- bytes without the form
pub reads_form : (scene bytes : List ℕ) (w : World) (fault : StateFault) → form_on scene w bytes ≡ Err fault
    → reading scene w bytes ≡ Err fault
unfolding reading
reads_form scene bytes w fault h = ap (λ (r : Formed). r >>= λ formed. sound_on (length w.particles) (length w.links) (told_on w bytes)) h

-- bytes with it
pub reads_told : (scene bytes : List ℕ) (w : World) → form_on scene w bytes ≡ Ok tt
    → reading scene w bytes ≡ sound_on (length w.particles) (length w.links) (told_on w bytes)
unfolding reading
reads_told scene bytes w h = ap (λ (r : Formed). r >>= λ formed. sound_on (length w.particles) (length w.links) (told_on w bytes)) h

formed_so : (r : Formed) (f : Unit {0} → Formed) → (r >>= f) ≡ Ok tt → r ≡ Ok tt
formed_so (Ok x) f h = refl
formed_so (Err fault) f h = cc

sound_so : (n m : ℕ) (r : Checked) → (let checked : Formed = with_fault (λ fault. fault_at (place_of n m fault)) r in checked ≡ Ok tt)
    → r ≡ Ok tt
sound_so n m (Ok x) h = refl
sound_so n m (Err fault) h = cc

-- the parts of what is taken
record IsTaken (scene : List ℕ) (w : World) (bytes : List ℕ) : Type 0 where
  form : form_on scene w bytes ≡ Ok tt
  sound : soundness (told_on w bytes) ≡ Ok tt

reads_so : (scene bytes : List ℕ) (w : World) → reading scene w bytes ≡ Ok tt → form_on scene w bytes ≡ Ok tt
unfolding reading
reads_so scene bytes w h = formed_so (form_on scene w bytes) (λ formed. sound_on (length w.particles) (length w.links) (told_on w bytes)) h

taken_parts : (scene bytes : List ℕ) (w : World) → reading scene w bytes ≡ Ok tt → IsTaken scene w bytes
taken_parts scene bytes w h =
    let form = reads_so scene bytes w h in
    record {
      form = form;
      sound = sound_so (length w.particles) (length w.links) (soundness (told_on w bytes))
          (sym (reads_told scene bytes w form) ∙ h);
    }

-- ---- the laws

pub read_back : (scene : List ℕ) (w v : World) → length scene ≡ 32 → AreOfOneScene w v → IsSound v → IsReadBack scene w v
read_back scene w v e same sound =
    let n = length w.particles in
    let m = length w.links in
    let bytes = state_bytes scene v in
    let back = told_back scene w v e same (numbers_fit v sound) in
    let tested : soundness (told_on w bytes) ≡ Ok tt = ap soundness back ∙ sound_tested v sound in
    let checked : sound_on n m (told_on w bytes) ≡ Ok tt =
    ap (λ (r : Checked). with_fault (λ fault. fault_at (place_of n m fault)) r) tested in
    record { taken = reads_told scene bytes w (own_form scene w v e same) ∙ checked; back = back }

pub taken_state : (scene bytes : List ℕ) (w : World) → length scene ≡ 32 → IsBytes bytes → IsSound w → reading scene w bytes ≡ Ok tt
    → IsState scene w (told_on w bytes) bytes
taken_state scene bytes w e fits sound h =
    let p = taken_parts scene bytes w h in
    record {
      bytes_are = told_state scene bytes w e fits p.form;
      sound = tested_sound (told_by bytes (length w.particles) (length w.links)) w sound p.sound;
      one_scene = told_scene (told_by bytes (length w.particles) (length w.links)) w;
    }

not_both : (r : Formed) (fault : StateFault) → r ≡ Ok tt → r ≡ Err fault → ⊥
not_both (Ok x) fault h k = cc
not_both (Err f) fault h k = cc

pub refused_none : (scene bytes : List ℕ) (w v : World) (fault : StateFault) → length scene ≡ 32 → reading scene w bytes ≡ Err fault
    → IsState scene w v bytes → ⊥
refused_none scene bytes w v fault e h state =
    let taken = ap (λ (b : List ℕ). reading scene w b) (sym state.bytes_are) ∙ (read_back scene w v e state.one_scene state.sound).taken in
    not_both (reading scene w bytes) fault taken h

pub worlds_differ : (scene : List ℕ) (v w : World) → length scene ≡ 32 → AreOfOneScene v w → IsSound v → IsSound w
    → state_bytes scene v ≡ state_bytes scene w → v ≡ w
worlds_differ scene v w e same sv sw h = worlds_apart scene v w e same (numbers_fit v sv) (numbers_fit w sw) h

-- ---- for reading

-- the form that was checked, with the header and counts that a solver gives
pub form_given : (scene bytes header : List ℕ) (w : World) (n m : ℕ) → header ≡ header_of scene w → n ≡ length w.particles
    → m ≡ length w.links
    → form_on scene w bytes ≡ form_checked header n m bytes
form_given scene bytes header w n m eh en em = λ i. form_checked (sym eh i) (sym en i) (sym em i) bytes

-- the world that a view tells is the one that its bytes tell
pub told_given : (w : World) (bytes text : List ℕ) → text ≡ bytes → told_on w text ≡ told_on w bytes
told_given w bytes text e = ap (λ (t : List ℕ). told_on w t) e

-- what follows where a call came to an end
pub where_ok : {A B : Type 0} (r : Formed) → (A → B) → OnOk r A → OnOk r B
where_ok (Ok x) f h = f h
where_ok (Err fault) f h = h
