-- What holds of all states. A scene is named by 32 bytes.
use Rattle.std.specs.Prelude.{◌≡◌, ◌≢◌, ℕ, List, ◌∷◌, ◌++◌, length, Ok, Err}
use Rattle.sha2.specs.Sha256.{sha256}
use Rattle.pbd_world.specs.World.{World, IsSound, AreOfOneScene}
use Rattle.pbd_log.specs.Laws.{IsBytes}
use Rattle.pbd_encoding.specs.declared.form.StateFault.{StateFault}
use Rattle.pbd_encoding.specs.Encoding.{state_bytes}
use Rattle.pbd_encoding.specs.Laws.{told_on}
use Rattle.pbd_state.specs.Reading.{reading}
use Rattle.pbd_state.specs.Checksum.{words, checksum}

-- the state of a sound world is taken on each world of its scene, and tells that world
pub record IsReadBack (scene : List ℕ) (w v : World) : Type 0 where
  pub taken : reading scene w (state_bytes scene v) ≡ Ok tt
  pub back : told_on w (state_bytes scene v) ≡ v

abbrev pub WrittenIsRead : Type 0
WrittenIsRead = (scene : List ℕ) (w v : World) → length scene ≡ 32 → AreOfOneScene w v → IsSound v → IsReadBack scene w v

-- bytes that are taken are the state of a sound world of the scene
pub record IsState (scene : List ℕ) (w v : World) (bytes : List ℕ) : Type 0 where
  pub bytes_are : state_bytes scene v ≡ bytes
  pub sound : IsSound v
  pub one_scene : AreOfOneScene w v

abbrev pub TakenIsState : Type 0
TakenIsState = (scene bytes : List ℕ) (w : World) → length scene ≡ 32 → IsBytes bytes → IsSound w → reading scene w bytes ≡ Ok tt
    → IsState scene w (told_on w bytes) bytes

-- bytes that are refused are the state of no sound world of the scene
abbrev pub RefusedIsNoState : Type 0
RefusedIsNoState = (scene bytes : List ℕ) (w v : World) (fault : StateFault) → length scene ≡ 32 → reading scene w bytes ≡ Err fault
    → IsState scene w v bytes → ⊥

-- two sound worlds of a scene never have the same bytes
abbrev pub SoundWorldsDiffer : Type 0
SoundWorldsDiffer = (scene : List ℕ) (v w : World) → length scene ≡ 32 → AreOfOneScene v w → IsSound v → IsSound w
    → state_bytes scene v ≡ state_bytes scene w → v ≡ w

-- equal worlds have equal digests
abbrev pub EqualWorldsAgree : Type 0
EqualWorldsAgree = (scene : List ℕ) (v w : World) → v ≡ w → sha256 (state_bytes scene v) ≡ sha256 (state_bytes scene w)

-- equal worlds have equal checksums
abbrev pub EqualWorldsSumAlike : Type 0
EqualWorldsSumAlike = (v w : World) → v ≡ w → checksum v ≡ checksum w

-- two sound worlds whose words differ in exactly one have different checksums
abbrev pub OneWordShows : Type 0
OneWordShows = (v w : World) (before after : List ℕ) (x y : ℕ) → IsSound v → IsSound w → words v ≡ before ++ x ∷ after
    → words w ≡ before ++ y ∷ after → x ≢ y → checksum v ≢ checksum w
