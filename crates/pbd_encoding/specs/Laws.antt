-- What holds of the bytes of all worlds. A scene is named by 32 bytes.
use Rattle.std.specs.Prelude.{◌≡◌, ℕ, ◌+◌, ◌<◌, ◌^◌, List, length, take, Ok, Err}
use Rattle.pbd_world.specs.Ledger.{Ledger, SumFits}
use Rattle.pbd_world.specs.Particles.{particle_at}
use Rattle.pbd_world.specs.World.{World, IsSound, AreOfOneScene}
use Rattle.pbd_log.specs.Entries.{VectorFits}
use Rattle.pbd_log.specs.Laws.{IsBytes}
use Rattle.pbd_sound.specs.Described.{told}
use Rattle.pbd_encoding.specs.Described.{told_by}
use Rattle.pbd_encoding.specs.Encoding.{header_of, state_bytes, state_size}
use Rattle.pbd_encoding.specs.Scene.{scene_bytes}
use Rattle.pbd_encoding.specs.declared.form.StateFault.{StateFault}
use Rattle.pbd_encoding.specs.Form.{Formed, form_checked}

-- each number is in the range of its type
pub record TotalsFit (t : Ledger) : Type 0 where
  pub gravity : SumFits t.gravity
  pub damping : SumFits t.damping
  pub link : SumFits t.link
  pub contact : SumFits t.contact
  pub shape : SumFits t.shape
  pub pin : SumFits t.pin

pub record NumbersFit (w : World) : Type 0 where
  pub steps : w.steps < 2 ^ 64
  pub gravity : VectorFits w.gravity
  pub at : (i : ℕ) → i < length w.particles → VectorFits (particle_at w.particles i).at
  pub before : (i : ℕ) → i < length w.particles → VectorFits (particle_at w.particles i).before
  pub contacts : w.contacts < 2 ^ 32
  pub totals : TotalsFit w.totals

-- where bytes go wrong as the form of a state of the scene of w
abbrev pub form_on : List ℕ → World → List ℕ → Formed
form_on scene w bytes = form_checked (header_of scene w) (length w.particles) (length w.links) bytes

-- the world that bytes tell on a world of the scene
abbrev pub told_on : World → List ℕ → World
told_on w bytes = told (told_by bytes (length w.particles) (length w.links)) w

-- the size of a state is known before
abbrev pub SizeIsKnown : Type 0
SizeIsKnown = (scene : List ℕ) (w : World) → length scene ≡ 32
    → length (state_bytes scene w) ≡ state_size (length w.particles) (length w.links)

-- the state of a world has the form of a state of its scene, and tells that world
pub record IsToldBack (scene : List ℕ) (w v : World) : Type 0 where
  pub form : form_on scene w (state_bytes scene v) ≡ Ok tt
  pub back : told_on w (state_bytes scene v) ≡ v

abbrev pub WrittenIsTold : Type 0
WrittenIsTold = (scene : List ℕ) (w v : World) → length scene ≡ 32 → AreOfOneScene w v → NumbersFit v → IsToldBack scene w v

-- bytes that have the form are the state of the world that they tell
abbrev pub ToldIsWritten : Type 0
ToldIsWritten = (scene bytes : List ℕ) (w : World) → length scene ≡ 32 → IsBytes bytes → form_on scene w bytes ≡ Ok tt
    → state_bytes scene (told_on w bytes) ≡ bytes

-- bytes go on as the state of some world of the scene up to a byte, and as that of none with it
pub record GoesWrongAt (scene bytes : List ℕ) (w : World) (offset : ℕ) : Type 0 where
  pub like : World
  pub one_scene : AreOfOneScene w like
  pub so_far : take offset bytes ≡ take offset (state_bytes scene like)
  pub no_further : (v : World) → AreOfOneScene w v → take (offset + 1) bytes ≡ take (offset + 1) (state_bytes scene v) → ⊥

-- where the form is refused, it is at the first byte with which no state of the scene goes on, or at the end where bytes are missing
abbrev pub RefusedIsExact : Type 0
RefusedIsExact = (scene bytes : List ℕ) (w : World) (fault : StateFault) → length scene ≡ 32 → IsBytes scene → IsBytes bytes
    → form_on scene w bytes ≡ Err fault → GoesWrongAt scene bytes w fault.offset

-- two worlds of a scene whose numbers are in the ranges of their types never have the same bytes
abbrev pub StatesTellWorldsApart : Type 0
StatesTellWorldsApart = (scene : List ℕ) (v w : World) → length scene ≡ 32 → AreOfOneScene v w → NumbersFit v → NumbersFit w
    → state_bytes scene v ≡ state_bytes scene w → v ≡ w

-- sound worlds with the same bytes of a scene are of one scene
abbrev pub ScenesDiffer : Type 0
ScenesDiffer = (v w : World) → IsSound v → IsSound w → scene_bytes v ≡ scene_bytes w → AreOfOneScene v w

-- worlds of one scene have the same bytes of it
abbrev pub OneSceneOneText : Type 0
OneSceneOneText = (v w : World) → AreOfOneScene v w → scene_bytes v ≡ scene_bytes w
