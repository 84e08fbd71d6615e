-- What soundness comes to.
use Rattle.std.specs.Prelude.{◌≡◌, length, Ok}
use Rattle.pbd_world.specs.World.{World, IsSound, AreOfOneScene}
use Rattle.pbd_sound.specs.Described.{Description, told}
use Rattle.pbd_sound.specs.Soundness.{soundness}

-- a world that is told on a sound one, and of which nothing is unsound, is sound
abbrev pub TestedIsSound : Type 0
TestedIsSound = (d : Description) (w : World) → IsSound w → soundness (told d w) ≡ Ok tt → IsSound (told d w)

-- of a sound world nothing is unsound
abbrev pub SoundIsTested : Type 0
SoundIsTested = (w : World) → IsSound w → soundness w ≡ Ok tt

-- a world that is told is of the scene on which it is told
abbrev pub ToldIsOfOneScene : Type 0
ToldIsOfOneScene = (d : Description) (w : World) → AreOfOneScene w (told d w)
