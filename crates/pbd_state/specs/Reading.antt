-- What reading a state comes to.
use Rattle.std.specs.Prelude.{ℕ, ◌+◌, ◌*◌, List, length}
use Rattle.pbd_world.specs.declared.totals.Class.{Class}
use Rattle.pbd_world.specs.declared.totals.Class.TheVariants as classes
use Rattle.pbd_world.specs.Outcomes.{◌>>=◌, with_fault}
use Rattle.pbd_world.specs.World.{World}
use Rattle.pbd_sound.specs.declared.described.Unsound.{Unsound}
use Rattle.pbd_sound.specs.declared.described.Unsound.TheVariants as faults
use Rattle.pbd_sound.specs.Soundness.{soundness}
use Rattle.pbd_encoding.specs.Described.{contacts_at}
use Rattle.pbd_encoding.specs.Form.{Formed, fault_at}
use Rattle.pbd_encoding.specs.Laws.{form_on, told_on}

-- the place of a total among the six
abbrev pub rank : Class → ℕ
rank classes.Gravity = 0
rank classes.Damping = 1
rank classes.Link = 2
rank classes.Contact = 3
rank classes.Shape = 4
rank classes.Pin = 5

-- where the field stands that is unsound
abbrev pub place_of : ℕ → ℕ → Unsound → ℕ
place_of n m faults.Steps = 96
place_of n m faults.Gravity = 104
place_of n m (faults.Place i) = 128 + 24 * i
place_of n m (faults.Before i) = 128 + 24 * n + 24 * i
place_of n m (faults.Held i) = 128 + 48 * n + i
place_of n m faults.Contacts = contacts_at n m
place_of n m (faults.Total class) = contacts_at n m + 4 + 48 * rank class

-- nothing, or where the first field stands of a world that is unsound
abbrev pub sound_on : ℕ → ℕ → World → Formed
sound_on n m told = with_fault (λ fault. fault_at (place_of n m fault)) (soundness told)

-- nothing, or where bytes go wrong as a state of the scene of w: first in their form, then in what they tell
unfoldable pub reading : List ℕ → World → List ℕ → Formed
reading scene w bytes = form_on scene w bytes >>= λ formed. sound_on (length w.particles) (length w.links) (told_on w bytes)
