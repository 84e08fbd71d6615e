-- A world that bytes tell, taken over.
use Rattle.std.specs.Prelude.{ℕ, List, Ok, Err}
use Rattle.pbd_world.specs.World.{World}
use Rattle.pbd_encoding.specs.Form.{Formed}
use Rattle.pbd_encoding.specs.Laws.{told_on}
use Rattle.pbd_state.specs.Reading.{reading}
use Rattle.pbd_cloth.specs.Slots.{Slotted}

-- another world, where nothing is wrong
abbrev pub going_over : Formed → Slotted → World → Slotted
going_over (Ok x) c told = record c { world = told }
going_over (Err fault) c told = c

-- the world that bytes tell, where they are a state of the scene of that name. No slot changes.
abbrev pub resumed : List ℕ → Slotted → List ℕ → Slotted
resumed scene c bytes = going_over (reading scene c.world bytes) c (told_on c.world bytes)
