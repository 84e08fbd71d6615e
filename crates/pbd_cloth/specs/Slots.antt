-- A world, and the worlds in slots.
use Rattle.std.specs.Prelude.{ℕ, ◌≤◌, List, [], ◌∷◌, length, replicate, slice_index_or, slice_set, All}
use Rattle.pbd_world.specs.declared.command.Command.{Command}
use Rattle.pbd_world.specs.World.{World, IsSound, AreOfOneScene}
use Rattle.pbd_world.specs.Meaning.{after}

-- the world, and the world in each slot
pub record Slotted : Type 0 where
  pub world : World
  pub slots : List World

-- before the first command each slot has the opened world
abbrev pub begun : World → ℕ → Slotted
begun w n = record { world = w; slots = replicate n w }

-- the world in slot k, or the world itself where there is no such slot
abbrev pub slot_at : Slotted → ℕ → World
slot_at c k = slice_index_or c.slots k c.world

-- ---- what is done

abbrev pub played : Slotted → Command → Slotted
played c command = record c { world = after c.world command }

abbrev pub saved : Slotted → ℕ → Slotted
saved c k = record c { slots = slice_set c.slots k c.world }

abbrev pub restored : Slotted → ℕ → Slotted
restored c k = record c { world = slot_at c k }

-- after all the commands
abbrev pub last_played : Slotted → List Command → Slotted
last_played c [] = c
last_played c (command ∷ commands) = last_played (played c command) commands

-- ---- what holds between two calls

-- a sound world of one scene with w
pub record IsSlotOf (w v : World) : Type 0 where
  pub sound : IsSound v
  pub one_scene : AreOfOneScene w v

-- a sound world, and up to 16 of one scene with it
pub record AreSlots (w : World) (ws : List World) : Type 0 where
  pub few : length ws ≤ 16
  pub sound : IsSound w
  pub slots : All (IsSlotOf w) ws
