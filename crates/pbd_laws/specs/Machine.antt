-- A machine of slots: a world, and the worlds that are kept beside it.
use Rattle.std.specs.Prelude.{ℕ, List, [], ◌∷◌, slice_index_or, slice_set, Option, Some, None}
use Rattle.pbd_world.specs.declared.command.Command.{Command}
use Rattle.pbd_world.specs.World.{World}
use Rattle.pbd_world.specs.Meaning.{after}

-- the world, and what each slot has: nothing yet, or a world
pub record Machine : Type 0 where
  pub world : World
  pub slots : List (Option World)

-- a command is played, the world is saved in a slot, or it goes back to what a slot has
pub data Act : Type 0 where
  Play : Command → Act
  Save : ℕ → Act
  Restore : ℕ → Act

-- what slot k has; where there is no such slot, nothing
abbrev pub slot_at : Machine → ℕ → Option World
slot_at m k = slice_index_or m.slots k None

-- the world that a slot has, or this one where it has nothing
abbrev pub kept_or : World → Option World → World
kept_or w None = w
kept_or w (Some v) = v

-- the machine after an act
abbrev pub acted : Machine → Act → Machine
acted m (Play command) = record m { world = after m.world command }
acted m (Save k) = record m { slots = slice_set m.slots k (Some m.world) }
acted m (Restore k) = record m { world = kept_or m.world (slot_at m k) }

-- the machine after all the acts
abbrev pub all_acted : Machine → List Act → Machine
all_acted m [] = m
all_acted m (act ∷ acts) = all_acted (acted m act) acts
