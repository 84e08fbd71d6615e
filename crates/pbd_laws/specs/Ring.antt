-- A game in turns whose inputs may come late: each turn is saved in a ring of slots, and played again once its input is known.
use Rattle.std.specs.Prelude.{ℕ, ◌+◌, ◌%◌, ◌<◌, ◌≤◌, List, [], ◌∷◌, ◌++◌, length, map, drop, slice_set}
use Rattle.std.specs.List.{flat_map}
use Rattle.pbd_world.specs.declared.command.Command.{Command}
use Rattle.pbd_laws.specs.Machine.{Act}
use Rattle.pbd_laws.specs.Machine.Act.{Play, Save, Restore}

-- the commands of one turn after another
abbrev pub Turns : Type 0
Turns = List (List Command)

abbrev pub commands_of : Turns → List Command
commands_of turns = flat_map (λ commands. commands) turns

-- the next turn is played with what is known or guessed of its commands, or the commands of an earlier turn are learnt
pub data Event : Type 0 where
  Plays : List Command → Event
  Learns : ℕ → List Command → Event

-- ---- what the machine does

-- turn t: the world is saved in slot t mod n, and the turn's commands are played
abbrev pub turn : ℕ → ℕ → List Command → List Act
turn n t commands = Save (t % n) ∷ map (λ command. Play command) commands

-- these turns, from turn t on
abbrev pub turns_from : ℕ → ℕ → Turns → List Act
turns_from n t [] = []
turns_from n t (commands ∷ turns) = turn n t commands ++ turns_from n (t + 1) turns

-- back to the world before turn t, and that turn and those since again
abbrev pub again_from : ℕ → ℕ → Turns → List Act
again_from n t turns = Restore (t % n) ∷ turns_from n t (drop t turns)

-- ---- what is known of the turns so far

-- the commands of each turn as they are taken after an event
abbrev pub taken : Turns → Event → Turns
taken turns (Plays commands) = turns ++ (commands ∷ [])
taken turns (Learns t commands) = slice_set turns t commands

-- what the machine does for an event
abbrev pub acts_of : ℕ → Turns → Event → List Act
acts_of n turns (Plays commands) = turn n (length turns) commands
acts_of n turns (Learns t commands) = again_from n t (slice_set turns t commands)

-- an input comes in time: its turn was played, and is one of the last n
abbrev pub IsInTime : ℕ → Turns → Event → Type 0
IsInTime n turns (Plays commands) = Unit {0}
IsInTime n turns (Learns t commands) = (t < length turns) × (length turns ≤ t + n)

-- ---- a whole game

abbrev pub all_taken : Turns → List Event → Turns
all_taken turns [] = turns
all_taken turns (event ∷ events) = all_taken (taken turns event) events

abbrev pub all_acts : ℕ → Turns → List Event → List Act
all_acts n turns [] = []
all_acts n turns (event ∷ events) = acts_of n turns event ++ all_acts n (taken turns event) events

abbrev pub AreInTime : ℕ → Turns → List Event → Type 0
AreInTime n turns [] = Unit {0}
AreInTime n turns (event ∷ events) = IsInTime n turns event × AreInTime n (taken turns event) events
