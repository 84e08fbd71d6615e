-- A cloth with its slots, and a world with its marks, as machines of slots.
use Rattle.std.specs.Prelude.{List, [], ◌∷◌, map, Some}
use Rattle.pbd_world.specs.World.{World}
use Rattle.pbd_cloth.specs.Slots.{Slotted, played, saved, restored}
use Rattle.pbd_marks.specs.Marked.{Marked}
use Rattle.pbd_marks.specs.declared.command.MarkCommand.{MarkCommand}
use Rattle.pbd_marks.specs.declared.command.MarkCommand.TheVariants.{Plain, Mark, Rewind}
use Rattle.pbd_laws.specs.Machine.{Machine, Act}
use Rattle.pbd_laws.specs.Machine.Act.{Play, Save, Restore}

-- each slot of a cloth has a world
abbrev pub of_cloth : Slotted → Machine
of_cloth c = record { world = c.world; slots = map {A = World} (λ w. Some w) c.slots }

abbrev pub of_marks : Marked → Machine
of_marks m = record { world = m.world; slots = m.marks }

-- ---- acts, as cloths and scripts do them

abbrev pub done : Slotted → Act → Slotted
done c (Play command) = played c command
done c (Save k) = saved c k
done c (Restore k) = restored c k

abbrev pub all_done : Slotted → List Act → Slotted
all_done c [] = c
all_done c (act ∷ acts) = all_done (done c act) acts

abbrev pub mark_command : Act → MarkCommand
mark_command (Play command) = Plain command
mark_command (Save k) = Mark k
mark_command (Restore k) = Rewind k
