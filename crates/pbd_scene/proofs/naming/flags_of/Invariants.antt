use Rattle.std.proofs.Common.{take}
use Rattle.pbd_scene.specs.Marks.{Flags}
use Rattle.pbd_scene.proofs.naming.flags_of.Given as goal

abbrev pub invariant-loop-i : goal.invariant-loop-i
invariant-loop-i l = Flags l.count (take l.i-index l.names) l.flags.items
