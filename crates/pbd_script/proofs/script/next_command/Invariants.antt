use Rattle.std.proofs.Common.{◌≡◌, length}
use Rattle.std.specs.Prelude.{filter_map}
use Rattle.pbd_script.specs.Lines.{pieces, left_of}
use Rattle.pbd_script.proofs.script.next_command.Given as goal

-- no command stands before the rest
abbrev pub invariant-loop-rest : goal.invariant-loop-rest
invariant-loop-rest g l =
    filter_map g.C.LineCommand.of_line (left_of pieces l.script)
    ≡ filter_map g.C.LineCommand.of_line (left_of pieces l.rest)

abbrev pub decreases-loop-rest : goal.decreases-loop-rest
decreases-loop-rest g l = length (left_of pieces l.rest)
