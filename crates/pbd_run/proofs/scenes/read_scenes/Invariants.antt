use Rattle.std.proofs.Common.{◌≡◌, length}
use Rattle.pbd_outcome.specs.Split.{scenes}
use Rattle.pbd_run.proofs.HostingLaws.{HasRead}
use Rattle.pbd_script.specs.Lines.{left_of}
use Rattle.pbd_run.proofs.scenes.read_scenes.Given as goal

-- so many scenes are read, and nothing is written
abbrev pub invariant-loop-rest : goal.invariant-loop-rest
invariant-loop-rest g l = record {
  has : HasRead (scenes l.initial.text) (left_of scenes l.rest) l.read.items;
  unwritten : l.sink ≡ l.fn.sink;
}

abbrev pub decreases-loop-rest : goal.decreases-loop-rest
decreases-loop-rest g l = length (left_of scenes l.rest)
