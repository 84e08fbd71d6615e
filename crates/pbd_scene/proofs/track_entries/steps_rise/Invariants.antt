use Rattle.std.specs.Prelude.{◌+◌, nat_lt, IsTrue}
use Rattle.pbd_mesh.specs.Numbered.{all_below}
use Rattle.pbd_scene.specs.Entries.{step_of}
use Rattle.pbd_scene.proofs.track_entries.steps_rise.Given as goal

abbrev pub invariant-loop-i : goal.invariant-loop-i
invariant-loop-i l = IsTrue (all_below l.i (λ i. nat_lt (step_of l.keys i) (step_of l.keys (i + 1))))
