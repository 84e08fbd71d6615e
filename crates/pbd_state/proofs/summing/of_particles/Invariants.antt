use Rattle.std.proofs.Common.{◌≡◌, ◌+◌, drop}
use Rattle.std.specs.List.{flat_map}
use Rattle.pbd_state.specs.Checksum.{particle_words, with_words}
use Rattle.pbd_state.proofs.summing.of_particles.Given as goal

-- the particles so far, and those that are left, make the whole
abbrev pub invariant-loop-i : goal.invariant-loop-i
invariant-loop-i g l = record {
  whole : with_words l.sum (flat_map particle_words (drop l.i l.shown.particles))
      ≡ with_words 0 (flat_map particle_words l.shown.particles);
  cost : l.steps ≡ l.initial.steps + l.i;
}
