-- The tests of particles, by name.
use Rattle.std.specs.Prelude.{ℕ, ℤ, Bool, List}
use Rattle.pbd_world.specs.declared.parts.Particle.{Particle}
use Rattle.pbd_world.specs.declared.parts.Track.{Track}
use Rattle.pbd_sound.specs.declared.particles.Test.{Test}
use Rattle.pbd_sound.specs.declared.particles.Test.TheVariants as tests
use Rattle.pbd_sound.specs.Soundness.{is_outside, was_outside, is_held_wrongly, weighs_otherwise}

-- whether particle i fails a test
abbrev pub fails : Test → ℤ → List Track → ℕ → Particle → Bool
fails tests.Outside limit tracks i p = is_outside limit i p
fails tests.WasOutside limit tracks i p = was_outside limit i p
fails tests.HeldWrongly limit tracks i p = is_held_wrongly tracks i p
fails (tests.WeighsOtherwise weight) limit tracks i p = weighs_otherwise weight i p
