-- The world that a test of soundness looks at.
use Rattle.std.specs.Prelude.{ℕ, ◌≤◌, ◌^◌, pos, List, []}
use Rattle.pbd_world.specs.declared.parts.Track.{Track}
use Rattle.pbd_world.specs.Ledger.{sum_of, ledger_of}
use Rattle.pbd_world.specs.Shapes.{no_shapes}
use Rattle.pbd_world.specs.World.{World}
use Rattle.pbd_store.specs.Stored.{Stored}
use Rattle.pbd_sound.specs.declared.judging.Numbers.{Numbers}

-- a world of some tracks, particles and numbers, with no link and no shape in it
abbrev pub standing : List Track → Stored → Numbers → World
standing tracks store numbers = record {
  limit = store.limit;
  steps = numbers.steps;
  particles = store.particles;
  links = [];
  tracks = tracks;
  shapes = no_shapes;
  gravity = numbers.gravity;
  passes = 0;
  damping = numbers.damping;
  thickness = pos 0;
  friction = pos 0;
  contacts = numbers.contacts;
  totals = ledger_of numbers.totals;
  opening = sum_of numbers.opening;
}
