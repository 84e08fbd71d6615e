-- What contacts keep.
use Rattle.std.specs.Prelude.{◌≡◌, ℕ, ◌≤◌, Bool, true, length, map}
use Rattle.pbd_num.specs.declared.Vec3.{Vec3}
use Rattle.pbd_world.specs.Room.{Roomed}
use Rattle.pbd_colour.specs.Pairs.{Coloured}
use Rattle.pbd_grid.specs.Looks.{Searched}
use Rattle.pbd_self.specs.Touching.{AreOrdered}

-- the colouring has the pairs, all live, and there is room for the places and flags of the particles
pub record IsReady (particles : ℕ) (grid : Searched) (pairs : Roomed (ℕ × ℕ)) (colouring : Coloured)
    (places : Roomed Vec3) (held : Roomed Bool) : Type 0 where
  pub few : particles ≤ 65536
  pub grid_size : grid.particles ≡ particles
  pub fits : length pairs.entries ≤ 262144
  pub room : pairs.room ≡ 262144
  pub ordered : AreOrdered particles pairs.entries
  pub coloured : colouring ≡ record { particles = particles; room = 262144; pairs = pairs.entries; live = map (λ pair. true) pairs.entries }
  pub places_room : places.room ≡ particles
  pub held_room : held.room ≡ particles
