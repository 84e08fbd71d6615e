-- What a grid keeps.
use Rattle.std.specs.Prelude.{◌≡◌, ◌<◌, ◌≤◌, ℕ, length}
use Rattle.pbd_chain.specs.Linked.{Linked}
use Rattle.pbd_world.specs.Room.{Roomed}
use Rattle.pbd_grid.specs.declared.lookup.GridCell.{GridCell}

pub record IsReady (particles : ℕ) (chains : Linked) (count : ℕ) (cubes : Roomed GridCell) (found : Roomed ℕ) : Type 0 where
  pub few : particles ≤ 65536
  pub some : 0 < count
  pub counted : length chains.chains ≡ count
  pub items : chains.items ≡ particles
  pub cubes_room : cubes.room ≡ particles
  pub room : found.room ≡ particles
