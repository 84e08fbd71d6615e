-- What a colouring keeps of its lists.
use Rattle.std.specs.Prelude.{◌≡◌, ℕ, ◌*◌, ◌≤◌, Bool, IsFalse, length}
use Rattle.pbd_chain.specs.Linked.{Linked}
use Rattle.pbd_world.specs.Room.{Roomed}
use Rattle.pbd_world.specs.Colours.{live_at}
use Rattle.pbd_colour.specs.Pairs.{InRange}
use Rattle.pbd_colour.specs.Held.{Holds}
use Rattle.pbd_colour.specs.Toward.{AreTold}
use Rattle.pbd_colour.specs.Coloured.{IsColoured}

pub record IsKept (particles room : ℕ) (pairs : Roomed (ℕ × ℕ)) (live marks : Roomed Bool)
    (colours used toward order starts : Roomed ℕ) (chains : Linked) : Type 0 where
  pub few : room ≤ 524288
  pub within : length pairs.entries ≤ room
  pub pairs_room : pairs.room ≡ room
  pub live_room : live.room ≡ room
  pub marks_room : marks.room ≡ room
  pub colours_room : colours.room ≡ room
  pub order_room : order.room ≡ room
  pub live_length : length live.entries ≡ length pairs.entries
  pub marks_length : length marks.entries ≡ length pairs.entries
  pub unmarked : (k : ℕ) → IsFalse (live_at marks.entries k)
  pub colours_length : length colours.entries ≡ length pairs.entries
  pub used_length : length used.entries ≡ particles
  pub toward_length : length toward.entries ≡ particles
  pub starts_length : length starts.entries ≡ 65
  pub in_range : InRange particles pairs.entries
  pub coloured : IsColoured pairs.entries live.entries colours.entries order.entries starts.entries
  pub told : AreTold pairs.entries toward.entries
  pub held : Holds (live_at live.entries) particles (2 * room) pairs.entries chains
