-- What the calls below `read_scene` do: the rule of a scene from some point on.
use Rattle.std.specs.Prelude.{ℕ, ℤ, List, [], length, Ok}
use Rattle.toml.specs.Data.{Members}
use Rattle.pbd_world.specs.declared.parts.Parts.{Parts}
use Rattle.pbd_scene.specs.declared.raw.TrackEntry.{TrackEntry}
use Rattle.pbd_scene.specs.declared.raw.Settings.{Settings}
use Rattle.pbd_scene.specs.Checks.{Checked, ◌>>=◌, each}
use Rattle.pbd_scene.specs.Naming.{pinned, placed_track}
use Rattle.pbd_scene.specs.Scene.{tables_of, with_meshes, with_tracks, with_entries}

-- from the tracks on, where the pins name these
unfoldable pub from_tracks : List ℕ → List TrackEntry → Parts → Checked Parts
from_tracks held track_entries parts = do
  tracks ← each (placed_track (length parts.particles)) [] track_entries
  Ok (with_tracks held parts tracks)

-- from the pins on
unfoldable pub from_pins : List ℤ → List TrackEntry → Parts → Checked Parts
from_pins pins track_entries parts = do
  held ← each (pinned (length parts.particles)) [] pins
  from_tracks held track_entries parts

-- from the tables on, with the scene's own keys
unfoldable pub from_tables : ℤ → Settings → Members → Checked Parts
from_tables limit s ms = do
  t ← tables_of limit ms
  with_entries s.pins t.links t.tracks (with_meshes limit s t)
