-- What a tree of TOML means as a scene, or the first rule that it breaks.
use Rattle.std.specs.Prelude.{ℕ, ◌+◌, ℤ, pos, List, [], ◌++◌, length, map, fold, Result, Ok, Option, Some, None, ◌≡◌, ◌⊎◌, IsErrAnd, nat_le}
use Rattle.toml.specs.Data.{Members}
use Rattle.pbd_num.specs.Vectors.{zero_vector}
use Rattle.pbd_world.specs.declared.parts.Particle.{Particle}
use Rattle.pbd_world.specs.declared.parts.Track.{Track}
use Rattle.pbd_world.specs.declared.parts.Parts.{Parts}
use Rattle.pbd_world.specs.Shapes.{with_shapes}
use Rattle.pbd_world.specs.World.{no_parts}
use Rattle.pbd_mesh.specs.declared.spec.ClothSpec.{ClothSpec}
use Rattle.pbd_mesh.specs.declared.spec.RopeSpec.{RopeSpec}
pub use Rattle.pbd_mesh.specs.Cloth.{with_cloth}
pub use Rattle.pbd_mesh.specs.Rope.{with_rope}
use Rattle.pbd_scene.specs.declared.raw.LinkEntry.{LinkEntry}
use Rattle.pbd_scene.specs.declared.raw.TrackEntry.{TrackEntry}
use Rattle.pbd_scene.specs.declared.raw.Numbers.{Numbers}
use Rattle.pbd_scene.specs.declared.raw.Settings.{Settings}
use Rattle.pbd_scene.specs.declared.raw.Tables.{Tables}
use Rattle.pbd_scene.specs.declared.fault.SceneRule.TheVariants.{TooMany}
use Rattle.pbd_scene.specs.declared.fault.Place.{Place}
use Rattle.pbd_scene.specs.declared.tables.TableName.TheVariants as tables
use Rattle.pbd_scene.specs.declared.tables.KeyName.TheVariants as keys
use Rattle.pbd_scene.specs.declared.fault.SceneFault.{SceneFault}
use Rattle.pbd_scene.specs.declared.fault.SceneFault.TheVariants as faults
use Rattle.pbd_scene.specs.Keys.{known}
use Rattle.pbd_scene.specs.Checks.{Checked, expect, ◌>>=◌, each, Gives}
use Rattle.pbd_scene.specs.Values.{at, integers_of, vector_or, count_or, integer_or, table_of}
use Rattle.pbd_scene.specs.Entries.{particle_of, cloth_of, rope_of, link_of, shape_lists_of, track_of, all_cloths_size}
use Rattle.pbd_scene.specs.Naming.{all_links, pinned, placed_track, holding}

abbrev pub at_scene : Place
at_scene = at tables.Scene 0

-- an array of at most 65,536 integers, none where the key isn't there
unfoldable pub pins_of : Members → Checked (List ℤ)
pins_of ms = do
  ns ← integers_of at_scene keys.Pins ms
  _ ← expect (nat_le (length ns) 65536) TooMany at_scene keys.Pins
  Ok ns

-- the scene's own numbers
unfoldable pub numbers_of : Members → Checked Numbers
numbers_of ms = do
  passes ← count_or at_scene keys.Passes 0 64 1 ms
  damping ← integer_or at_scene keys.Damping (pos 0) (pos 1024) (pos 0) ms
  thickness ← integer_or at_scene keys.Thickness (pos 0) (pos 1048576) (pos 0) ms
  friction ← integer_or at_scene keys.Friction (pos 0) (pos 256) (pos 0) ms
  Ok (record { passes = passes; damping = damping; thickness = thickness; friction = friction })

-- the scene's own keys
unfoldable pub settings_of : ℤ → Members → Checked Settings
settings_of limit ms = do
  _ ← known at_scene ms
  gravity ← vector_or at_scene keys.Gravity limit zero_vector ms
  numbers ← numbers_of ms
  pins ← pins_of ms
  Ok (record { gravity = gravity; numbers = numbers; pins = pins })

-- the entries of each table, where so many particles stand before the meshes of a table
unfoldable pub particles_of : ℤ → Members → Checked (List Particle)
particles_of limit ms = table_of tables.Particle 65536 (λ _. particle_of limit) ms

unfoldable pub cloths_of : ℤ → ℕ → Members → Checked (List ClothSpec)
cloths_of limit count ms = table_of tables.Cloth 64 (cloth_of limit count) ms

unfoldable pub ropes_of : ℤ → ℕ → Members → Checked (List RopeSpec)
ropes_of limit count ms = table_of tables.Rope 64 (rope_of limit count) ms

unfoldable pub links_of : ℤ → Members → Checked (List LinkEntry)
links_of limit ms = table_of tables.Link 524288 (λ _. link_of limit) ms

unfoldable pub tracks_of : ℤ → Members → Checked (List TrackEntry)
tracks_of limit ms = table_of tables.Track 4096 (λ _. track_of limit) ms

-- the tables, one after another
unfoldable pub tables_of : ℤ → Members → Checked Tables
tables_of limit ms = do
  particles ← particles_of limit ms
  cloths ← cloths_of limit (length particles) ms
  ropes ← ropes_of limit (length particles + all_cloths_size cloths) ms
  links ← links_of limit ms
  shapes ← shape_lists_of limit ms
  tracks ← tracks_of limit ms
  Ok (record { particles = particles; cloths = cloths; ropes = ropes; links = links; shapes = shapes; tracks = tracks })

-- parts that have so many particles more, and the same limit
pub record IsGrown (old now : Parts) (more : ℕ) : Type 0 where
  pub limit : now.limit ≡ old.limit
  pub particles : length now.particles ≡ length old.particles + more

-- the parts without meshes, links and tracks
abbrev pub plain_parts : ℤ → Settings → Tables → Parts
plain_parts limit s t = with_shapes t.shapes (record (no_parts limit) {
  particles = t.particles;
  gravity = s.gravity;
  passes = s.numbers.passes;
  damping = s.numbers.damping;
  thickness = s.numbers.thickness;
  friction = s.numbers.friction;
})

-- the same with the particles and links of the cloths and then of the ropes
unfoldable pub with_meshes : ℤ → Settings → Tables → Parts
with_meshes limit s t = fold with_rope (fold with_cloth (plain_parts limit s t) t.cloths) t.ropes

-- the particles that `pins` and the tracks name
abbrev pub named : List ℕ → List Track → List ℕ
named pins tracks = pins ++ map (λ t. t.particle) tracks

-- the parts with these tracks, where the particles that `pins` and the tracks name are held, at rest where they are
abbrev pub with_tracks : List ℕ → Parts → List Track → Parts
with_tracks held parts tracks = record parts { particles = holding (named held tracks) 0 parts.particles; tracks = tracks }

-- the links that the entries name, then the pins, and then the tracks
unfoldable pub with_entries : List ℤ → List LinkEntry → List TrackEntry → Parts → Checked Parts
with_entries pins link_entries track_entries parts = do
  links ← all_links parts.particles parts.links link_entries
  held ← each (pinned (length parts.particles)) [] pins
  tracks ← each (placed_track (length parts.particles)) [] track_entries
  Ok (with_tracks held (record parts { links = links }) tracks)

-- the scene's own keys, its tables, and at last what their entries name
unfoldable pub scene_of : ℤ → Members → Checked Parts
scene_of limit ms = do
  s ← settings_of limit ms
  t ← tables_of limit ms
  with_entries s.pins t.links t.tracks (with_meshes limit s t)

-- What `read_scene` returns of a text that reads as this tree: no scene but that of the tree, and no fault but the first
-- broken rule, or that there is no tree, unless memory ran out.
abbrev pub Reads : ℤ → Result Parts SceneFault → Option Members → Type 0
Reads limit r (Some tree) = Gives (λ parts. parts) r (scene_of limit tree)
Reads limit r None = IsErrAnd r (λ e. (e ≡ faults.NotToml) ⊎ (e ≡ faults.OutOfMemory))
