-- The names of keys, tables and rules, and which keys a table may have.
use Rattle.std.specs.Prelude.{ℕ, codes, Bool, true, ◌&&◌, ◌||◌, List, [], ◌∷◌, bytes_eq}
use Rattle.std.specs.List.{list_any}
use Rattle.toml.specs.Data.{Members, no_members, member}
use Rattle.pbd_scene.specs.declared.fault.SceneRule.{SceneRule}
use Rattle.pbd_scene.specs.declared.fault.SceneRule.TheVariants as rules
use Rattle.pbd_scene.specs.declared.tables.TableName.{TableName}
use Rattle.pbd_scene.specs.declared.tables.TableName.TheVariants as tables
use Rattle.pbd_scene.specs.declared.tables.KeyName.{KeyName}
use Rattle.pbd_scene.specs.declared.tables.KeyName.TheVariants as keys
use Rattle.pbd_scene.specs.declared.fault.Place.{Place}
use Rattle.pbd_scene.specs.Checks.{Checked, expect}

-- how a key is written
abbrev pub key_text : KeyName → List ℕ
key_text keys.NoKey = codes "-"
key_text keys.Gravity = codes "gravity"
key_text keys.Passes = codes "passes"
key_text keys.Damping = codes "damping"
key_text keys.Thickness = codes "thickness"
key_text keys.Friction = codes "friction"
key_text keys.Pins = codes "pins"
key_text keys.At = codes "at"
key_text keys.Velocity = codes "velocity"
key_text keys.Weight = codes "weight"
key_text keys.Held = codes "held"
key_text keys.Origin = codes "origin"
key_text keys.Across = codes "across"
key_text keys.Down = codes "down"
key_text keys.Rows = codes "rows"
key_text keys.Columns = codes "columns"
key_text keys.Stretch = codes "stretch"
key_text keys.Shear = codes "shear"
key_text keys.Bend = codes "bend"
key_text keys.StretchTear = codes "stretch_tear"
key_text keys.ShearTear = codes "shear_tear"
key_text keys.BendTear = codes "bend_tear"
key_text keys.Spacing = codes "spacing"
key_text keys.Count = codes "count"
key_text keys.A = codes "a"
key_text keys.B = codes "b"
key_text keys.Rest = codes "rest"
key_text keys.Stiffness = codes "stiffness"
key_text keys.Tear = codes "tear"
key_text keys.Normal = codes "normal"
key_text keys.Offset = codes "offset"
key_text keys.Centre = codes "centre"
key_text keys.Radius = codes "radius"
key_text keys.Particle = codes "particle"
key_text keys.Keys = codes "keys"

abbrev pub table_text : TableName → List ℕ
table_text tables.Scene = codes "scene"
table_text tables.Particle = codes "particle"
table_text tables.Cloth = codes "cloth"
table_text tables.Rope = codes "rope"
table_text tables.Link = codes "link"
table_text tables.Plane = codes "plane"
table_text tables.Sphere = codes "sphere"
table_text tables.Track = codes "track"

-- The numbers by which the C interface tells tables and keys: the number of each is its place, from 0. Programs know them, so they stay,
-- and a new one goes behind those that are there, here as among the variants, wherever it is looked at in a scene.
abbrev pub table_names : List TableName
table_names = tables.Scene ∷ tables.Particle ∷ tables.Cloth ∷ tables.Rope ∷ tables.Link ∷ tables.Plane ∷ tables.Sphere ∷ tables.Track ∷ []

-- the keys, five a line
abbrev pub key_names : List KeyName
key_names =
    keys.NoKey ∷ keys.Gravity ∷ keys.Passes ∷ keys.Damping ∷ keys.Thickness ∷
    keys.Friction ∷ keys.Pins ∷ keys.At ∷ keys.Velocity ∷ keys.Weight ∷
    keys.Held ∷ keys.Origin ∷ keys.Across ∷ keys.Down ∷ keys.Rows ∷
    keys.Columns ∷ keys.Stretch ∷ keys.Shear ∷ keys.Bend ∷ keys.StretchTear ∷
    keys.ShearTear ∷ keys.BendTear ∷ keys.Spacing ∷ keys.Count ∷ keys.A ∷
    keys.B ∷ keys.Rest ∷ keys.Stiffness ∷ keys.Tear ∷ keys.Normal ∷
    keys.Offset ∷ keys.Centre ∷ keys.Radius ∷ keys.Particle ∷ keys.Keys ∷ []

abbrev pub rule_number : SceneRule → ℕ
rule_number rules.UnknownKey = 2
rule_number rules.MissingKey = 3
rule_number rules.WrongType = 4
rule_number rules.OutOfRange = 5
rule_number rules.TooMany = 6
rule_number rules.BadIndex = 7
rule_number rules.SelfLink = 8
rule_number rules.DoubleLink = 9
rule_number rules.TooManyAtParticle = 10
rule_number rules.BadTrack = 11

abbrev pub rule_text : SceneRule → List ℕ
rule_text rules.UnknownKey = codes "UnknownKey"
rule_text rules.MissingKey = codes "MissingKey"
rule_text rules.WrongType = codes "WrongType"
rule_text rules.OutOfRange = codes "OutOfRange"
rule_text rules.TooMany = codes "TooMany"
rule_text rules.BadIndex = codes "BadIndex"
rule_text rules.SelfLink = codes "SelfLink"
rule_text rules.DoubleLink = codes "DoubleLink"
rule_text rules.TooManyAtParticle = codes "TooManyAtParticle"
rule_text rules.BadTrack = codes "BadTrack"

-- the keys of an entry of a table, in the order in which they are looked at, and those of the scene that are no table
abbrev pub entry_keys : TableName → List KeyName
entry_keys tables.Scene = keys.Gravity ∷ keys.Passes ∷ keys.Damping ∷ keys.Thickness ∷ keys.Friction ∷ keys.Pins ∷ []
entry_keys tables.Particle = keys.At ∷ keys.Velocity ∷ keys.Weight ∷ keys.Held ∷ []
entry_keys tables.Cloth =
    keys.Origin ∷ keys.Across ∷ keys.Down ∷ keys.Rows ∷ keys.Columns ∷ keys.Weight
    ∷ keys.Stretch ∷ keys.Shear ∷ keys.Bend ∷ keys.StretchTear ∷ keys.ShearTear ∷ keys.BendTear ∷ []
entry_keys tables.Rope =
    keys.Origin ∷ keys.Spacing ∷ keys.Count ∷ keys.Weight ∷ keys.Stretch ∷ keys.Bend ∷ keys.StretchTear ∷ keys.BendTear ∷ []
entry_keys tables.Link = keys.A ∷ keys.B ∷ keys.Rest ∷ keys.Stiffness ∷ keys.Tear ∷ []
entry_keys tables.Plane = keys.Normal ∷ keys.Offset ∷ []
entry_keys tables.Sphere = keys.Centre ∷ keys.Radius ∷ []
entry_keys tables.Track = keys.Particle ∷ keys.Keys ∷ []

-- the tables of a scene, in the order in which they are looked at
abbrev pub all_tables : List TableName
all_tables = tables.Particle ∷ tables.Cloth ∷ tables.Rope ∷ tables.Link ∷ tables.Plane ∷ tables.Sphere ∷ tables.Track ∷ []

abbrev pub is_key_of : List KeyName → List ℕ → Bool
is_key_of names name = list_any (λ key. bytes_eq name (key_text key)) names

abbrev pub is_table_of : List TableName → List ℕ → Bool
is_table_of names name = list_any (λ table. bytes_eq name (table_text table)) names

-- a key that an entry of the table may have; the scene may also have the tables
unfoldable pub is_known : TableName → List ℕ → Bool
is_known tables.Scene name = is_key_of (entry_keys tables.Scene) name || is_table_of all_tables name
is_known table name = is_key_of (entry_keys table) name

unfoldable pub all_known : TableName → Members → Bool
all_known table no_members = true
all_known table (member name d ms) = is_known table name && all_known table ms

-- no key but those of the table
unfoldable pub known : Place → Members → Checked (Unit {0})
known place ms = expect (all_known place.table ms) rules.UnknownKey place keys.NoKey
