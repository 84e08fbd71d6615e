-- What opening answers, and why it opened nothing.
use Rattle.std.specs.Prelude.{◌≡◌, ◌⊎◌, ⊤, ℕ, ◌<◌, ◌≤◌, ◌^◌, ℤ, pos, List, length, slice_get, Option, Some, None, Ok}
use Rattle.std.specs.Str.{IsUtf8}
use Rattle.toml.specs.Data.{Members}
use Rattle.toml.specs.Parse.{parse_document}
use Rattle.pbd_world.specs.declared.parts.Parts.{Parts}
use Rattle.pbd_world.specs.World.{opened}
use Rattle.pbd_scene.specs.declared.tables.TableName.{TableName}
use Rattle.pbd_scene.specs.declared.tables.KeyName.{KeyName}
use Rattle.pbd_scene.specs.declared.fault.SceneRule.{SceneRule}
use Rattle.pbd_scene.specs.declared.fault.SceneFault.{SceneFault}
use Rattle.pbd_scene.specs.declared.fault.SceneFault.TheVariants.{NotToml, Refused, OutOfMemory}
use Rattle.pbd_scene.specs.Checks.{broken}
use Rattle.pbd_scene.specs.Keys.{rule_number, table_names, key_names}
use Rattle.pbd_scene.specs.Scene.{scene_of}
use Rattle.pbd_cloth.specs.Slots.{Slotted, begun}
use Rattle.lakmozet_c.specs.declared.plain.Fault.{Fault}
use Rattle.lakmozet_c.specs.declared.opening.NoCloth.{NoCloth}
use Rattle.lakmozet_c.specs.declared.opening.NoCloth.TheVariants.{TooManySlots, NotText, NoToml, NoScene}
use Rattle.lakmozet_c.specs.Calls.{in_use, no_slot, status}

-- ---- why nothing was opened

-- the status that the program has for it, or that there are too many slots
abbrev pub stop_number : NoCloth → ℕ
stop_number TooManySlots = no_slot
stop_number NotText = status 6
stop_number (NoToml offset) = status 7
stop_number (NoScene NotToml) = status 7
stop_number (NoScene (Refused rule table position key)) = status 8
stop_number (NoScene OutOfMemory) = status 12

abbrev pub nothing_wrong : Fault
nothing_wrong = record { offset = 0; position = 0; rule = 0; table = 0; key = 0 }

-- a broken rule is told, with the numbers of its table and of its key
pub record TellsRule (r : SceneRule) (t : TableName) (at : ℕ) (k : KeyName) (f : Fault) : Type 0 where
  pub offset : f.offset ≡ 0
  pub position : f.position ≡ at
  pub rule : f.rule ≡ rule_number r
  pub table : slice_get table_names f.table ≡ Some t
  pub key : slice_get key_names f.key ≡ Some k

-- it is told where the text stops being TOML, or the broken rule, if one of these is the reason
abbrev pub TellsWhy : NoCloth → Fault → Type 0
TellsWhy (NoToml offset) f = f ≡ record nothing_wrong { offset = offset }
TellsWhy (NoScene (Refused rule table position key)) f = TellsRule rule table position key f
TellsWhy why f = f ≡ nothing_wrong

-- the parts of the scene that a text is, read with a limit, which reads as this tree
abbrev pub IsSceneIn : ℤ → Option Members → Parts → Type 0
IsSceneIn limit (Some tree) parts = scene_of limit tree ≡ Ok parts
IsSceneIn limit None parts = ⊥

-- read with the limit 2^29, as wherever no log says another
abbrev pub IsScene : Option Members → Parts → Type 0
IsScene tree parts = IsSceneIn (pos (2 ^ 29)) tree parts

-- why a text, read with a limit, which reads as this tree, or as none, is no scene: the first broken rule, or that it reads as no
-- tree; only want of memory is told without a reason
abbrev pub IsFaultIn : ℤ → Option Members → SceneFault → Type 0
IsFaultIn limit (Some tree) (Refused rule table position key) =
    scene_of limit tree ≡ broken rule (record { table = table; position = position }) key
IsFaultIn limit None NotToml = ⊤
IsFaultIn limit tree OutOfMemory = ⊤
IsFaultIn limit tree fault = ⊥

-- the reason holds of these bytes, read with a limit, and slots. Where bytes are no TOML, it is told with a place within them.
abbrev pub IsWhyIn : ℤ → List ℕ → ℕ → NoCloth → Type 0
IsWhyIn limit bytes slots TooManySlots = 16 < slots
IsWhyIn limit bytes slots NotText = IsUtf8 bytes → ⊥
IsWhyIn limit bytes slots (NoToml offset) = IsUtf8 bytes × (parse_document bytes ≡ None) × (offset ≤ length bytes)
IsWhyIn limit bytes slots (NoScene NotToml) = ⊥
IsWhyIn limit bytes slots (NoScene fault) = IsUtf8 bytes × IsFaultIn limit (parse_document bytes) fault

-- read with the limit 2^29
abbrev pub IsWhy : List ℕ → ℕ → NoCloth → Type 0
IsWhy bytes slots why = IsWhyIn (pos (2 ^ 29)) bytes slots why

-- ---- what opening does

-- the world of the scene that the bytes spell, before its first command, which is in each slot too
pub record IsOpened (bytes : List ℕ) (slots : ℕ) (cloth : Slotted) : Type 0 where
  pub text : IsUtf8 bytes
  pub parts : Parts
  pub accepted : IsScene (parse_document bytes) parts
  pub few : slots ≤ 16
  pub first : cloth ≡ begun (opened parts) slots

-- it is open now, and no fault is told
pub record Opens (bytes : List ℕ) (slots : ℕ) (held : Option Slotted) (answer : ℤ) (before fault : Fault) : Type 0 where
  pub done : answer ≡ pos 0
  pub cloth : Slotted
  pub holds : held ≡ Some cloth
  pub opened : IsOpened bytes slots cloth
  pub place : fault ≡ before

-- it is still closed, for a reason that is told
pub record StaysClosed (bytes : List ℕ) (slots : ℕ) (held : Option Slotted) (answer : ℤ) (fault : Fault) : Type 0 where
  pub nothing : held ≡ None
  pub why : NoCloth
  pub reason : IsWhy bytes slots why
  pub number : answer ≡ pos (stop_number why)
  pub place : TellsWhy why fault

-- what opening does to what a handle held: an open one stays as it is, and no fault is told
abbrev pub OpensOr : Option Slotted → List ℕ → ℕ → Option Slotted → ℤ → Fault → Fault → Type 0
OpensOr (Some cloth) bytes slots held answer before fault = (answer ≡ pos in_use) × (held ≡ Some cloth) × (fault ≡ before)
OpensOr None bytes slots held answer before fault = Opens bytes slots held answer before fault ⊎ StaysClosed bytes slots held answer fault
