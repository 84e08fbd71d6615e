-- Which bytes spell which log, and where other bytes go wrong.
use Rattle.std.specs.Prelude.{◌≡◌, ◌⊎◌, ℕ, ◌+◌, ◌<◌, ◌^◌, ℤ, pos, unsigned_abs, ◌==◌, if◌then◌else◌, IsTrue, List, [], ◌∷◌, ◌++◌, length}
use Rattle.std.specs.List.{flat_map, AllByRecursion}
use Rattle.pbd_world.specs.Valid.{is_limit}
use Rattle.pbd_log.specs.declared.entry.Entry.{Entry}
use Rattle.pbd_log.specs.Entries.{number_bytes, entry_bytes, IsEntry}

-- the name of the format
abbrev pub name : List ℕ
name = 80 ∷ 66 ∷ 68 ∷ 83 ∷ 76 ∷ 79 ∷ 71 ∷ []

abbrev pub IsKnown : ℕ → Type 0
IsKnown version = (version ≡ 1) ⊎ (version ≡ 2)

-- version 1 has the smaller limit, and version 2 says which of the two it has
abbrev pub IsVersion : ℕ → ℤ → Type 0
IsVersion version limit = ((version ≡ 1) × (limit ≡ pos 268435456)) ⊎ ((version ≡ 2) × IsTrue (is_limit limit))

-- the name, the version, and in version 2 the limit
unfoldable pub opening_bytes : ℕ → ℤ → List ℕ
opening_bytes version limit =
    if version == 1 then name ++ 1 ∷ []
    else name ++ 2 ∷ number_bytes 8 (unsigned_abs limit)

-- the header of a scene of this length
unfoldable pub header_bytes : ℕ → ℤ → ℕ → List ℕ
header_bytes version limit len = opening_bytes version limit ++ number_bytes 4 len

-- a zero, and the number of entries
unfoldable pub end_bytes : ℕ → List ℕ
end_bytes count = 0 ∷ number_bytes 8 count

-- the bytes are those of a log with this version, limit, scene and entries, and nothing follows
pub record Spells (bytes : List ℕ) (version : ℕ) (limit : ℤ) (scene : List ℕ) (entries : List Entry) : Type 0 where
  pub known : IsVersion version limit
  pub short : length scene < 2 ^ 32
  pub each : AllByRecursion IsEntry entries
  pub counted : length entries < 2 ^ 64
  pub whole : bytes ≡ header_bytes version limit (length scene) ++ scene ++ flat_map entry_bytes entries ++ end_bytes (length entries)

-- a log as a value
pub record Log : Type 0 where
  pub version : ℕ
  pub limit : ℤ
  pub scene : List ℕ
  pub entries : List Entry

-- no version, limit, scene and entries are spelled by the bytes
abbrev pub SpellsNothing : List ℕ → Type 0
SpellsNothing bytes = (version : ℕ) (limit : ℤ) (scene : List ℕ) (entries : List Entry) → Spells bytes version limit scene entries → ⊥

-- ---- where bytes that spell nothing go wrong

-- they don't begin with the name and a known version
pub record FailsInName (bytes : List ℕ) (offset : ℕ) : Type 0 where
  pub none : (version : ℕ) (rest : List ℕ) → IsKnown version → bytes ≡ name ++ version ∷ rest → ⊥
  pub place : offset ≡ 0

-- version 2 stands there, and neither limit follows
pub record FailsInLimit (bytes : List ℕ) (offset : ℕ) : Type 0 where
  pub rest : List ℕ
  pub named : bytes ≡ name ++ 2 ∷ rest
  pub none : (limit : ℤ) (more : List ℕ) → IsTrue (is_limit limit) → rest ≡ number_bytes 8 (unsigned_abs limit) ++ more → ⊥
  pub place : offset ≡ 8

-- no length follows, or fewer bytes than it says
pub record FailsInScene (bytes : List ℕ) (offset : ℕ) : Type 0 where
  pub version : ℕ
  pub limit : ℤ
  pub rest : List ℕ
  pub known : IsVersion version limit
  pub opened : bytes ≡ opening_bytes version limit ++ rest
  pub none : (scene more : List ℕ) → length scene < 2 ^ 32 → rest ≡ number_bytes 4 (length scene) ++ scene ++ more → ⊥
  pub place : offset ≡ (if version == 1 then 8 else 16)

-- the rest doesn't begin with an entry
abbrev pub BeginsNoEntry : List ℕ → Type 0
BeginsNoEntry rest = (e : Entry) (more : List ℕ) → IsEntry e → rest ≡ entry_bytes e ++ more → ⊥

-- the rest of so many bytes in all isn't the end with this number: either it doesn't begin with it, or bytes follow it
abbrev pub FailsToEnd : ℕ → ℕ → List ℕ → ℕ → Type 0
FailsToEnd total count rest offset =
    (((more : List ℕ) → rest ≡ end_bytes count ++ more → ⊥) × (offset + length rest ≡ total))
    ⊎ ((more : List ℕ) × (rest ≡ end_bytes count ++ more) × (0 < length more) × (offset + length more ≡ total))

-- behind the scene stand entries, or none, and then neither an entry nor the end of the log with nothing behind it
pub record FailsBehind (bytes : List ℕ) (offset : ℕ) : Type 0 where
  pub version : ℕ
  pub limit : ℤ
  pub scene : List ℕ
  pub entries : List Entry
  pub rest : List ℕ
  pub known : IsVersion version limit
  pub short : length scene < 2 ^ 32
  pub each : AllByRecursion IsEntry entries
  pub parts : bytes ≡ header_bytes version limit (length scene) ++ scene ++ (flat_map entry_bytes entries ++ rest)
  pub no_entry : BeginsNoEntry rest
  pub no_end : FailsToEnd (length bytes) (length entries) rest offset

-- the offset of a refused log: where it first goes wrong, read from the left
abbrev pub IsFault : List ℕ → ℕ → Type 0
IsFault bytes offset = FailsInName bytes offset ⊎ (FailsInLimit bytes offset ⊎ (FailsInScene bytes offset ⊎ FailsBehind bytes offset))
