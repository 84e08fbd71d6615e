-- What holds of the spelling whatever is written or read.
use Rattle.std.specs.Prelude.{◌≡◌, ◌↔◌, ℕ, ◌<◌, ◌^◌, ℤ, IsTrue, List, [], ◌++◌, length, map, slice_index}
use Rattle.std.specs.List.{flat_map, AllByRecursion}
use Rattle.byteorder.specs.Endian.{big_number}
use Rattle.pbd_world.specs.declared.command.Command.{Command}
use Rattle.pbd_world.specs.Valid.{is_limit}
use Rattle.pbd_world.specs.World.{World}
use Rattle.pbd_world.specs.Replay.{LogEntry, entry, logged}
use Rattle.pbd_log.specs.declared.entry.Entry.{Entry}
use Rattle.pbd_log.specs.Entries.{number_bytes, entry_bytes, entry_of, IsEntry, IsGrammatical}
use Rattle.pbd_log.specs.Logs.{header_bytes, end_bytes, Spells, SpellsNothing, IsFault}

abbrev pub IsBytes : List ℕ → Type 0
IsBytes bytes = (i : ℕ) → slice_index bytes i < 256

-- no other n bytes have the value of these
abbrev pub DifferentBytesDiffer : Type 0
DifferentBytesDiffer = (n : ℕ) (xs ys : List ℕ) → IsBytes xs → IsBytes ys → length xs ≡ n → length ys ≡ n
    → big_number n xs ≡ big_number n ys → xs ≡ ys

-- the n bytes of a number are those whose big-endian reading it is
abbrev pub FieldIsItsReading : Type 0
FieldIsItsReading = (n x : ℕ) (xs : List ℕ) → IsBytes xs → x < 256 ^ n → (xs ≡ number_bytes n x) ↔ ((length xs ≡ n) × (big_number n xs ≡ x))

-- the parts that a writer writes, one after the other, spell their log
abbrev pub PartsSpellTheirLog : Type 0
PartsSpellTheirLog = (limit : ℤ) (scene : List ℕ) (entries : List Entry) → IsTrue (is_limit limit)
    → length scene < 2 ^ 32 → AllByRecursion IsEntry entries → length entries < 2 ^ 64 →
    Spells ((header_bytes 2 limit (length scene) ++ scene) ++ flat_map entry_bytes entries ++ end_bytes (length entries))
    2 limit scene entries

-- bytes spell at most one log
pub record SameLog (version version' : ℕ) (limit limit' : ℤ) (scene scene' : List ℕ) (entries entries' : List Entry) : Type 0 where
  pub same_version : version ≡ version'
  pub same_limit : limit ≡ limit'
  pub same_scene : scene ≡ scene'
  pub same_entries : entries ≡ entries'

abbrev pub OneReading : Type 0
OneReading = (bytes : List ℕ) (version version' : ℕ) (limit limit' : ℤ) (scene scene' : List ℕ) (entries entries' : List Entry) →
    Spells bytes version limit scene entries → Spells bytes version' limit' scene' entries'
    → SameLog version version' limit limit' scene scene' entries entries'

-- where the bytes of two entries begin alike they are the same entry
abbrev pub NoEntryBeginsAnother : Type 0
NoEntryBeginsAnother = (e f : Entry) (more rest : List ℕ) → IsEntry e → IsEntry f
    → entry_bytes e ++ more ≡ entry_bytes f ++ rest → (e ≡ f) × (more ≡ rest)

-- so no entry's bytes are a proper prefix of another's
abbrev pub NoProperPrefix : Type 0
NoProperPrefix = (e f : Entry) (more : List ℕ) → IsEntry e → IsEntry f → entry_bytes f ≡ entry_bytes e ++ more → more ≡ []

-- bytes have at most one offset at which they go wrong
abbrev pub OneFault : Type 0
OneFault = (bytes : List ℕ) (offset place : ℕ) → IsFault bytes offset → IsFault bytes place → offset ≡ place

-- and where they have one they are no log
abbrev pub NoLogHasAFault : Type 0
NoLogHasAFault = (bytes : List ℕ) (offset : ℕ) → IsFault bytes offset → SpellsNothing bytes

-- what a session keeps of a command is written in the log's grammar
abbrev pub KeptEntryIsGrammatical : Type 0
KeptEntryIsGrammatical = (w : World) (command : Command) → IsGrammatical (entry_of (entry w command))

abbrev pub LoggedEntriesAreGrammatical : Type 0
LoggedEntriesAreGrammatical = (w : World) (commands : List Command)
    → AllByRecursion IsGrammatical (map {A = LogEntry} {B = Entry} entry_of (logged w commands))
