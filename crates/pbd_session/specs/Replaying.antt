-- A log against the session that its commands give again.
use Rattle.std.specs.Prelude.{ℕ, ◌+◌, ℤ, pos, Bool, not, if◌then◌else◌, codes, decimal, List, [], ◌∷◌, ◌++◌, map, slice_index_or, Option}
use Rattle.std.specs.Prelude.{Some, None}
use Rattle.std.specs.List.{find}
use Rattle.std.specs.Ordering.{int_eq}
use Rattle.std.specs.Fmt.{signed_decimal}
use Rattle.pbd_world.specs.declared.command.Command.{Command}
use Rattle.pbd_world.specs.declared.command.Reply.{Reply}
use Rattle.pbd_world.specs.declared.command.FrameSums.{FrameSums}
use Rattle.pbd_world.specs.World.{World}
use Rattle.pbd_world.specs.Meaning.{after, reply}
use Rattle.pbd_world.specs.Text.{line, text}
use Rattle.pbd_world.specs.Session.{is_refused}
use Rattle.pbd_world.specs.Replay.{entry}
use Rattle.pbd_log.specs.declared.entry.Answer.{Answer}
use Rattle.pbd_log.specs.declared.entry.Entry.{Entry}
use Rattle.pbd_log.specs.Entries.{entry_of}
use Rattle.pbd_session.specs.declared.ending.Field.{Field}
use Rattle.pbd_session.specs.declared.ending.Field.TheVariants as fields
use Rattle.pbd_session.specs.declared.ending.Compared.{Compared}
use Rattle.pbd_session.specs.declared.ending.ReplayEnd.{ReplayEnd}
use Rattle.pbd_session.specs.declared.ending.ReplayEnd.TheVariants.{Done, Mismatch}

-- ---- where two entries differ

abbrev pub against : Field → ℤ → ℤ → Compared
against field recorded found = record { field = field; recorded = recorded; found = found }

abbrev pub axis : List ℤ → ℕ → ℤ
axis axes i = slice_index_or axes i (pos 0)

-- the fields of a recorded and a found answer, in the order of their comparison
abbrev pub compared_answers : Answer → Answer → List Compared
compared_answers a b =
    against fields.Answer (pos a.number) (pos b.number)
    ∷ against fields.Step (pos a.step) (pos b.step)
    ∷ against fields.Phase (pos a.phase) (pos b.phase)
    ∷ against fields.Element (pos a.element) (pos b.element)
    ∷ []

-- the fields of recorded and found sums, in the order of their comparison
abbrev pub compared_sums : FrameSums → FrameSums → List Compared
compared_sums s t =
    against fields.Steps (pos s.steps) (pos t.steps)
    ∷ against fields.Live (pos s.live) (pos t.live)
    ∷ against fields.Contacts (pos s.contacts) (pos t.contacts)
    ∷ against fields.X (axis s.at 0) (axis t.at 0)
    ∷ against fields.Y (axis s.at 1) (axis t.at 1)
    ∷ against fields.Z (axis s.at 2) (axis t.at 2)
    ∷ against fields.BeforeX (axis s.before 0) (axis t.before 0)
    ∷ against fields.BeforeY (axis s.before 1) (axis t.before 1)
    ∷ against fields.BeforeZ (axis s.before 2) (axis t.before 2)
    ∷ []

-- the sums of two entries, where both have some
abbrev pub compared_where_both : Option FrameSums → Option FrameSums → List Compared
compared_where_both (Some s) (Some t) = compared_sums s t
compared_where_both (Some s) None = []
compared_where_both None found = []

abbrev pub differs : Compared → Bool
differs c = not (int_eq c.recorded c.found)

-- the first field that differs
abbrev pub first_difference : List Compared → Option Compared
first_difference compared = find differs compared

-- where a recorded entry and a found one differ first
unfoldable pub difference : Entry → Entry → Option Compared
difference recorded found = first_difference (compared_answers recorded.answer found.answer ++ compared_where_both recorded.sums found.sums)

-- ---- the line of a mismatch

abbrev pub field_name : Field → List ℕ
field_name fields.Answer = codes "answer"
field_name fields.Step = codes "step"
field_name fields.Phase = codes "phase"
field_name fields.Element = codes "element"
field_name fields.Steps = codes "steps"
field_name fields.Live = codes "live"
field_name fields.Contacts = codes "contacts"
field_name fields.X = codes "x"
field_name fields.Y = codes "y"
field_name fields.Z = codes "z"
field_name fields.BeforeX = codes "before-x"
field_name fields.BeforeY = codes "before-y"
field_name fields.BeforeZ = codes "before-z"

-- the number of the entry, the field, and both values
unfoldable pub mismatch_line : ℕ → Compared → List ℕ
mismatch_line entry c =
    line (codes "error" ∷ codes "10" ∷ codes "Mismatch" ∷ codes "record" ∷ decimal entry ∷ codes "field" ∷ field_name c.field
    ∷ codes "recorded" ∷ signed_decimal c.recorded ∷ codes "found" ∷ signed_decimal c.found ∷ [])

-- ---- entry after entry

-- what a replay has printed when it ends, how it ended, and the world that it leaves
pub record Replay : Type 0 where
  pub text : List ℕ
  pub ended : ReplayEnd
  pub world : World

-- so many more refusals, where the entries all agreed
abbrev pub with_refused : ℕ → ReplayEnd → ReplayEnd
with_refused n (Done refused) = Done (n + refused)
with_refused n (Mismatch entry field recorded found) = Mismatch entry field recorded found

-- what a log would keep of the same command now
abbrev pub found_now : World → Entry → Entry
found_now w e = entry_of (entry w e.command)

-- A reply is printed where its entry agrees, and the rest follows; at a difference the replay ends with its line. The world
-- is the one after the entry's command.
abbrev pub goes_on : ℕ → World → Reply → Option Compared → Replay → Replay
goes_on n w r None rest = record {
  text = text w r ++ rest.text;
  ended = with_refused (if is_refused r then 1 else 0) rest.ended;
  world = rest.world;
}
goes_on n w r (Some c) rest = record { text = mismatch_line n c; ended = Mismatch n c.field c.recorded c.found; world = w }

-- the replay of entries of which the first has number n
unfoldable pub replayed_from : ℕ → World → List Entry → Replay
replayed_from n w [] = record { text = []; ended = Done 0; world = w }
replayed_from n w (e ∷ es) = goes_on n (after w e.command) (reply w e.command)
    (difference e (found_now w e)) (replayed_from (n + 1) (after w e.command) es)

-- the replay of a log's entries
abbrev pub replayed : World → List Entry → Replay
replayed w entries = replayed_from 1 w entries

abbrev pub commands_of : List Entry → List Command
commands_of entries = map {A = Entry} {B = Command} (λ e. e.command) entries
