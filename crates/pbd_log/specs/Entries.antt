-- What an entry of the log is, and the one spelling of each.
use Rattle.std.specs.Prelude.{◌≡◌, ◌⊎◌, ⊤, ℕ, ◌≤◌, ◌<◌, ◌^◌, ℤ, Bool, true, false, ◌==◌, if◌then◌else◌, List, [], ◌∷◌, ◌++◌, length, Option}
use Rattle.std.specs.Prelude.{Some, None, IfSome, FitsSigned}
use Rattle.std.specs.Int.{w64, cast_unsigned}
use Rattle.std.specs.List.{flat_map, AllByRecursion}
use Rattle.byteorder.specs.Endian.{big_bytes}
use Rattle.pbd_num.specs.declared.Vec3.{Vec3}
use Rattle.pbd_world.specs.declared.command.Command.{Command}
use Rattle.pbd_world.specs.declared.command.Command.TheVariants.{Step}
use Rattle.pbd_world.specs.declared.command.Phase.{Phase}
use Rattle.pbd_world.specs.declared.command.Phase.TheVariants as phases
use Rattle.pbd_world.specs.declared.command.Refusal.{Refusal}
use Rattle.pbd_world.specs.declared.command.Refusal.TheVariants as refusals
use Rattle.pbd_world.specs.declared.command.Reply.{Reply}
use Rattle.pbd_world.specs.declared.command.Reply.TheVariants as replies
use Rattle.pbd_world.specs.declared.command.FrameSums.{FrameSums}
use Rattle.pbd_world.specs.declared.command.Operands.{Operands}
use Rattle.pbd_world.specs.declared.command.Operands.TheVariants.{Nothing, Number, Vector, NumberAndVector}
use Rattle.pbd_world.specs.Verbs.{row, verb_and_operands}
use Rattle.pbd_world.specs.Meaning.{refusal_number}
use Rattle.pbd_world.specs.Replay.{LogEntry}
use Rattle.pbd_log.specs.declared.entry.Answer.{Answer}
use Rattle.pbd_log.specs.declared.entry.Entry.{Entry}

-- ---- answers

-- an answer that carries nothing
abbrev pub plain : ℕ → Answer
plain number = record { number = number; step = 0; phase = 0; element = 0 }

-- a place left the range: in which step, in which phase, and which element
abbrev pub leaves : ℕ → ℕ → ℕ → Answer
leaves step phase element = record { number = 11; step = step; phase = phase; element = element }

-- there were too many contacts in this step
abbrev pub too_many : ℕ → Answer
too_many step = record { number = 12; step = step; phase = 0; element = 0 }

abbrev pub phase_number : Phase → ℕ
phase_number phases.Predict = 1
phase_number phases.Link = 2
phase_number phases.Contact = 3
phase_number phases.Shape = 4

-- a refusal's number, and what 11 and 12 carry
abbrev pub refusal_answer : Refusal → Answer
refusal_answer (refusals.LeavesRange step phase element) = leaves step (phase_number phase) element
refusal_answer (refusals.TooManyContacts step) = too_many step
refusal_answer refusal = plain (refusal_number refusal)

-- what the log keeps of a reply
abbrev pub answer_of : Reply → Answer
answer_of replies.Done = plain 0
answer_of replies.Frame = plain 0
answer_of replies.Ledger = plain 0
answer_of (replies.Refused refusal) = refusal_answer refusal

-- an answer in the log: 0 to 10 carry nothing, 11 has a phase from 1 to 4, and 12 has a step alone
abbrev pub IsAnswer : Answer → Type 0
IsAnswer a = ((a.number ≤ 10) × (a ≡ plain a.number)) ⊎
    (((1 ≤ a.phase) × (a.phase ≤ 4) × (a ≡ leaves a.step a.phase a.element)) ⊎ (a ≡ too_many a.step))

-- ---- which entries there are

-- sums stand exactly after a step that was done
abbrev pub has_sums : Command → ℕ → Bool
has_sums (Step n) number = number == 0
has_sums command number = false

abbrev pub StandExactly : Bool → Option FrameSums → Type 0
StandExactly b None = b ≡ false
StandExactly b (Some sums) = b ≡ true

-- the log's grammar of an entry
pub record IsGrammatical (e : Entry) : Type 0 where
  pub answer : IsAnswer e.answer
  pub sums : StandExactly (has_sums e.command e.answer.number) e.sums

-- each number is in the range of its type
abbrev pub VectorFits : Vec3 → Type 0
VectorFits v = FitsSigned w64 v.x × FitsSigned w64 v.y × FitsSigned w64 v.z

abbrev pub OperandsFit : Operands → Type 0
OperandsFit Nothing = ⊤
OperandsFit (Number n) = n < 2 ^ 64
OperandsFit (Vector v) = VectorFits v
OperandsFit (NumberAndVector n v) = (n < 2 ^ 64) × VectorFits v

abbrev pub CommandFits : Command → Type 0
CommandFits c = OperandsFit (verb_and_operands c).1

-- three numbers, an axis each
abbrev pub AreAxes : List ℤ → Type 0
AreAxes zs = (length zs ≡ 3) × AllByRecursion (FitsSigned w64) zs

pub record SumsFit (s : FrameSums) : Type 0 where
  pub steps : s.steps < 2 ^ 64
  pub live : s.live < 2 ^ 32
  pub contacts : s.contacts < 2 ^ 32
  pub at : AreAxes s.at
  pub before : AreAxes s.before

pub record HasWidths (e : Entry) : Type 0 where
  pub command : CommandFits e.command
  pub step : e.answer.step < 2 ^ 64
  pub element : e.answer.element < 2 ^ 32
  pub sums : IfSome e.sums SumsFit

-- an entry of a log
abbrev pub IsEntry : Entry → Type 0
IsEntry e = IsGrammatical e × HasWidths e

-- what the log writes of a command that a session keeps
abbrev pub entry_of : LogEntry → Entry
entry_of kept = record { command = kept.command; answer = answer_of kept.answer; sums = kept.sums }

-- ---- their bytes

-- a number in n bytes, the highest first
unfoldable pub number_bytes : ℕ → ℕ → List ℕ
number_bytes n x = big_bytes n x

-- a signed number in eight bytes, as two's complement
unfoldable pub signed_bytes : ℤ → List ℕ
signed_bytes z = number_bytes 8 (cast_unsigned w64 z)

unfoldable pub vector_bytes : Vec3 → List ℕ
vector_bytes v = signed_bytes v.x ++ signed_bytes v.y ++ signed_bytes v.z

abbrev pub operand_bytes : Operands → List ℕ
operand_bytes Nothing = []
operand_bytes (Number n) = number_bytes 8 n
operand_bytes (Vector v) = vector_bytes v
operand_bytes (NumberAndVector n v) = number_bytes 8 n ++ vector_bytes v

-- the code of its row, and its operands
unfoldable pub command_bytes : Command → List ℕ
command_bytes c = (row (verb_and_operands c).0).code ∷ operand_bytes (verb_and_operands c).1

-- the number, and what 11 and 12 carry
unfoldable pub answer_bytes : Answer → List ℕ
answer_bytes a =
    if a.number == 11 then 11 ∷ number_bytes 8 a.step ++ a.phase ∷ number_bytes 4 a.element
    else (if a.number == 12 then 12 ∷ number_bytes 8 a.step else a.number ∷ [])

unfoldable pub axes_bytes : List ℤ → List ℕ
axes_bytes zs = flat_map signed_bytes zs

unfoldable pub sums_bytes : FrameSums → List ℕ
sums_bytes s = number_bytes 8 s.steps ++ number_bytes 4 s.live ++ number_bytes 4 s.contacts ++ axes_bytes s.at ++ axes_bytes s.before

abbrev pub optional_bytes : Option FrameSums → List ℕ
optional_bytes None = []
optional_bytes (Some s) = sums_bytes s

unfoldable pub entry_bytes : Entry → List ℕ
entry_bytes e = command_bytes e.command ++ answer_bytes e.answer ++ optional_bytes e.sums
