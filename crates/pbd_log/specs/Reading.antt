-- Reading from left to right, a field after another.
use Rattle.std.specs.Prelude.{◌≡◌, ℕ, zero, suc, ℤ, pos, List, [], ◌∷◌, length, take, drop, slice_index, bytes_eq, Option, Some, None}
use Rattle.std.specs.Prelude.{Result, Ok, Err, Bool, true, false, ◌&&◌, ◌||◌, nat_lt, nat_le, ◌==◌, if◌then◌else◌}
use Rattle.std.specs.Int.{w64, cast_signed}
use Rattle.byteorder.specs.Endian.{big_number}
use Rattle.pbd_num.specs.declared.Vec3.{Vec3}
use Rattle.pbd_world.specs.declared.command.Command.{Command}
use Rattle.pbd_world.specs.declared.command.OperandKind.{OperandKind}
use Rattle.pbd_world.specs.declared.command.OperandKind.TheVariants as kinds
use Rattle.pbd_world.specs.declared.command.Operands.{Operands}
use Rattle.pbd_world.specs.declared.command.Operands.TheVariants.{Nothing, Number, Vector, NumberAndVector}
use Rattle.pbd_world.specs.Verbs.{row, verb_coded, command_with}
use Rattle.pbd_world.specs.declared.command.FrameSums.{FrameSums}
use Rattle.pbd_log.specs.declared.entry.Answer.{Answer}
use Rattle.pbd_log.specs.declared.entry.Entry.{Entry}
use Rattle.pbd_log.specs.Entries.{plain, leaves, too_many, has_sums}
use Rattle.pbd_log.specs.Logs.{name}

infixl 10 ◌>>=◌
abbrev pub ◌>>=◌ : {A B : Type 0} → Option A → (A → Option B) → Option B
(Some x) >>= f = f x
None >>= f = None

-- What a function returned, seen by view, is what reading gives.
abbrev pub Gives : {X Y : Type 0} → (X → Y) → Option X → Option Y → Type 0
Gives view (Some x) read = read ≡ Some (view x)
Gives view None read = read ≡ None

-- the same where the error is an offset
abbrev pub GivesOr : {X Y E : Type 0} → (X → Y) → (E → ℕ) → Result X E → Result Y ℕ → Type 0
GivesOr view place (Ok x) read = read ≡ Ok (view x)
GivesOr view place (Err e) read = read ≡ Err (place e)

-- A field is a value and the bytes after it.
abbrev pub byte_at : List ℕ → Option (ℕ × List ℕ)
byte_at [] = None
byte_at (b ∷ rest) = Some (b, rest)

-- the number that the big-endian reading of the first n bytes gives
unfoldable pub number_at : ℕ → List ℕ → Option (ℕ × List ℕ)
number_at n bytes = if nat_lt (length bytes) n then None else Some (big_number n bytes, drop n bytes)

unfoldable pub signed_at : List ℕ → Option (ℤ × List ℕ)
signed_at bytes = do
  n ← number_at 8 bytes
  Some (cast_signed w64 n.0, n.1)

unfoldable pub vector_at : List ℕ → Option (Vec3 × List ℕ)
vector_at bytes = do
  x ← signed_at bytes
  y ← signed_at x.1
  z ← signed_at y.1
  Some (record { x = x.0; y = y.0; z = z.0 }, z.1)

-- the operands of a kind
unfoldable pub operands_at : OperandKind → List ℕ → Option (Operands × List ℕ)
operands_at kinds.Nothing bytes = Some (Nothing, bytes)
operands_at kinds.Number bytes = do
  n ← number_at 8 bytes
  Some (Number n.0, n.1)
operands_at kinds.Vector bytes = do
  v ← vector_at bytes
  Some (Vector v.0, v.1)
operands_at kinds.NumberAndVector bytes = do
  n ← number_at 8 bytes
  v ← vector_at n.1
  Some (NumberAndVector n.0 v.0, v.1)

-- a verb's code, and operands of its kind
unfoldable pub command_at : List ℕ → Option (Command × List ℕ)
command_at bytes = do
  code ← byte_at bytes
  verb ← verb_coded code.0
  operands ← operands_at (row verb).kind code.1
  command ← command_with verb operands.0
  Some (command, operands.1)

unfoldable pub leaves_at : List ℕ → Option (Answer × List ℕ)
leaves_at bytes = do
  step ← number_at 8 bytes
  phase ← byte_at step.1
  element ← number_at 4 phase.1
  if nat_lt phase.0 1 then None else (if nat_lt 4 phase.0 then None else Some (leaves step.0 phase.0 element.0, element.1))

unfoldable pub too_many_at : List ℕ → Option (Answer × List ℕ)
too_many_at bytes = do
  step ← number_at 8 bytes
  Some (too_many step.0, step.1)

-- what the answer with this number carries
unfoldable pub carried_at : ℕ → List ℕ → Option (Answer × List ℕ)
carried_at number bytes =
    if nat_le number 10 then Some (plain number, bytes)
    else (if number == 11 then leaves_at bytes
    else (if number == 12 then too_many_at bytes
    else None))

unfoldable pub answer_at : List ℕ → Option (Answer × List ℕ)
answer_at bytes = do
  number ← byte_at bytes
  carried_at number.0 number.1

unfoldable pub axes_at : List ℕ → Option (List ℤ × List ℕ)
axes_at bytes = do
  x ← signed_at bytes
  y ← signed_at x.1
  z ← signed_at y.1
  Some (x.0 ∷ y.0 ∷ z.0 ∷ [], z.1)

unfoldable pub sums_at : List ℕ → Option (FrameSums × List ℕ)
sums_at bytes = do
  steps ← number_at 8 bytes
  live ← number_at 4 steps.1
  contacts ← number_at 4 live.1
  at ← axes_at contacts.1
  before ← axes_at at.1
  Some (record { steps = steps.0; live = live.0; contacts = contacts.0; at = at.0; before = before.0 }, before.1)

-- sums, where they stand
unfoldable pub optional_at : Bool → List ℕ → Option (Option FrameSums × List ℕ)
optional_at false bytes = Some (None, bytes)
optional_at true bytes = do
  sums ← sums_at bytes
  Some (Some sums.0, sums.1)

unfoldable pub entry_at : List ℕ → Option (Entry × List ℕ)
entry_at bytes = do
  command ← command_at bytes
  answer ← answer_at command.1
  sums ← optional_at (has_sums command.0 answer.0.number) answer.1
  Some (record { command = command.0; answer = answer.0; sums = sums.0 }, sums.1)

-- what follows the end, where the end with this number stands here
unfoldable pub after_end : ℕ → List ℕ → Option (List ℕ)
after_end count bytes = do
  zero_byte ← byte_at bytes
  n ← number_at 8 zero_byte.1
  if zero_byte.0 == 0 then (if n.0 == count then Some n.1 else None) else None

-- ---- the entries that stand at the front

abbrev pub then_more : Option (Entry × List ℕ) → (List ℕ → List Entry) → List Entry
then_more None more = []
then_more (Some x) more = x.0 ∷ more x.1

abbrev pub entries_within : ℕ → List ℕ → List Entry
entries_within zero bytes = []
entries_within (suc n) bytes = then_more (entry_at bytes) (entries_within n)

-- as many entries as can be read, one after the other
unfoldable pub entries_of : List ℕ → List Entry
entries_of bytes = entries_within (length bytes) bytes

-- ---- the header and the scene, with the offset of their first fault

pub record Head : Type 0 where
  pub version : ℕ
  pub limit : ℤ
  pub scene : List ℕ
  pub body : List ℕ

-- the name, and 1 or 2
unfoldable pub version_at : List ℕ → Option (ℕ × List ℕ)
version_at bytes =
    if nat_lt (length bytes) 8 then None
    else (if bytes_eq (take 7 bytes) name && (slice_index bytes 7 == 1 || slice_index bytes 7 == 2)
    then Some (slice_index bytes 7, drop 8 bytes) else None)

-- the limit, which version 1 doesn't say
unfoldable pub limit_at : ℕ → List ℕ → Option (ℤ × List ℕ)
limit_at version bytes =
    if version == 1 then Some (pos 268435456, bytes)
    else (do
      n ← number_at 8 bytes
      if n.0 == 268435456 || n.0 == 536870912 then Some (pos n.0, n.1) else None)

-- a length, and so many bytes
unfoldable pub scene_at : List ℕ → Option (List ℕ × List ℕ)
scene_at bytes = do
  n ← number_at 4 bytes
  if nat_lt (length n.1) n.0 then None else Some (take n.0 n.1, drop n.0 n.1)

-- where the length of the scene stands
abbrev pub length_offset : ℕ → ℕ
length_offset version = if version == 1 then 8 else 16

abbrev pub or_at : {A : Type 0} → ℕ → Option A → Result A ℕ
or_at place None = Err place
or_at place (Some x) = Ok x

infixl 10 ◌>>>◌
abbrev pub ◌>>>◌ : {A B : Type 0} → Result A ℕ → (A → Result B ℕ) → Result B ℕ
(Ok x) >>> f = f x
(Err place) >>> f = Err place

unfoldable pub head_at : List ℕ → Result Head ℕ
head_at bytes =
    or_at 0 (version_at bytes) >>> λ version.
    or_at 8 (limit_at version.0 version.1) >>> λ limit.
    or_at (length_offset version.0) (scene_at limit.1) >>> λ scene.
    Ok (record { version = version.0; limit = limit.0; scene = scene.0; body = scene.1 })
