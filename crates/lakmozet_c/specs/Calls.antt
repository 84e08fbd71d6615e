-- What the calls answer, and what a handle holds after them.
use Rattle.std.specs.Prelude.{◌≡◌, ⊤, ℕ, ◌+◌, ℤ, pos, nat_le, nat_lt, if◌then◌else◌, List, length, Option, Some, None}
use Rattle.pbd_num.specs.declared.Vec3.{Vec3}
use Rattle.pbd_world.specs.declared.command.Command.{Command}
use Rattle.pbd_world.specs.declared.command.FrameSums.{FrameSums}
use Rattle.pbd_world.specs.Meaning.{reply}
use Rattle.pbd_world.specs.World.{World, live_count}
use Rattle.pbd_log.specs.declared.entry.Answer.{Answer}
use Rattle.pbd_log.specs.Entries.{answer_of, plain}
use Rattle.pbd_world.specs.Lending.{overwritten}
use Rattle.pbd_cloth.specs.declared.place.Place.{Place}
use Rattle.pbd_cloth.specs.Reading.{gone_since}
use Rattle.pbd_cloth.specs.Slots.{Slotted, played, restored, saved, slot_at, AreSlots}
use Rattle.lakmozet_c.specs.declared.plain.Left.{Left}
use Rattle.lakmozet_c.specs.declared.plain.Sums.{Sums}
use Rattle.lakmozet_c.specs.declared.plain.Counts.{Counts}

-- ---- answers of the library's own, beside the numbers of refusals and of statuses

-- the handle is closed
abbrev pub closed : ℕ
closed = 64

-- the handle is open, and only a closed one can be opened
abbrev pub in_use : ℕ
in_use = 65

-- there is no such slot, or open was asked for more than 16
abbrev pub no_slot : ℕ
no_slot = 66

-- the memory of the caller's is too short for all
abbrev pub no_room : ℕ
no_room = 67

-- a status of the program's, which no refusal's number is
abbrev pub status : ℕ → ℕ
status n = 32 + n

-- ---- commands

-- 0 and refusals as a log has them, and where a step was refused
abbrev pub answer_to : Option Slotted → Command → Answer
answer_to None command = plain closed
answer_to (Some cloth) command = answer_of (reply cloth.world command)

abbrev pub vector_of : Place → Vec3
vector_of p = record { x = p.x; y = p.y; z = p.z }

-- the step, the phase and the element of an answer
abbrev pub left_of : Answer → Left
left_of a = record { step = a.step; element = a.element; phase = a.phase }

-- ---- slots

-- a slot that isn't there changes nothing
abbrev pub saved_in : Slotted → ℕ → Slotted
saved_in cloth k = if nat_lt k (length cloth.slots) then saved cloth k else cloth

abbrev pub restored_from : Slotted → ℕ → Slotted
restored_from cloth k = if nat_lt k (length cloth.slots) then restored cloth k else cloth

abbrev pub has_slot : Slotted → ℕ → ℕ
has_slot cloth k = if nat_lt k (length cloth.slots) then 0 else no_slot

-- what a handle holds after what is done to a cloth: a closed one stays closed
abbrev pub done_to : (Slotted → Slotted) → Option Slotted → Option Slotted
done_to f None = None
done_to f (Some cloth) = Some (f cloth)

-- what a handle holds is nothing, or a sound world and slots of sound worlds of one scene with it
abbrev pub HoldsSound : Option Slotted → Type 0
HoldsSound None = ⊤
HoldsSound (Some cloth) = AreSlots cloth.world cloth.slots

-- an answer of an open handle, or that it is closed
abbrev pub answered : Option Slotted → (Slotted → ℕ) → ℕ
answered None f = closed
answered (Some cloth) f = f cloth

-- ---- what a call does to what a handle holds

-- it does this, and answers so
pub record Acts (does : Slotted → Slotted) (answers : Slotted → ℕ) (old new : Option Slotted) (number : ℤ) : Type 0 where
  pub held : new ≡ done_to does old
  pub answer : number ≡ pos (answered old answers)
  pub sound : HoldsSound new

-- it does a command, or refuses it and changes nothing
pub record Obeys (command : Command) (old new : Option Slotted) (number : ℤ) : Type 0 where
  pub held : new ≡ done_to (λ c. played c command) old
  pub answer : number ≡ pos (answer_to old command).number
  pub kept : (number ≡ pos 0 → ⊥) → new ≡ old
  pub sound : HoldsSound new

-- it changes nothing
pub record Keeps (old new : Option Slotted) : Type 0 where
  pub held : new ≡ old
  pub sound : HoldsSound new

-- ---- reading

-- 0 where there is room for so many, or that there isn't
abbrev pub room_answer : ℕ → ℕ → ℕ
room_answer count room = if nat_le count room then 0 else no_room

-- what a call leaves in memory of the caller's: what it was where the handle is closed
abbrev pub read_from : {A : Type 0} → Option Slotted → (Slotted → A) → A → A
read_from None f before = before
read_from (Some cloth) f before = f cloth

-- what is read of the world in a slot, or what was there where there is no such slot
abbrev pub slot_left : {A : Type 0} → Slotted → ℕ → (World → A) → A → A
slot_left cloth k f before = if nat_lt k (length cloth.slots) then f (slot_at cloth k) else before

-- a call reads a value of what a handle holds
pub record Reads {A : Type 0} (value : Slotted → A) (old new : Option Slotted) (number : ℤ) (before after : A) : Type 0 where
  pub kept : Keeps old new
  pub answer : number ≡ pos (answered old (λ _. 0))
  pub written : after ≡ read_from old value before

-- it reads a value of the world in a slot
pub record ReadsSlot {A : Type 0} (value : World → A) (k : ℕ) (old new : Option Slotted) (number : ℤ) (before after : A) : Type 0 where
  pub kept : Keeps old new
  pub answer : number ≡ pos (answered old (λ c. has_slot c k))
  pub written : after ≡ read_from old (λ c. slot_left c k value before) before

-- it reads so many items, those of a list, as many as there is room for
pub record ReadsList {A : Type 0} (many : Slotted → ℕ) (list : Slotted → List A) (old new : Option Slotted) (number : ℤ) (past count : ℕ)
    (before after : List A) : Type 0 where
  pub kept : Keeps old new
  pub answer : number ≡ pos (answered old (λ c. room_answer (many c) (length before)))
  pub count_written : count ≡ read_from old many past
  pub written : after ≡ read_from old (λ c. overwritten before (list c)) before

abbrev pub sums_of : FrameSums → Sums
sums_of s = record { steps = s.steps; live = s.live; contacts = s.contacts; at = s.at; before = s.before }

abbrev pub counts_of : Slotted → Counts
counts_of cloth = record {
  steps = cloth.world.steps;
  particles = length cloth.world.particles;
  links = length cloth.world.links;
  live = live_count cloth.world.links;
  contacts = cloth.world.contacts;
  slots = length cloth.slots;
}

-- the links that are live in slot k's world and not live now: what the call answers, counts and leaves. A slot that isn't there
-- leaves all.
abbrev pub gone : Slotted → ℕ → List ℕ
gone cloth k = gone_since (slot_at cloth k) cloth.world

abbrev pub gone_answer : Slotted → ℕ → ℕ → ℕ
gone_answer cloth k room = if nat_lt k (length cloth.slots) then room_answer (length (gone cloth k)) room else no_slot

abbrev pub gone_count : Slotted → ℕ → ℕ → ℕ
gone_count cloth k before = if nat_lt k (length cloth.slots) then length (gone cloth k) else before

abbrev pub gone_left : Slotted → ℕ → List ℕ → List ℕ
gone_left cloth k before = if nat_lt k (length cloth.slots) then overwritten before (gone cloth k) else before
