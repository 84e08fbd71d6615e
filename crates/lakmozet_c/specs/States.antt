-- What the calls on states answer and leave.
use Rattle.std.specs.Prelude.{ℕ, nat_le, if◌then◌else◌, List, ◌++◌, drop, length, Ok, Err}
use Rattle.pbd_encoding.specs.Encoding.{state_bytes, state_size}
use Rattle.pbd_encoding.specs.Form.{Formed}
use Rattle.pbd_cloth.specs.Slots.{Slotted}

-- the bytes are no state of the scene
abbrev pub no_state : ℕ
no_state = 68

abbrev pub size_of : Slotted → ℕ
size_of cloth = state_size (length cloth.world.particles) (length cloth.world.links)

-- what stands in memory of the caller's: the state at its front, where there is room for all of it
abbrev pub state_left : List ℕ → Slotted → List ℕ → List ℕ
state_left scene cloth before =
    if nat_le (size_of cloth) (length before) then state_bytes scene cloth.world ++ drop (size_of cloth) before else before

abbrev pub state_answer : Formed → ℕ
state_answer (Ok x) = 0
state_answer (Err fault) = no_state

-- where the bytes go wrong, if they do
abbrev pub offset_left : Formed → ℕ → ℕ
offset_left (Ok x) before = before
offset_left (Err fault) before = fault.offset
