-- The bytes of commands of each kind of operands, written out.
use Rattle.std.proofs.Common.{◌≡◌, refl, ℕ, [], ◌∷◌, ◌++◌}
use Rattle.pbd_num.specs.declared.Vec3.{Vec3}
use Rattle.pbd_world.specs.declared.command.Command.TheVariants.{Step, Frame, Pin, Unpin, Move, Cut, Gravity, Ledger, Bad}
use Rattle.pbd_world.specs.Verbs.{row}
use Rattle.pbd_log.specs.Entries.{number_bytes, vector_bytes, command_bytes}

step_bytes : (n : ℕ) → command_bytes (Step n) ≡ 1 ∷ number_bytes 8 n
unfolding command_bytes row
step_bytes n = refl

frame_bytes : command_bytes Frame ≡ 2 ∷ []
unfolding command_bytes row
frame_bytes = refl

pin_bytes : (i : ℕ) → command_bytes (Pin i) ≡ 3 ∷ number_bytes 8 i
unfolding command_bytes row
pin_bytes i = refl

unpin_bytes : (i : ℕ) → command_bytes (Unpin i) ≡ 4 ∷ number_bytes 8 i
unfolding command_bytes row
unpin_bytes i = refl

move_bytes : (i : ℕ) (to : Vec3) → command_bytes (Move i to) ≡ 5 ∷ number_bytes 8 i ++ vector_bytes to
unfolding command_bytes row
move_bytes i to = refl

cut_bytes : (n : ℕ) → command_bytes (Cut n) ≡ 6 ∷ number_bytes 8 n
unfolding command_bytes row
cut_bytes n = refl

gravity_bytes : (g : Vec3) → command_bytes (Gravity g) ≡ 7 ∷ vector_bytes g
unfolding command_bytes row
gravity_bytes g = refl

ledger_bytes : command_bytes Ledger ≡ 8 ∷ []
unfolding command_bytes row
ledger_bytes = refl

bad_bytes : command_bytes Bad ≡ 9 ∷ []
unfolding command_bytes row
bad_bytes = refl
