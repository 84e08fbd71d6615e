-- The table of commands: a command is a row and operands of the row's kind.
use Rattle.std.specs.Prelude.{ℕ, ◌==◌, List, [], ◌∷◌, bytes_eq, codes, Option, Some, None}
use Rattle.std.specs.List.{find}
use Rattle.std.specs.Option.{option_map}
use Rattle.pbd_num.specs.declared.Vec3.{Vec3}
use Rattle.pbd_world.specs.declared.command.Command.{Command}
use Rattle.pbd_world.specs.declared.command.Command.TheVariants.{Step, Frame, Pin, Unpin, Move, Cut, Gravity, Ledger, Bad}
use Rattle.pbd_world.specs.declared.command.Verb.{Verb}
use Rattle.pbd_world.specs.declared.command.Verb.TheVariants as verbs
use Rattle.pbd_world.specs.declared.command.OperandKind.{OperandKind}
use Rattle.pbd_world.specs.declared.command.OperandKind.TheVariants as kinds
use Rattle.pbd_world.specs.declared.command.Operands.{Operands}
use Rattle.pbd_world.specs.declared.command.Operands.TheVariants.{Nothing, Number, Vector, NumberAndVector}

-- the word that begins its lines, the byte that begins its entries in a log, and what stands behind either
pub record TableRow : Type 0 where
  pub word : List ℕ
  pub code : ℕ
  pub kind : OperandKind

-- no line begins with the word of Bad, since it is empty
unfoldable pub row : Verb → TableRow
row verbs.Step = record { word = codes "step"; code = 1; kind = kinds.Number }
row verbs.Frame = record { word = codes "frame"; code = 2; kind = kinds.Nothing }
row verbs.Pin = record { word = codes "pin"; code = 3; kind = kinds.Number }
row verbs.Unpin = record { word = codes "unpin"; code = 4; kind = kinds.Number }
row verbs.Move = record { word = codes "move"; code = 5; kind = kinds.NumberAndVector }
row verbs.Cut = record { word = codes "cut"; code = 6; kind = kinds.Number }
row verbs.Gravity = record { word = codes "gravity"; code = 7; kind = kinds.Vector }
row verbs.Ledger = record { word = codes "ledger"; code = 8; kind = kinds.Nothing }
row verbs.Bad = record { word = []; code = 9; kind = kinds.Nothing }

abbrev pub all_verbs : List Verb
all_verbs = verbs.Step ∷ verbs.Frame ∷ verbs.Pin ∷ verbs.Unpin ∷ verbs.Move ∷ verbs.Cut ∷ verbs.Gravity ∷ verbs.Ledger ∷ verbs.Bad ∷ []

unfoldable pub verb_named : List ℕ → Option Verb
verb_named word = find (λ v. bytes_eq word (row v).word) all_verbs

unfoldable pub verb_coded : ℕ → Option Verb
verb_coded code = find (λ v. (row v).code == code) all_verbs

-- ---- commands taken apart and put together

abbrev pub verb_and_operands : Command → Verb × Operands
verb_and_operands (Step n) = (verbs.Step, Number n)
verb_and_operands Frame = (verbs.Frame, Nothing)
verb_and_operands (Pin i) = (verbs.Pin, Number i)
verb_and_operands (Unpin i) = (verbs.Unpin, Number i)
verb_and_operands (Move i to) = (verbs.Move, NumberAndVector i to)
verb_and_operands (Cut n) = (verbs.Cut, Number n)
verb_and_operands (Gravity g) = (verbs.Gravity, Vector g)
verb_and_operands Ledger = (verbs.Ledger, Nothing)
verb_and_operands Bad = (verbs.Bad, Nothing)

abbrev pub alone : Command → Operands → Option Command
alone command Nothing = Some command
alone command operands = None

abbrev pub the_number : Operands → Option ℕ
the_number (Number n) = Some n
the_number operands = None

abbrev pub the_vector : Operands → Option Vec3
the_vector (Vector v) = Some v
the_vector operands = None

abbrev pub number_and_vector : Operands → Option (ℕ × Vec3)
number_and_vector (NumberAndVector n v) = Some (n, v)
number_and_vector operands = None

-- the command of a verb and operands, if they are of its kind
abbrev pub command_with : Verb → Operands → Option Command
command_with verbs.Step operands = option_map (λ n. Step n) (the_number operands)
command_with verbs.Frame operands = alone Frame operands
command_with verbs.Pin operands = option_map (λ i. Pin i) (the_number operands)
command_with verbs.Unpin operands = option_map (λ i. Unpin i) (the_number operands)
command_with verbs.Move operands = option_map (λ x. Move x.0 x.1) (number_and_vector operands)
command_with verbs.Cut operands = option_map (λ n. Cut n) (the_number operands)
command_with verbs.Gravity operands = option_map (λ g. Gravity g) (the_vector operands)
command_with verbs.Ledger operands = alone Ledger operands
command_with verbs.Bad operands = alone Bad operands

-- the kind of operands
abbrev pub kind_of : Operands → OperandKind
kind_of Nothing = kinds.Nothing
kind_of (Number n) = kinds.Number
kind_of (Vector v) = kinds.Vector
kind_of (NumberAndVector n v) = kinds.NumberAndVector
