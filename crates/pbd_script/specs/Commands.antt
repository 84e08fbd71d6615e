-- The commands of a script.
use Rattle.std.specs.Prelude.{◌≡◌, refl, ℕ, ℤ, nat_eq, if◌then◌else◌, codes, List, [], ◌∷◌, filter_map, Option, Some, None, unwrap_or}
use Rattle.std.specs.List.{starts_with}
use Rattle.std.specs.Option.{option_map, option_and_then}
use Rattle.std.specs.Str.Lines.{strip_carriage_return}
use Rattle.pbd_num.specs.declared.Vec3.{Vec3}
use Rattle.pbd_world.specs.declared.command.Command.{Command}
use Rattle.pbd_world.specs.declared.command.Command.TheVariants.{Bad}
use Rattle.pbd_world.specs.declared.command.OperandKind.{OperandKind}
use Rattle.pbd_world.specs.declared.command.OperandKind.TheVariants as kinds
use Rattle.pbd_world.specs.declared.command.Operands.{Operands}
use Rattle.pbd_world.specs.declared.command.Operands.TheVariants.{Nothing, Number, Vector, NumberAndVector}
use Rattle.pbd_world.specs.Verbs.{row, verb_named, command_with}
use Rattle.pbd_script.specs.Lines.{pieces, words, count, number, only_count}

-- ---- what follows a first word

-- nothing
abbrev pub nothing : List (List ℕ) → Option Operands
nothing [] = Some Nothing
nothing (word ∷ operands) = None

abbrev pub vector_of : Option ℤ → Option ℤ → Option ℤ → Option Vec3
vector_of (Some x) (Some y) (Some z) = Some (record { x = x; y = y; z = z })
vector_of x y z = None

-- three numbers
abbrev pub only_vector : List (List ℕ) → Option Vec3
only_vector (x ∷ y ∷ z ∷ []) = vector_of (number x) (number y) (number z)
only_vector operands = None

-- a count and three numbers
abbrev pub number_and_vector : List (List ℕ) → Option Operands
number_and_vector [] = None
number_and_vector (n ∷ axes) = option_and_then (λ n. option_map (λ v. NumberAndVector n v) (only_vector axes)) (count n)

-- the operands of a kind
abbrev pub operands_in : OperandKind → List (List ℕ) → Option Operands
operands_in kinds.Nothing operands = nothing operands
operands_in kinds.Number operands = option_map (λ n. Number n) (only_count operands)
operands_in kinds.Vector operands = option_map (λ v. Vector v) (only_vector operands)
operands_in kinds.NumberAndVector operands = number_and_vector operands

-- ---- lines

-- the command of a first word and what follows it, if they are a verb's word and operands of its kind
unfoldable pub form : List ℕ → List (List ℕ) → Option Command
form word operands = option_and_then (λ verb. option_and_then (command_with verb) (operands_in (row verb).kind operands)) (verb_named word)

-- no words, or a first word that begins with `#`, give no command; other words that are no verb's word and operands of its
-- kind give `Bad`
abbrev pub words_command : List (List ℕ) → Option Command
words_command [] = None
words_command (word ∷ operands) =
    if starts_with nat_eq word (codes "#") then None else Some (unwrap_or (form word operands) Bad)

-- the command of a line, which may end with a carriage return
abbrev pub line_command : List ℕ → Option Command
line_command line = words_command (words (strip_carriage_return line))

-- the commands of a script in order
unfoldable pub commands : List ℕ → List Command
commands script = filter_map line_command (pieces script)

pub commands_by_line : (script : List ℕ) → commands script ≡ filter_map line_command (pieces script)
unfolding commands
commands_by_line script = refl
