-- The commands of a marks script.
use Rattle.std.specs.Prelude.{◌≡◌, refl, ℕ, if◌then◌else◌, codes, List, [], ◌∷◌, filter_map, bytes_eq, Option, Some, None}
use Rattle.std.specs.Option.{option_map}
use Rattle.std.specs.Str.Lines.{strip_carriage_return}
use Rattle.pbd_script.specs.Lines.{pieces, words, only_count}
use Rattle.pbd_script.specs.Commands.{line_command}
use Rattle.pbd_marks.specs.declared.command.MarkCommand.{MarkCommand}
use Rattle.pbd_marks.specs.declared.command.MarkCommand.TheVariants.{Plain, Mark, Rewind}

-- the command of `mark` or `rewind` and one count; no other words have one
unfoldable pub mark_form : List ℕ → List (List ℕ) → Option MarkCommand
mark_form word operands =
    if bytes_eq word (codes "mark") then option_map (λ k. Mark k) (only_count operands) else
    if bytes_eq word (codes "rewind") then option_map (λ k. Rewind k) (only_count operands) else
    None

abbrev pub mark_words : List (List ℕ) → Option MarkCommand
mark_words [] = None
mark_words (word ∷ operands) = mark_form word operands

-- a line that is not of these forms is read as in any script
abbrev pub mark_or_plain : Option MarkCommand → List ℕ → Option MarkCommand
mark_or_plain (Some command) line = Some command
mark_or_plain None line = option_map (λ c. Plain c) (line_command line)

-- the command of a line, which may end with a carriage return
abbrev pub mark_line_command : List ℕ → Option MarkCommand
mark_line_command line = mark_or_plain (mark_words (words (strip_carriage_return line))) line

-- the commands of a marks script in order
unfoldable pub mark_commands : List ℕ → List MarkCommand
mark_commands script = filter_map mark_line_command (pieces script)

pub mark_commands_by_line : (script : List ℕ) → mark_commands script ≡ filter_map mark_line_command (pieces script)
unfolding mark_commands
mark_commands_by_line script = refl
