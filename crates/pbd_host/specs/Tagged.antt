-- What a tagged line asks for.
use Rattle.std.specs.Prelude.{ℕ, ◌<◌, nat_eq, nat_lt, if◌then◌else◌, codes, List, [], ◌∷◌, map, Option, Some, None, unwrap_or}
use Rattle.std.specs.List.{starts_with}
use Rattle.std.specs.Option.{option_and_then}
use Rattle.std.specs.Str.Lines.{strip_carriage_return}
use Rattle.pbd_world.specs.declared.command.Command.{Command}
use Rattle.pbd_world.specs.declared.command.Command.TheVariants.{Bad}
use Rattle.pbd_script.specs.Lines.{behind_word, count, words}
use Rattle.pbd_script.specs.Commands.{line_command}
use Rattle.pbd_host.specs.declared.request.Request.{Request}
use Rattle.pbd_host.specs.declared.request.Request.TheVariants.{Blank, BadTag, To}

-- the session, of so many, whose number a word is
abbrev pub session_of : ℕ → List ℕ → Option ℕ
session_of sessions word = option_and_then (λ t. if nat_lt t sessions then Some t else None) (count word)

-- the command of what follows a tag, which is read as a script of one line, and `Bad` where that has none
abbrev pub command_behind : List ℕ → Command
command_behind rest = unwrap_or (line_command rest) Bad

abbrev pub to_session : Option ℕ → List ℕ → Request
to_session None rest = BadTag
to_session (Some t) rest = To t (command_behind rest)

-- what words ask for, of which the first is the tag, with the bytes behind it
abbrev pub request_in : ℕ → List (List ℕ) → List ℕ → Request
request_in sessions [] rest = Blank
request_in sessions (word ∷ operands) rest =
    if starts_with nat_eq word (codes "#") then Blank else to_session (session_of sessions word) rest

-- what a line asks of so many sessions; it may end with a carriage return
unfoldable pub request_of : ℕ → List ℕ → Request
request_of sessions line = request_in sessions (words (strip_carriage_return line)) (behind_word (strip_carriage_return line))

abbrev pub requests_of : ℕ → List (List ℕ) → List Request
requests_of sessions lines = map (request_of sessions) lines

-- the session of a command is one of so many
abbrev pub IsAmong : ℕ → Request → Type 0
IsAmong sessions (To t command) = t < sessions
IsAmong sessions _ = Unit {0}
