-- Sessions side by side: what each request is answered with, what is printed for it, and what it makes of the worlds.
use Rattle.std.specs.Prelude.{ℕ, ◌+◌, ◌≤◌, ◌==◌, pos, Bool, true, false, if◌then◌else◌, codes, decimal, List, [], ◌∷◌, ◌++◌, length, drop}
use Rattle.std.specs.Prelude.{All, filter_map, slice_index_or, slice_set, Option, Some, None}
use Rattle.std.specs.List.{position_or_len}
use Rattle.pbd_world.specs.declared.command.Command.{Command}
use Rattle.pbd_world.specs.declared.command.Reply.{Reply}
use Rattle.pbd_world.specs.Meaning.{after, reply}
use Rattle.pbd_world.specs.Session.{is_refused}
use Rattle.pbd_world.specs.Text.{line, text}
use Rattle.pbd_world.specs.World.{World, opened, IsSound, no_parts}
use Rattle.pbd_host.specs.declared.served.Served.{Served}
use Rattle.pbd_host.specs.declared.served.Served.TheVariants as answers
use Rattle.pbd_host.specs.declared.request.Request.{Request}
use Rattle.pbd_host.specs.declared.request.Request.TheVariants.{Blank, BadTag, To}

-- the world of session t, where there is one
abbrev pub world_at : List World → ℕ → World
world_at ws t = slice_index_or ws t (opened (no_parts (pos 0)))

-- sound worlds of up to 16 sessions: that of the first, and those of the others
pub record AreHosted (w : World) (ws : List World) : Type 0 where
  pub few : length ws ≤ 15
  pub first : IsSound w
  pub others : All IsSound ws

-- ---- one request

-- a command changes the world of its session, and nothing else does anything
abbrev pub worlds_after : List World → Request → List World
worlds_after ws Blank = ws
worlds_after ws BadTag = ws
worlds_after ws (To t command) = slice_set ws t (after (world_at ws t) command)

abbrev pub served_as : ℕ → Reply → Served
served_as t r = if is_refused r then answers.Refused t else answers.Accepted t

abbrev pub served : List World → Request → Served
served ws Blank = answers.Blank
served ws BadTag = answers.BadTag
served ws (To t command) = served_as t (reply (world_at ws t) command)

-- the line `session T`
unfoldable pub session_line : ℕ → List ℕ
session_line t = line (codes "session" ∷ decimal t ∷ [])

unfoldable pub bad_tag_text : List ℕ
bad_tag_text = line (codes "session" ∷ codes "-" ∷ []) ++ line (codes "refused" ∷ codes "15" ∷ codes "BadTag" ∷ [])

-- the lines of a world's reply to a command
abbrev pub command_text : World → Command → List ℕ
command_text w command = text (after w command) (reply w command)

unfoldable pub request_text : List World → Request → List ℕ
request_text ws Blank = []
request_text ws BadTag = bad_tag_text
request_text ws (To t command) = session_line t ++ command_text (world_at ws t) command

-- a bad tag is a refusal too
abbrev pub is_refusal : Served → Bool
is_refusal answers.Blank = false
is_refusal answers.BadTag = true
is_refusal (answers.Accepted t) = false
is_refusal (answers.Refused t) = true

-- ---- one request after another

abbrev pub last_worlds : List World → List Request → List World
last_worlds ws [] = ws
last_worlds ws (r ∷ rs) = last_worlds (worlds_after ws r) rs

unfoldable pub hosted_text : List World → List Request → List ℕ
hosted_text ws [] = []
hosted_text ws (r ∷ rs) = request_text ws r ++ hosted_text (worlds_after ws r) rs

-- how many of them are refused
unfoldable pub hosted_refused : List World → List Request → ℕ
hosted_refused ws [] = 0
hosted_refused ws (r ∷ rs) = (if is_refusal (served ws r) then 1 else 0) + hosted_refused (worlds_after ws r) rs

-- ---- one session among them

abbrev pub command_to : ℕ → Request → Option Command
command_to t (To s command) = if s == t then Some command else None
command_to t r = None

-- its own commands
abbrev pub commands_to : ℕ → List Request → List Command
commands_to t rs = filter_map (command_to t) rs

abbrev pub is_to : ℕ → Request → Bool
is_to t (To s command) = s == t
is_to t r = false

abbrev pub without_first_line : List ℕ → List ℕ
without_first_line bytes = drop (position_or_len (λ b. b == 10) bytes + 1) bytes

-- what is printed for its requests, each without its first line
unfoldable pub own_text : ℕ → List World → List Request → List ℕ
own_text t ws [] = []
own_text t ws (r ∷ rs) = (if is_to t r then without_first_line (request_text ws r) else []) ++ own_text t (worlds_after ws r) rs

-- how many of its requests are refused
unfoldable pub own_refused : ℕ → List World → List Request → ℕ
own_refused t ws [] = 0
own_refused t ws (r ∷ rs) = (if is_to t r then (if is_refusal (served ws r) then 1 else 0) else 0) + own_refused t (worlds_after ws r) rs
