-- Sources and sinks in memory: what they hold, and which of their calls fail.
use Rattle.pbd_io.specs.Causes.{next_count}
use Rattle.std.specs.List.{list_any}
use Rattle.std.specs.Option.{option_map}
use Rattle.std.specs.Prelude.{ℕ, ◌-◌, min, nat_lt, Bool, List, [], length, take, find, Option, Some, unwrap_or, ◌==◌, if◌then◌else◌}

-- ---- a source

-- what is left, how much of it a call gives at most, the numbers of the calls that fail,
-- and two counts
pub record SourceState : Type 0 where
  pub left : List ℕ
  pub piece : ℕ
  pub fails : List ℕ
  pub calls : ℕ
  pub faults : ℕ

abbrev pub new_source : List ℕ → ℕ → List ℕ → SourceState
new_source bytes piece fails = record { left = bytes; piece = piece; fails = fails; calls = 0; faults = 0 }

-- the next call is one of those that fail
abbrev pub is_failing : SourceState → Bool
is_failing s = list_any (λ call. call == next_count s.calls) s.fails

-- how many bytes a call gives into a slice of this length, where it doesn't fail
abbrev pub given : SourceState → ℕ → ℕ
given s room = min room (min (length s.left) s.piece)

-- ---- a sink

-- what it holds, how much of it there can be, the calls that fail with how many bytes
-- each still takes at most, and two counts
pub record SinkState : Type 0 where
  pub bytes : List ℕ
  pub room : ℕ
  pub fails : List (ℕ × ℕ)
  pub calls : ℕ
  pub faults : ℕ

abbrev pub new_sink : ℕ → List (ℕ × ℕ) → SinkState
new_sink room fails = record { bytes = []; room = room; fails = fails; calls = 0; faults = 0 }

-- how many bytes the call with this number takes at most before it fails, if it is listed:
-- by the first entry with its number
abbrev pub cut_at : List (ℕ × ℕ) → ℕ → Option ℕ
cut_at fails call = option_map (λ entry. entry.1) (find (λ entry. entry.0 == call) fails)

-- how many bytes of this piece the next call takes at most before it fails, if it fails:
-- none of a piece longer than the room that is left
abbrev pub cut : SinkState → List ℕ → Option ℕ
cut s piece =
    if nat_lt (s.room - length s.bytes) (length piece) then Some 0
    else cut_at s.fails (next_count s.calls)

-- what the next call appends of this piece
abbrev pub appended : SinkState → List ℕ → List ℕ
appended s piece = take (unwrap_or (cut s piece) (length piece)) piece
