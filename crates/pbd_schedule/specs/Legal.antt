-- Which lists of events a batch may go by.
use Rattle.std.specs.Prelude.{◌≡◌, ℕ, ◌+◌, ◌<◌, ◌≤◌, ◌==◌, Bool, List, [], ◌∷◌, ◌++◌, length, map, take, filter, nat_lt, IsTrue}
use Rattle.std.specs.Prelude.{slice_index_or}
use Rattle.std.specs.List.{list_all, range_with_len}
use Rattle.pbd_schedule.specs.declared.event.Event.{Event}
use Rattle.pbd_schedule.specs.declared.event.Event.TheVariants.{Read, WriteA, WriteB}

-- the position in the batch of the bond that an event is of
abbrev pub position_of : Event → ℕ
position_of (Read k) = k
position_of (WriteA k) = k
position_of (WriteB k) = k

-- event i of a list
abbrev pub event_at : List Event → ℕ → Event
event_at events i = slice_index_or events i (Read 0)

-- all events of the bond at k, in their order
abbrev pub events_of : ℕ → List Event
events_of k = Read k ∷ WriteA k ∷ WriteB k ∷ []

-- those of some events that are of the bond at k
abbrev pub about : ℕ → List Event → List Event
about k events = filter (λ e. position_of e == k) events

-- each event is of one of m bonds
abbrev pub are_below : ℕ → List Event → Bool
are_below m events = list_all (λ e. nat_lt (position_of e) m) events

-- All events of m bonds: each bond is read, then written at its first end, then at its second. Those of
-- different bonds are mixed freely.
pub record IsLegal (m : ℕ) (events : List Event) : Type 0 where
  pub positions : IsTrue (are_below m events)
  pub each : (k : ℕ) → k < m → about k events ≡ events_of k

-- all reads, then all writes of first ends, then all writes of second ends
abbrev pub reads_then_writes : ℕ → List Event
reads_then_writes m = map Read (range_with_len 0 m) ++ (map WriteA (range_with_len 0 m) ++ map WriteB (range_with_len 0 m))

-- a legal list begins so
abbrev pub BeginsLegal : ℕ → List Event → Type 0
BeginsLegal m events = (rest : List Event) × IsLegal m (events ++ rest)

-- event `at` is the first with which a list is the beginning of no legal one
pub record IsMisplaced (m : ℕ) (events : List Event) (at : ℕ) : Type 0 where
  pub within : at < length events
  pub before : BeginsLegal m (take at events)
  pub there : BeginsLegal m (take (at + 1) events) → ⊥

-- A list isn't legal: event `at` is the first with which it is the beginning of no legal list. Where there is no
-- such event, `at` is the length of the list, which is too short.
pub record StopsAt (m : ℕ) (events : List Event) (at : ℕ) : Type 0 where
  pub size : at ≤ length events
  pub illegal : IsLegal m events → ⊥
  pub before : BeginsLegal m (take at events)
  pub there : at < length events → BeginsLegal m (take (at + 1) events) → ⊥
