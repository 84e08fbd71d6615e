-- How far the bonds of a batch have come, event by event.
use Rattle.std.specs.Prelude.{◌≡◌, ℕ, ◌+◌, ◌<◌, ◌≤◌, ◌==◌, ◌&&◌, nat_lt, IsTrue, ℤ, Bool, List, length, take, slice_index_or, slice_set}
use Rattle.pbd_world.specs.declared.parts.Particle.{Particle}
use Rattle.pbd_world.specs.Ledger.{Ledger}
use Rattle.pbd_pair.specs.declared.parts.Note.{Note}
use Rattle.pbd_pair.specs.Bonds.{IsSound}
use Rattle.pbd_schedule.specs.declared.event.Event.{Event}
use Rattle.pbd_schedule.specs.declared.event.Event.TheVariants.{Read, WriteA, WriteB}
use Rattle.pbd_schedule.specs.Legal.{position_of, are_below, about, events_of}
use Rattle.pbd_schedule.specs.Mixed.{Mixed, note_at}

-- how many events of its bond come before an event
abbrev pub rank_of : Event → ℕ
rank_of (Read k) = 0
rank_of (WriteA k) = 1
rank_of (WriteB k) = 2

-- how many events of the bond at k came
abbrev pub stage_at : List ℕ → ℕ → ℕ
stage_at stages k = slice_index_or stages k 0

-- an event of one of the bonds, of which those before it came
abbrev pub may_come : List ℕ → Event → Bool
may_come stages e = nat_lt (position_of e) (length stages) && stage_at stages (position_of e) == rank_of e

-- the stages once it came
abbrev pub one_more : List ℕ → Event → List ℕ
one_more stages e = slice_set stages (position_of e) (stage_at stages (position_of e) + 1)

-- of each bond, the first events came, as many as its stage says
pub record HaveCome (stages : List ℕ) (done : List Event) : Type 0 where
  pub positions : IsTrue (are_below (length stages) done)
  pub each : (k : ℕ) → k < length stages → about k done ≡ take (stage_at stages k) (events_of k)
  pub high : (k : ℕ) → k < length stages → stage_at stages k ≤ 3

-- what is noted of each bond is sound
pub record AreSound (limit : ℤ) (notes : List Note) : Type 0 where
  pub each : (k : ℕ) → k < length notes → IsSound limit (note_at notes k).correction

-- what an event costs in accesses, at most
abbrev pub accesses : Event → ℕ
accesses (Read k) = 2
accesses (WriteA k) = 1
accesses (WriteB k) = 1

-- how often an event books moves, at most
abbrev pub bookings : Event → ℕ
bookings (Read k) = 0
bookings (WriteA k) = 0
bookings (WriteB k) = 1

-- particles, a ledger and notes
abbrev pub mix_of : List Particle → Ledger → List Note → Mixed
mix_of ps t notes = record { particles = ps; totals = t; notes = notes }
