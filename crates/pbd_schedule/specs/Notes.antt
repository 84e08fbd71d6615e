-- What the notes are seen as, and the answers of a run of events.
use Rattle.std.specs.Prelude.{◌≡◌, ℕ, ℤ, List, length, Result, Err}
use Rattle.pbd_world.specs.declared.bond.Bond.{Bond}
use Rattle.pbd_world.specs.Particles.{Motion}
use Rattle.pbd_world.specs.Bonds.{projected}
use Rattle.pbd_pair.specs.declared.parts.Note.{Note}
use Rattle.pbd_schedule.specs.declared.event.Event.{Event}
use Rattle.pbd_schedule.specs.declared.event.EventFault.{EventFault}
use Rattle.pbd_schedule.specs.declared.event.EventFault.TheVariants.{BadEvent, Left}
use Rattle.pbd_schedule.specs.Legal.{IsLegal, StopsAt}
use Rattle.pbd_schedule.specs.Mixed.{interleaved}

-- a note for each bond, and how many of its events came
pub record Noted : Type 0 where
  pub notes : List Note
  pub stages : List ℕ

-- the events are legal, and both they and the bonds one by one come to `outcome`
pub record ComeTo (limit : ℤ) (bond : ℕ → Bond) (batch : List ℕ) (events : List Event)
    (before : Motion) (outcome : Result Motion ℕ) : Type 0 where
  pub legal : IsLegal (length batch) events
  pub mixed : interleaved limit bond batch events before ≡ outcome
  pub in_order : projected limit bond batch before ≡ outcome

-- what a fault says: either the events aren't legal and all is kept, or they and the bonds one by one leave
abbrev pub Faults : ℤ → (ℕ → Bond) → List ℕ → List Event → Motion → Type 0 → EventFault → Type 0
Faults limit bond batch events before kept (BadEvent at) = StopsAt (length batch) events at × kept
Faults limit bond batch events before kept (Left element) = ComeTo limit bond batch events before (Err element)
