-- What the bonds of a batch do where their reads and writes are mixed.
use Rattle.std.specs.Prelude.{ℕ, ℤ, Bool, true, false, if◌then◌else◌, List, [], ◌∷◌, length, replicate, fold, slice_index_or, slice_set}
use Rattle.std.specs.Prelude.{Option, Some, None, Result, Ok, Err}
use Rattle.pbd_world.specs.declared.parts.Particle.{Particle}
use Rattle.pbd_world.specs.declared.bond.Bond.{Bond}
use Rattle.pbd_world.specs.declared.bond.Correction.{Correction}
use Rattle.pbd_world.specs.declared.bond.Correction.TheVariants.{Slack, Leaves, Moves}
use Rattle.pbd_world.specs.Ledger.{Ledger, booked}
use Rattle.pbd_world.specs.Particles.{Motion, particle_at, placed}
use Rattle.pbd_world.specs.Bonds.{correction_at, class_of, entries_of}
use Rattle.pbd_schedule.specs.declared.event.Event.{Event}
use Rattle.pbd_schedule.specs.declared.event.Event.TheVariants.{Read, WriteA, WriteB}
use Rattle.pbd_pair.specs.declared.parts.Note.{Note}

-- no bond was read yet
abbrev pub no_note : Note
no_note = record { correction = Slack; first_held = false; second_held = false }

abbrev pub note_at : List Note → ℕ → Note
note_at notes k = slice_index_or notes k no_note

-- what is noted of a bond's two particles as they are read: what the bond is to do with them, and which are held
abbrev pub note_of : ℤ → List Particle → Bond → Note
note_of limit ps bond = record {
  correction = correction_at limit ps bond;
  first_held = (particle_at ps bond.a).held;
  second_held = (particle_at ps bond.b).held;
}

-- the particles, the ledger, and what is noted of each bond of the batch
pub record Mixed : Type 0 where
  pub particles : List Particle
  pub totals : Ledger
  pub notes : List Note

-- a read notes, and changes nothing else
abbrev pub read_at : ℤ → ℕ → Bond → Mixed → Mixed
read_at limit k bond x = record x { notes = slice_set x.notes k (note_of limit x.particles bond) }

-- the first end gets its new place from the note
abbrev pub first_written : Bond → Correction → Mixed → Mixed
first_written bond (Moves s) x = record x { particles = placed x.particles bond.a s.first }
first_written bond Slack x = x
first_written bond Leaves x = x

-- the second end gets its new place from the note, and the moves are booked
abbrev pub second_written : Bond → Note → Correction → Mixed → Mixed
second_written bond note (Moves s) x = record x {
  particles = placed x.particles bond.b s.second;
  totals = booked x.totals (entries_of note.first_held note.second_held (class_of bond) s);
}
second_written bond note Slack x = x
second_written bond note Leaves x = x

-- the bond at position k of a batch
abbrev pub bond_at : (ℕ → Bond) → List ℕ → ℕ → Bond
bond_at bond batch k = bond (slice_index_or batch k 0)

-- one event
abbrev pub happened : ℤ → (ℕ → Bond) → Event → Mixed → Mixed
happened limit bond (Read k) x = read_at limit k (bond k) x
happened limit bond (WriteA k) x = first_written (bond k) (note_at x.notes k).correction x
happened limit bond (WriteB k) x = second_written (bond k) (note_at x.notes k) (note_at x.notes k).correction x

-- the events in their order, where `bond k` is the bond at position k
abbrev pub mixed : ℤ → (ℕ → Bond) → List Event → Mixed → Mixed
mixed limit bond events x = fold {A = Event} (λ y e. happened limit bond e y) x events

abbrev pub is_leaving : Correction → Bool
is_leaving Slack = false
is_leaving Leaves = true
is_leaving (Moves s) = false

-- the first number of a batch whose bond is noted to leave the limit
abbrev pub first_leaving : List ℕ → List Note → Option ℕ
first_leaving [] notes = None
first_leaving (n ∷ batch) [] = None
first_leaving (n ∷ batch) (note ∷ notes) = if is_leaving note.correction then Some n else first_leaving batch notes

-- the particles and the ledger, or the number of the bond that leaves
abbrev pub unless_left : Option ℕ → Mixed → Result Motion ℕ
unless_left (Some n) x = Err n
unless_left None x = Ok (record { particles = x.particles; totals = x.totals })

abbrev pub noted_outcome : List ℕ → Mixed → Result Motion ℕ
noted_outcome batch x = unless_left (first_leaving batch x.notes) x

-- a batch by the events of an interleaving, or the number of its first bond that leaves the limit
abbrev pub interleaved : ℤ → (ℕ → Bond) → List ℕ → List Event → Motion → Result Motion ℕ
interleaved limit bond batch events m =
    noted_outcome batch (mixed limit (bond_at bond batch) events
    (record { particles = m.particles; totals = m.totals; notes = replicate (length batch) no_note }))
