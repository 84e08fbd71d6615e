use Rattle.std.proofs.Common.{rules, ◌≡◌, ◌≤◌, ◌+◌, ◌*◌, ℕ, List, Option, replicate, ap, sym, ◌∙◌, arith, length, subst}
use Rattle.std.proofs.lemmas.List.{length-replicate}
use Rattle.pbd_world.specs.Ledger.{ledger_of}
use Rattle.pbd_world.proofs.Rooms.{room_at}
use Rattle.pbd_store.specs.Moving.{motion_of}
use Rattle.pbd_pair.specs.declared.parts.Note.{Note}
use Rattle.pbd_pair.specs.Bonds.{bond_of}
use Rattle.pbd_pair.specs.Projecting.{StaysSound}
use Rattle.pbd_schedule.specs.Legal.{IsLegal}
use Rattle.pbd_schedule.specs.Mixed.{bond_at, mixed, no_note, unless_left}
use Rattle.pbd_schedule.specs.Mixing.{mixed_in}
use Rattle.pbd_schedule.specs.Notes.{ComeTo, Noted}
use Rattle.pbd_schedule.specs.Stages.{mix_of}
use Rattle.pbd_schedule.proofs.Counting.{accesses_of_legal, bookings_of_legal}
use Rattle.pbd_schedule.proofs.Interleaving.{come_to, none_left}
use Rattle.pbd_schedule.proofs.notes.run_events.Goals.{After-first_leaving}
use Rattle.pbd_schedule.proofs.notes.run_events.Goals as goal

-- there is a stage for each bond of the batch
stages_are : (g : _) (c : After-first_leaving g) → length c.as_mut_slice.result.now ≡ length c.args.batch.now
stages_are g c = ap (λ (l : List ℕ). length l)
    (c.as_mut_slice.ensures.value ∙ ap (λ (v : Noted). v.stages) (c.notes.view_is ∙ c.begin.ensures))
    ∙ length-replicate c.count_bonds.result 0 ∙ c.count_bonds.ensures.value

-- what the events have come to
came : (g : _) (c : After-first_leaving g) → ComeTo c.args.store.now.limit (bond_of c.args.bonds) c.args.batch.now c.args.events.now
    (motion_of c.args.store.now c.args.totals.now) (unless_left c.first_leaving.result (mixed_in c.run.new.self))
came g c =
    let limit = c.args.store.now.limit in
    let bond = bond_of c.args.bonds in
    let batch = c.args.batch.now in
    let events = c.args.events.now in
    let first = c.as_mut_slice-2.ensures.value ∙ ap (λ (v : Noted). v.notes) (c.notes.view_is ∙ c.begin.ensures)
    ∙ ap (λ (n : ℕ). replicate n no_note) c.count_bonds.ensures.value in
    let legal = subst (λ (m : ℕ). IsLegal m events) (stages_are g c) c.in_default.ensures.outcome in
    let value = c.run.ensures.value ∙ ap (λ (l : List Note).
    mixed limit (bond_at bond batch) events (mix_of c.args.store.now.particles (ledger_of c.args.totals.now) l)) first in
    come_to limit bond batch (motion_of c.args.store.now c.args.totals.now) c.requires.batch.bond c.requires.batch.apart.each
    c.requires.inside events legal (mixed_in c.run.new.self) value c.run.ensures.sound c.first_leaving.result (sym c.first_leaving.ensures)

-- what they cost
spent : (g : _) (c : After-first_leaving g) → c.run.new.self.steps.now ≤ c.args.steps.now + 4 * length c.args.batch.now
spent g c =
    let accesses = accesses_of_legal (length c.as_mut_slice.result.now) c.args.events.now c.in_default.ensures.outcome in
    omega (arith, c.run.ensures.cost, stages_are g c, accesses)

pub returns-in-Some-first_leaving-clause-outcome : goal.returns-in-Some-first_leaving-clause-outcome
returns-in-Some-first_leaving-clause-outcome g c = subst (λ (o : Option ℕ).
    ComeTo c.args.store.now.limit (bond_of c.args.bonds) c.args.batch.now c.args.events.now (motion_of c.args.store.now c.args.totals.now)
    (unless_left o (mixed_in c.run.new.self))) c.in-Some-first_leaving.is
    (came g (goal.at.returns-in-Some-first_leaving-clause-outcome g c).After-first_leaving)

pub returns-clause-outcome : goal.returns-clause-outcome
returns-clause-outcome g c =
    let outcome = subst (λ (o : Option ℕ). ComeTo c.args.store.now.limit (bond_of c.args.bonds) c.args.batch.now c.args.events.now
    (motion_of c.args.store.now c.args.totals.now) (unless_left o (mixed_in c.run.new.self)))
    (none_left c.first_leaving.result c.in_default-first_leaving.not-Some)
    (came g (goal.at.returns-clause-outcome g c).After-first_leaving) in
    search rules

pub returns-in-Some-first_leaving-clause-cost : goal.returns-in-Some-first_leaving-clause-cost
returns-in-Some-first_leaving-clause-cost g c =
    let cost = spent g (goal.at.returns-in-Some-first_leaving-clause-cost g c).After-first_leaving in search rules

pub returns-clause-cost : goal.returns-clause-cost
returns-clause-cost g c =
    let cost = spent g (goal.at.returns-clause-cost g c).After-first_leaving in search rules

pub returns-clause-sound : goal.returns-clause-sound
returns-clause-sound g c =
    let after = c.run.new.self in
    let stages = stages_are g (goal.at.returns-clause-sound g c).After-first_leaving in
    let bookings = bookings_of_legal (length c.as_mut_slice.result.now) c.args.events.now c.in_default.ensures.outcome in
    let sound : StaysSound (length c.args.batch.now) c.args.store.now after.store.now c.args.totals.now after.totals.now = record {
      inside = c.run.ensures.moved.inside;
      room = λ n h. room_at _ (omega (arith, stages, bookings)) (c.run.ensures.room n h);
    } in
    search rules
