use Rattle.std.proofs.Common.{◌≡◌, ℕ, ℤ, ◌+◌, ◌*◌, ◌^◌, ◌≤◌, List, suc, refl, ap, sym, ◌∙◌, arith, drop, take, length, get_or, add-one, subst}
use Rattle.std.specs.List.{sum_by}
use Rattle.std.proofs.Math.Seq.{drop-cons}
use Rattle.std.proofs.lemmas.List.{length-take}
use Rattle.std.proofs.lemmas.List.Sums.{fold_more, sum_by-take-le}
use Rattle.pbd_world.specs.Ledger.{ledger_of, HaveRoom}
use Rattle.pbd_world.proofs.Rooms.{room_at}
use Rattle.pbd_pair.specs.Bonds.{bond_of}
use Rattle.pbd_schedule.specs.declared.event.Event.{Event}
use Rattle.pbd_schedule.specs.declared.event.Event.TheVariants.{Read}
use Rattle.pbd_schedule.specs.Mixed.{bond_at, mixed, happened}
use Rattle.pbd_schedule.specs.Mixing.{mixed_in}
use Rattle.pbd_schedule.specs.Stages.{accesses, bookings, AreSound}
use Rattle.pbd_schedule.proofs.Counting.{few_bookings}
use Rattle.pbd_schedule.proofs.Mixing.{may_go_on, moved_none, moved_on, works_on_itself, works_on_same}
use Rattle.pbd_schedule.proofs.mix.Mix.run.Goals as goal

pub loop-event-init : goal.loop-event-init
loop-event-init g c =
    let mix = c.args.self.now in
    let ready = c.requires.ready in
    let moved = moved_none mix.store.now ready.inside in
    record {
      ready = may_go_on (2 ^ 120) (2 ^ 125) c.args.bonds.now c.args.batch.now mix mix ready moved refl ready.sound
          (room_at _ (omega arith) ready.room);
      value = refl;
      moved = moved;
      notes = refl;
      sound = ready.sound;
      same = works_on_itself mix;
      room = λ n h. room_at _ (omega arith) h;
      cost = omega arith;
    }

pub loop-event-preserved : goal.loop-event-preserved
loop-event-preserved g c =
    let inv = c.loop-event.invariant in
    let did = c.happen.ensures in
    let i = c.loop-event.event-index in
    let events = c.args.events.now in
    let event = get_or events i (Read 0) in
    let first = c.args.self.now in
    let before = c.loop-event.self in
    let after = c.happen.new.self in
    let bond = bond_at (bond_of c.args.bonds.now) c.args.batch.now in
    let all = mixed first.store.now.limit bond in
    let step : mixed_in after ≡ happened first.store.now.limit bond event (mixed_in before) =
    did.value ∙ ap (λ (limit : ℤ). happened limit bond event (mixed_in before)) inv.moved.limit in
    let booked = fold_more (λ (a : ℕ) (x : Event). a + bookings x) 0 events i (Read 0) (omega arith) in
    let counted = fold_more (λ (a : ℕ) (x : Event). a + accesses x) 0 events i (Read 0) (omega arith) in
    let room : (n : ℕ) → HaveRoom n (ledger_of first.totals.now)
    → HaveRoom (n + sum_by bookings (take (i + 1) events) * 2 ^ 32) (ledger_of after.totals.now) =
    λ n h. room_at _ (omega (arith, booked)) (did.room _ (inv.room n h)) in
    let few : sum_by bookings (take (i + 1) events) ≤ length events =
    omega (arith, few_bookings (take (i + 1) events), length-take (i + 1) events) in
    record {
      ready = may_go_on (2 ^ 125) (2 ^ 125) c.args.bonds.now c.args.batch.now before after inv.ready did.moved did.notes did.sound
          (room_at _ (omega (arith, few, c.requires.few)) (room (2 ^ 120) c.requires.ready.room));
      value = ap (λ (j : ℕ). all (drop j events) (mixed_in after)) (add-one i) ∙ ap (all (drop (suc i) events)) step
          ∙ sym (ap (λ (l : List Event). all l (mixed_in before)) (drop-cons events i (Read 0) (omega arith))) ∙ inv.value;
      moved = moved_on inv.moved did.moved;
      notes = did.notes ∙ inv.notes;
      sound = subst (λ (limit : ℤ). AreSound limit after.notes.now) inv.moved.limit did.sound;
      same = works_on_same inv.same did.same;
      room = room;
      cost = omega (arith, did.cost, inv.cost, counted);
    }

pub returns-clause-room : goal.returns-clause-room
returns-clause-room g c = λ n h. room_at _ (omega (arith, sum_by-take-le bookings c.args.events.now c.loop-event.event-index))
    (c.loop-event.invariant.room n h)
