use Rattle.std.proofs.Common.{◌≡◌, ℕ, ◌+◌, ◌*◌, ◌^◌, ◌≤◌, drop, take, length}
use Rattle.std.specs.List.{sum_by}
use Rattle.pbd_world.specs.Ledger.{ledger_of, HaveRoom}
use Rattle.pbd_pair.specs.Bonds.{bond_of}
use Rattle.pbd_schedule.specs.Mixed.{bond_at, mixed}
use Rattle.pbd_schedule.specs.Mixing.{mixed_in, CanMix, IsMoved, WorksOnSame}
use Rattle.pbd_schedule.specs.Stages.{accesses, bookings, AreSound}
use Rattle.pbd_schedule.proofs.mix.Mix.run.Given as goal

abbrev pub invariant-loop-event : goal.invariant-loop-event
invariant-loop-event g l =
    let before = l.initial.self in
    let all = mixed before.store.now.limit (bond_at (bond_of l.bonds) l.batch) in
    record {
      ready : CanMix (2 ^ 125) l.bonds l.batch l.self;
      value : all (drop l.event-index l.events) (mixed_in l.self) ≡ all l.events (mixed_in before);
      moved : IsMoved before.store.now l.self.store.now;
      notes : length l.self.notes.now ≡ length before.notes.now;
      sound : AreSound before.store.now.limit l.self.notes.now;
      same : WorksOnSame before l.self;
      room : (n : ℕ) → HaveRoom n (ledger_of before.totals.now)
          → HaveRoom (n + sum_by bookings (take l.event-index l.events) * 2 ^ 32) (ledger_of l.self.totals.now);
      cost : l.self.steps.now ≤ before.steps.now + sum_by accesses (take l.event-index l.events);
    }
