use Rattle.std.proofs.Common.{◌≡◌, length}
use Rattle.pbd_store.specs.InRows.{place_in}
use Rattle.pbd_store.specs.Flying.{halves_at, WrittenRows, AreSummed, are_free}
use Rattle.pbd_store.proofs.fly.fly_rows.Given as goal

-- the rows so far have flown
abbrev pub invariant-loop-i : goal.invariant-loop-i
invariant-loop-i l = record {
  count : l.count ≡ length l.fn.flight.held.now;
  rows : WrittenRows l.fn.flight.forces l.fn.flight.held.now l.i l.initial.at l.initial.high l.initial.before l.at l.high l.before;
  sums : AreSummed l.fn.flight.forces l.i (are_free l.fn.flight.held.now) (place_in l.initial.at) (place_in l.initial.before)
      (halves_at l.at l.high) (record { free = l.free; lost = l.lost; reach = l.reach });
}
