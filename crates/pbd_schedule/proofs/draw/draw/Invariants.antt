use Rattle.std.proofs.Common.{◌≡◌, ◌+◌, ◌*◌, ◌≤◌, ◌-◌, length, take, ◌++◌}
use Rattle.pbd_schedule.specs.Drawn.{drawn_from, first_events, later}
use Rattle.pbd_schedule.proofs.DrawingOn.{still_to_come}
use Rattle.pbd_schedule.proofs.draw.draw.Given as goal

abbrev pub invariant-loop : goal.invariant-loop
invariant-loop l =
    record {
      size : length l.coming ≡ length l.initial.coming;
      left : l.left ≤ length l.coming;
      to_come : still_to_come (take l.left l.coming) + l.counter ≡ 3 * length l.initial.coming;
      room : l.events.room ≡ 98304;
      events : l.events.entries ++ drawn_from (3 * length l.initial.coming - l.counter) l.words (take l.left l.coming)
          ≡ drawn_from (3 * length l.initial.coming) l.initial.words (first_events (length l.initial.coming));
      count : length l.events.entries ≡ l.counter;
      words : later (3 * length l.initial.coming - l.counter) l.words ≡ later (3 * length l.initial.coming) l.initial.words;
    }
