use Rattle.std.proofs.Common.{◌≤◌, ◌+◌, ◌-◌, length, vec_len}
use Rattle.std.specs.Io.KnownBytes.{Consumes}
use Rattle.pbd_run.proofs.reading.read_all.Given as goal

-- the input so far is what the source gave
abbrev pub invariant-reading : goal.invariant-reading
invariant-reading g l = record {
  bytes : Consumes (g.S.Source.left l.fn.source) (g.S.Source.left l.source) l.input.items;
  later : g.S.Source.faults l.fn.source ≤ g.S.Source.faults l.source;
  short : length l.input.items ≤ l.fn.limit + 1;
}

abbrev pub decreases-reading : goal.decreases-reading
decreases-reading g l = l.limit + 1 - vec_len l.input
