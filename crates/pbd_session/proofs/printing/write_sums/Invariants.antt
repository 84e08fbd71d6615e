use Rattle.std.proofs.Common.{◌≤◌, take}
use Rattle.std.specs.List.{flat_map}
use Rattle.std.specs.Io.KnownBytes.{Appends}
use Rattle.pbd_session.specs.declared.printing.NamedTotal.{NamedTotal}
use Rattle.pbd_session.specs.Naming.{named_of}
use Rattle.pbd_session.specs.Printing.{sum_after}
use Rattle.pbd_session.proofs.printing.write_sums.Given as goal

-- the lines of the sums so far are written
abbrev pub invariant-loop-sum : goal.invariant-loop-sum
invariant-loop-sum g l = record {
  bytes : Appends (g.K.Sink.written l.fn.sink) (g.K.Sink.written l.sink)
      (flat_map {X = NamedTotal} (λ s. sum_after l.prefix (named_of s)) (take l.sum-index l.sums));
  later : g.K.Sink.faults l.fn.sink ≤ g.K.Sink.faults l.sink;
}
