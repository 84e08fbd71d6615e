use Rattle.std.proofs.Common.{◌≡◌}
use Rattle.pbd_store.specs.Gathering.{Scattered}
use Rattle.pbd_store.proofs.store.Store.scatter.Given as goal

abbrev pub invariant-loop-j : goal.invariant-loop-j
invariant-loop-j g l =
    record {
      done : Scattered l.j l.indices l.set l.values.x l.values.y l.values.z l.initial.self-inside.columns l.self-inside.columns;
      limit : l.self-inside.limit ≡ l.initial.self-inside.limit;
      copies : l.self-inside.copies ≡ l.initial.self-inside.copies;
    }
