use Rattle.std.proofs.Common.{◌≡◌, ℕ, ◌+◌, ◌*◌, ◌^◌, ◌≤◌, drop}
use Rattle.pbd_world.specs.Ledger.{ledger_of, HaveRoom}
use Rattle.pbd_world.specs.Bonds.{projected}
use Rattle.pbd_pair.specs.Bonds.{bond_of}
use Rattle.pbd_store.specs.Moving.{motion_of, fixed_parts, AreInside}
use Rattle.pbd_pair.proofs.scalar.ScalarProjector.project.Given as goal

abbrev pub invariant-loop-n : goal.invariant-loop-n
invariant-loop-n g l =
    record {
      room : HaveRoom (2 ^ 120 + l.n-index * 2 ^ 32) (ledger_of l.totals);
      grows : (n : ℕ) → HaveRoom n (ledger_of l.initial.totals) → HaveRoom (n + l.n-index * 2 ^ 32) (ledger_of l.totals);
      inside : AreInside l.initial.store.limit l.store.particles;
      same : projected l.initial.store.limit (bond_of l.bonds) (drop l.n-index l.batch) (motion_of l.store l.totals)
          ≡ projected l.initial.store.limit
          (bond_of l.bonds) l.batch (motion_of l.initial.store l.initial.totals);
      limit : l.store.limit ≡ l.initial.store.limit;
      copies : l.store.copies ≡ l.initial.store.copies;
      fixed : fixed_parts l.store.particles ≡ fixed_parts l.initial.store.particles;
      cost : l.steps ≤ l.initial.steps + 4 * l.n-index;
    }
