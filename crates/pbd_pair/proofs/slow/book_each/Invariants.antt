use Rattle.std.proofs.Common.{◌≡◌, ℕ, ◌+◌, ◌*◌, ◌^◌}
use Rattle.pbd_world.specs.Ledger.{ledger_of, HaveRoom}
use Rattle.pbd_pair.specs.Moves.{settled}
use Rattle.pbd_pair.specs.Chunks.{entries_in}
use Rattle.pbd_pair.proofs.slow.book_each.Given as goal

abbrev pub invariant-loop-j : goal.invariant-loop-j
invariant-loop-j l = record {
  value : ledger_of l.totals ≡ settled (entries_in l.found l.moves) l.j (ledger_of l.initial.totals);
  room : (n : ℕ) → HaveRoom n (ledger_of l.initial.totals) → HaveRoom (n + l.j * 2 ^ 32) (ledger_of l.totals);
}
