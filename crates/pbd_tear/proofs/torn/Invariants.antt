use Rattle.std.proofs.Common.{◌≡◌, ◌+◌, ◌*◌, ◌≤◌, length, take}
use Rattle.pbd_tear.proofs.Numbers.{torn_among, tearable_among}
use Rattle.pbd_tear.proofs.torn.Given as goal

-- of the numbers so far, those of links that tear are in the list
abbrev pub invariant-loop-n : goal.invariant-loop-n
invariant-loop-n g l = record {
  so_far : l.out.entries ≡ torn_among l.store.particles l.links (take l.n-index l.numbers);
  few : length l.out.entries ≤ l.n-index;
  room : l.out.room ≡ l.initial.out.room;
  cost : l.steps ≤ l.initial.steps + 2 * tearable_among l.links (take l.n-index l.numbers);
}
