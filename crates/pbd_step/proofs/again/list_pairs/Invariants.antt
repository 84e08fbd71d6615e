use Rattle.std.proofs.Common.{◌≡◌, take}
use Rattle.pbd_world.specs.Contacts.{link_pairs}
use Rattle.pbd_step.proofs.again.list_pairs.Given as goal

abbrev pub invariant-loop-link : goal.invariant-loop-link
invariant-loop-link l = record {
  room : l.pairs.room ≡ l.fn.pairs.room;
  pairs : l.pairs.entries ≡ link_pairs (take l.link-index l.links);
}
