use Rattle.std.proofs.Common.{◌≡◌, take}
use Rattle.pbd_world.proofs.list.List.copied.Given as goal

-- what stood before was copied
abbrev pub invariant-loop-item : goal.invariant-loop-item
invariant-loop-item g l = l.list ≡ take l.item-index l.items
