use Rattle.std.proofs.Common.{◌++◌, length, take}
use Rattle.std.specs.List.{flat_map}
use Rattle.pbd_log.specs.Entries.{number_bytes}
use Rattle.pbd_encoding.specs.Feeding.{Fed}
use Rattle.pbd_encoding.proofs.scene.feed_all.Given as goal

-- how many items there are, and the items so far, were fed
abbrev pub invariant-loop-item : goal.invariant-loop-item
invariant-loop-item g l = Fed l.fn.hasher l.hasher (number_bytes 4 (length l.items)
    ++ flat_map g.T.ScenePiece.spelled (take l.item-index l.items))
