use Rattle.std.proofs.Common.{◌≡◌, replicate}
use Rattle.pbd_world.specs.World.{opened}
use Rattle.pbd_cloth.proofs.cloth.open_slots.Given as goal

-- so many slots are opened
abbrev pub invariant-loop : goal.invariant-loop
invariant-loop l = l.kept.items ≡ replicate l.counter (opened l.scene)
