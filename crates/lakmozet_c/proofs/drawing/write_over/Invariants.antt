use Rattle.std.proofs.Common.{◌≡◌, take}
use Rattle.pbd_world.specs.Lending.{overwritten}
use Rattle.lakmozet_c.proofs.drawing.write_over.Given as goal

-- the triangles so far, over what was there
abbrev pub invariant-loop-i : goal.invariant-loop-i
invariant-loop-i l = l.into ≡ overwritten l.fn.into (take l.i l.triangles)
