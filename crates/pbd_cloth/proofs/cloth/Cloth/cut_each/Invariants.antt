use Rattle.pbd_cloth.proofs.Cutting.{AreCut}
use Rattle.pbd_cloth.proofs.cloth.Cloth.cut_each.Given as goal

-- the first i are cut
abbrev pub invariant-loop-i : goal.invariant-loop-i
invariant-loop-i l = AreCut l.links l.i l.count l.fn.self l.self
