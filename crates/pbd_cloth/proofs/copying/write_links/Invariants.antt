use Rattle.std.proofs.Common.{◌≡◌, take, map}
use Rattle.pbd_world.specs.Lending.{overwritten}
use Rattle.pbd_cloth.proofs.copying.write_links.Given as goal

-- the first i are written
abbrev pub invariant-loop-i : goal.invariant-loop-i
invariant-loop-i g l = l.into ≡ overwritten l.fn.into (take l.i (map g.R.Reading.value l.links))
