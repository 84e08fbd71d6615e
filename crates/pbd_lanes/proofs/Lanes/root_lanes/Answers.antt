use Rattle.std.proofs.Common.{pos, cond, unsigned_abs, arith}
use Rattle.std.proofs.lemmas.List.FromFn.{fill_by_all}
use Rattle.pbd_num.specs.Rounding.{root}
use Rattle.pbd_lanes.specs.Lane.{lane, is_set}
use Rattle.pbd_lanes.proofs.Lanes.root_lanes.Goals as goal

pub returns : goal.returns
returns g c =
    fill_by_all (λ j. cond (is_set c.args.mask.now j) (pos (root (unsigned_abs (lane c.args.n.now j)))) (pos 0)) c.loop-j.values g.row.L
    (pos 0)
    c.loop-j.invariant.whole (λ k h. let e = c.loop-j.invariant.below k (omega arith) in cc)
