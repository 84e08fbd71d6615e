use Rattle.std.proofs.Common.{pos, cond, arith}
use Rattle.std.proofs.lemmas.List.FromFn.{fill_by_all}
use Rattle.pbd_num.specs.Rounding.{rdiv}
use Rattle.pbd_lanes.specs.Lane.{lane, is_set}
use Rattle.pbd_lanes.proofs.Lanes.rdiv_lanes.Goals as goal

pub returns : goal.returns
returns g c =
    fill_by_all (λ j. cond (is_set c.args.mask.now j) (rdiv (lane c.args.n.now j) (lane c.args.d.now j)) (pos 0)) c.loop-j.values g.row.L
    (pos 0)
    c.loop-j.invariant.whole (λ k h. let e = c.loop-j.invariant.below k (omega arith) in cc)
