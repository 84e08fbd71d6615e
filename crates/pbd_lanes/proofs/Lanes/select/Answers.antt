use Rattle.std.proofs.Common.{pos, cond, arith}
use Rattle.std.proofs.lemmas.List.FromFn.{fill_by_all}
use Rattle.pbd_lanes.specs.Lane.{lane, is_set}
use Rattle.pbd_lanes.proofs.Lanes.select.Goals as goal

pub returns : goal.returns
returns g c = fill_by_all (λ j. cond (is_set c.args.mask.now j) (lane c.args.yes.now j) (lane c.args.no.now j)) c.loop-j.values g.row.L
    (pos 0) c.loop-j.invariant.whole (λ k h. let e = c.loop-j.invariant.below k (omega arith) in cc)
