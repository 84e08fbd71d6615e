use Rattle.std.proofs.Common.{◌&&◌, false, arith}
use Rattle.std.proofs.lemmas.List.FromFn.{fill_by_all}
use Rattle.pbd_lanes.specs.Lane.{is_set}
use Rattle.pbd_lanes.proofs.Mask.and.Goals as goal

pub returns : goal.returns
returns g c = fill_by_all (λ j. is_set c.args.self.now j && is_set c.args.other.now j) c.loop-j.set g.row.L (false) c.loop-j.invariant.whole
    (λ k h. let e = c.loop-j.invariant.below k (omega arith) in cc)
