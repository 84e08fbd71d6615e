use Rattle.std.proofs.Common.{pos, ◌-ℤ◌, arith}
use Rattle.std.proofs.lemmas.List.FromFn.{fill_by_all}
use Rattle.pbd_lanes.specs.Lane.{lane}
use Rattle.pbd_lanes.proofs.Lanes.sub.Goals as goal

pub returns : goal.returns
returns g c =
    fill_by_all (λ j. lane c.args.self.now j -ℤ lane c.args.other.now j) c.loop-j.values g.row.L (pos 0) c.loop-j.invariant.whole
    (λ k h. let e = c.loop-j.invariant.below k (omega arith) in cc)
