use Rattle.std.proofs.Common.{false, int_lt, arith}
use Rattle.std.proofs.lemmas.List.FromFn.{fill_by_all}
use Rattle.pbd_lanes.specs.Lane.{lane}
use Rattle.pbd_lanes.proofs.Lanes.less.Goals as goal

pub returns : goal.returns
returns g c =
    fill_by_all (λ j. int_lt (lane c.args.self.now j) (lane c.args.other.now j)) c.loop-j.set g.row.L false c.loop-j.invariant.whole
    (λ k h. let e = c.loop-j.invariant.below k (omega arith) in cc)
