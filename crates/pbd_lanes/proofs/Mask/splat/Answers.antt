use Rattle.std.proofs.Common.{ℕ, false, replicate}
use Rattle.std.proofs.lemmas.List.{get_or-replicate, length-replicate}
use Rattle.std.proofs.lemmas.List.FromFn.{fill_by_all}
use Rattle.pbd_lanes.proofs.Mask.splat.Goals as goal

pub returns : goal.returns
returns g c = fill_by_all (λ (j : ℕ). c.args.value) (replicate g.row.L c.args.value) g.row.L false (length-replicate g.row.L c.args.value)
    (λ k h. get_or-replicate g.row.L k c.args.value false h)
