use Rattle.std.proofs.Common.{ℕ, ap, ◌∙◌, arith, drop, add-one}
use Rattle.pbd_schedule.specs.Mixed.{first_leaving}
use Rattle.pbd_schedule.proofs.Mixing.{goes_on, not_leaving}
use Rattle.pbd_schedule.proofs.mix.first_leaving.Goals as goal

pub loop-k-preserved : goal.loop-k-preserved
loop-k-preserved c =
    let batch = c.args.batch.now in
    let notes = c.args.notes.now in
    let k = c.loop-k.k in
    ap (λ (j : ℕ). first_leaving (drop j batch) (drop j notes)) (add-one k)
    ∙ goes_on batch notes k (omega arith) (omega (arith, c.requires)) (not_leaving _ c.in_default.not-Leaves)
    ∙ c.loop-k.invariant
