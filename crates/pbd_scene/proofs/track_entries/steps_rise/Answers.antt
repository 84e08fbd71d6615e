use Rattle.std.proofs.Common.{sym, arith, ◌-◌, ◌+◌, ◌<◌, length, nat_lt}
use Rattle.pbd_mesh.proofs.Below.{not_below}
use Rattle.pbd_scene.specs.Entries.{step_of, steps_rise}
use Rattle.pbd_scene.proofs.track_entries.steps_rise.Goals as goal

pub returns-then-not-rises_at : goal.returns-then-not-rises_at
unfolding steps_rise
returns-then-not-rises_at c =
    let keys = c.args.keys.now in
    let within : c.loop-i.i < length keys - 1 = omega (arith, c.loop-i-test.true, c.saturating_sub-i-end.ensures) in
    sym (not_below (length keys - 1) (λ i. nat_lt (step_of keys i) (step_of keys (i + 1))) c.loop-i.i
    (sym c.if-not-rises_at.ensures) within)
