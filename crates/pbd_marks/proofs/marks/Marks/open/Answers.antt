use Rattle.std.proofs.Common.{ap, ◌∙◌, ◌∷◌, sym, subst, List, Bool}
use Rattle.pbd_world.specs.World.{opened}
use Rattle.pbd_marks.specs.Keeping.{FitTogether, marked, worlds_in}
use Rattle.pbd_marks.proofs.KeepingLemmas.{with_first}
use Rattle.pbd_marks.proofs.marks.Marks.open.Goals as goal

pub invariant_of-result : goal.invariant_of-result
invariant_of-result g c =
    let first = c.in_ok-first.first.world in
    let others = worlds_in c.in_ok-others.others.items in
    subst (λ (bs : List Bool). FitTogether bs (first ∷ others)) (sym c.none_set.ensures)
    (with_first (opened c.args.scene.now) first others c.in_ok-first.ensures.world c.in_ok-others.ensures).fit

pub returns-clause-scene : goal.returns-clause-scene
returns-clause-scene g c = (with_first (opened c.args.scene.now) c.in_ok-first.first.world
    (worlds_in c.in_ok-others.others.items) c.in_ok-first.ensures.world c.in_ok-others.ensures).scene

pub returns-clause-marks : goal.returns-clause-marks
returns-clause-marks g c =
    let first = c.in_ok-first.first.world in
    let others = worlds_in c.in_ok-others.others.items in
    ap (λ (bs : List Bool). marked bs (first ∷ others)) c.none_set.ensures
    ∙ (with_first (opened c.args.scene.now) first others c.in_ok-first.ensures.world c.in_ok-others.ensures).marks
