use Rattle.std.proofs.Common.{◌≡◌, sym, ap, ◌∙◌}
use Rattle.pbd_session.specs.Replaying.{compared_where_both, difference, first_difference}
use Rattle.pbd_session.proofs.Comparing.{answers_differ, both_sums, no_found, no_recorded, sums_decide}
use Rattle.pbd_session.proofs.replay.difference.Goals.{In_default}
use Rattle.pbd_session.proofs.replay.difference.Goals as goal

-- the answers are alike
decide : (c : In_default) → difference c.args.recorded.now c.args.found.now
    ≡ first_difference (compared_where_both c.args.recorded.now.sums c.args.found.now.sums)
decide c = sums_decide c.args.recorded.now c.args.found.now _ _ c.compared_answers-answers.ensures c.first_difference.ensures c.in_default.is

pub returns-in-Some : goal.returns-in-Some
returns-in-Some c = answers_differ c.args.recorded.now c.args.found.now _ _ _ c.compared_answers-answers.ensures c.first_difference.ensures
    c.in-Some.is

pub returns-in-Some-Some : goal.returns-in-Some-Some
returns-in-Some-Some c = c.first_difference-in-Some-Some.ensures ∙ (ap first_difference c.compared_sums.ensures
    ∙ sym (decide (goal.at.returns-in-Some-Some c).In_default ∙ both_sums _ _ _ _ c.in-Some-Some.is-0 c.in-Some-Some.is-1))

pub returns-in_default-2 : goal.returns-in_default-2
returns-in_default-2 c =
    sym (decide (goal.at.returns-in_default-2 c).In_default ∙ no_found _ _ _ c.in_default-2.is-0 c.in_default-2.is-1)

pub returns-in_default-2-2 : goal.returns-in_default-2-2
returns-in_default-2-2 c = sym (decide (goal.at.returns-in_default-2-2 c).In_default ∙ no_recorded _ _ c.in_default-2.is-0)
