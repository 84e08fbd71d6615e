use Rattle.std.proofs.Common.{sym, ◌∙◌, w64, FitsSigned}
use Rattle.std.proofs.lemmas.Int.{to_z-of_z}
use Rattle.pbd_pair.proofs.Single.{leaves_case}
use Rattle.pbd_pair.proofs.correct.correct.Goals as goal

pub returns-then-stays-clause-sound : goal.returns-then-stays-clause-sound
returns-then-stays-clause-sound c =
    let f : FitsSigned w64 c.args.limit = c.ranges.limit in
    let first = simp to_z-of_z at c.stays.ensures.first in
    let second = simp to_z-of_z at c.stays.ensures.second in
    record {
      first = first c.if-stays.true;
      second = second c.if-stays.true;
      first_move = c.shifted-shift.ensures.first;
      second_move = c.shifted-shift.ensures.second;
    }

pub returns-else-stays-clause-value : goal.returns-else-stays-clause-value
returns-else-stays-clause-value c =
    let f : FitsSigned w64 c.args.limit = c.ranges.limit in
    let test = simp to_z-of_z at c.stays.ensures.test in
    leaves_case c.args.limit c.args.p c.args.q c.args.bond c.shifted-shift.result
    (sym c.slack.ensures ∙ c.if-slack.false) c.shifted-shift.ensures.value
    (sym test ∙ c.if-stays.false)
