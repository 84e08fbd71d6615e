use Rattle.std.proofs.Common.{arith, sym, subst, pos, get_or, w32, FitsSigned}
use Rattle.std.proofs.lemmas.Int.{ints, to_z-of_z, fits_signed_from_abs}
use Rattle.pbd_num.specs.Rows.{vector_of}
use Rattle.pbd_num.proofs.Sizes.{size_at_most, size_le}
use Rattle.pbd_near.proofs.Taking.{pulled}
use Rattle.pbd_near.proofs.Rows.{found_more, found_none, no_flag, zero_flag}
use Rattle.pbd_near.specs.declared.shares.Taken.{Taken}
use Rattle.pbd_near.specs.Columns.{IsTaken}
use Rattle.pbd_near.proofs.Near.moves.Goals as goal

pub loop-j-init : goal.loop-j-init
loop-j-init c = found_none c.args.self.now.ways c.args.rest.now c.args.factor.now c.args.contact c.args.moves.now

pub loop-j-preserved : goal.loop-j-preserved
loop-j-preserved c =
    let j = c.loop-j.j in
    let r = c.requires in
    let d = c.pull_of-pull.ensures in
    let pull = c.pull_of-pull.result in
    let rest_size = size_at_most (get_or c.args.rest.now j (pos 0)) 16383 (r.rest_low j (omega arith)) (r.rest_high j (omega arith)) in
    let factor_size = size_le (get_or c.args.factor.now j (pos 0)) 512 (r.factor_high j (omega arith))
    (omega (arith, ints, r.factor_low j (omega arith))) in
    let rest = fits_signed_from_abs w32 (get_or c.args.rest.now j (pos 0)) (omega (arith, rest_size)) in
    let given = fits_signed_from_abs w32 (get_or c.args.factor.now j (pos 0)) (omega (arith, factor_size)) in
    let slack : FitsSigned w32 c.slack_of-slack.result = record { sfits = c.slack_of-slack.type_inv } in
    let error = fits_signed_from_abs w32 pull.error (omega (arith, d.error_size)) in
    let flag = fits_signed_from_abs w32 c.row-row.result.flag (omega (arith, c.row-row.ensures.flag)) in
    let error_is = simp to_z-of_z at d.error in
    let none = simp to_z-of_z at d.slack in
    let some = simp to_z-of_z at d.pulled in
    let asked = simp to_z-of_z at d.asked in
    found_more j _ _ _ _ _ _ c.loop-j.moves c.row-row.result (omega arith)
    (λ f way taken. pulled (vector_of way) pull.length pull.error pull.factor _ _ c.slack_of-slack.result c.args.contact _
    c.slack_of-slack.ensures error_is d.error_size none some (asked (c.row-row.ensures.asked f))
    (c.row-row.ensures.value f way (subst (λ (t : Taken). IsTaken way t) (sym c.taken.ensures) taken)))
    (no_flag c.row-row.result.flag c.row-row.ensures.flag)
    (zero_flag c.row-row.result.flag)
    c.loop-j.invariant

pub returns-clause-each : goal.returns-clause-each
returns-clause-each c = λ j q. c.loop-j.invariant.each j (omega arith)

pub returns-clause-only : goal.returns-clause-only
returns-clause-only c = λ none. c.loop-j.invariant.only (λ j q. none j (omega arith))
