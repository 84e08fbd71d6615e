use Rattle.std.proofs.Common.{rules, ◌∙◌, sym, ap, arith, w64, Some}
use Rattle.std.specs.Prelude.{FitsSigned}
use Rattle.std.proofs.lemmas.Int.{to_z-of_z}
use Rattle.pbd_num.proofs.Sizes.{fits}
use Rattle.pbd_obj.proofs.Numbers.{units_none, units_some}
use Rattle.pbd_obj.proofs.decimal.units_of.Goals as goal

pub returns-in_err-d : goal.returns-in_err-d
returns-in_err-d c = c.from_residual.ensures ∙ sym (units_none c.args.word.now (sym c.decimal_of.ensures.value ∙ c.in_err-d.was))

pub returns : goal.returns
returns c =
    let few = c.in_ok-d.ensures.bounds in
    let power : FitsSigned w64 c.in_ok-d.d.power = fits c.in_ok-d.d.power (omega (arith, few.power)) in
    let result : FitsSigned w64 c.signed.result = search rules in
    let size = simp to_z-of_z at c.size.ensures.value in
    simp to_z-of_z (ap (λ z. Some z) c.signed.ensures ∙ sym
    (units_some c.args.word.now c.in_ok-d.d c.size.result (sym c.decimal_of.ensures.value ∙ c.in_ok-d.was) size))
