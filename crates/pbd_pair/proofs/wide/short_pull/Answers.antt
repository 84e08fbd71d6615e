use Rattle.std.proofs.Common.{◌/◌, ◌^◌, ℤ, pos, unsigned_abs, ap, sym, cond, ◌∙◌, w32, w64, FitsSigned}
use Rattle.std.proofs.lemmas.Int.{to_z-of_z}
use Rattle.pbd_pair.proofs.WideRows.{is_pull, short_stiffness}
use Rattle.pbd_pair.proofs.wide.short_pull.Goals as goal

pub returns : goal.returns
returns c =
    let r : FitsSigned w32 c.args.rest = c.ranges.rest in
    let f : FitsSigned w32 c.args.factor = c.ranges.factor in
    let fr : FitsSigned w64 c.from-rest.result = record { sfits = c.from-rest.type_inv } in
    let ff : FitsSigned w64 c.from.result = record { sfits = c.from.type_inv } in
    let fk : FitsSigned w64 c.stiffness_by.result = record { sfits = c.stiffness_by.type_inv } in
    let fg : FitsSigned w64 c.reach.result = record { sfits = c.reach.type_inv } in
    let rest = simp to_z-of_z at c.from-rest.ensures in
    let factor = simp to_z-of_z at c.from.ensures in
    let k = simp to_z-of_z at c.stiffness_by.ensures in
    let reach = simp to_z-of_z at c.reach.ensures in
    let half = ap (λ (z : ℤ). pos (unsigned_abs z / 2)) factor in
    simp to_z-of_z (λ b firm rests holds kind.
    let named = c.requires.factor in
    let rest_is = rest ∙ rests.near (holds.short named) in
    let k_is = short_stiffness c.requires.first c.requires.second firm holds named (λ h g. k.both h g ∙ factor) (λ h. k.first h ∙ half)
    (λ h. k.second h ∙ half) in
    let reach_is = reach ∙ (λ i. cond (sym kind i) (rest_is i) (pos (2 ^ 31))) in
    is_pull (λ i. record { rest = rest_is i; k = k_is i; reach = reach_is i }) firm)
