use Rattle.std.proofs.Common.{◌&&◌, int_le, pos, ◌∙◌, sym, w64, FitsSigned, rules}
use Rattle.std.proofs.lemmas.Int.{to_z-of_z}
use Rattle.pbd_num.specs.Vectors.{minus, length_of}
use Rattle.pbd_world.specs.Bonds.{is_slack}
use Rattle.pbd_pair.proofs.correct.slack.Goals as goal

pub returns-then-bond : goal.returns-then-bond
unfolding is_slack
returns-then-bond c =
    let rest : FitsSigned w64 c.args.bond.rest = search rules in
    let distance : FitsSigned w64 c.distance.result = record { sfits = c.distance.type_inv } in
    simp to_z-of_z (λ i. sym c.if-bond.true i && int_le c.args.bond.rest (c.distance.ensures i))

pub returns-else-bond : goal.returns-else-bond
unfolding is_slack
returns-else-bond c = c.if-bond.false ∙ (λ i. sym c.if-bond.false i
    && int_le c.args.bond.rest (pos (length_of (minus c.args.p.at c.args.q.at))))
