use Rattle.std.proofs.Common.{◌^◌, ap, sym, ◌∙◌, arith, rules, subst, w64, FitsSigned}
use Rattle.std.proofs.lemmas.Int.{to_z-of_z}
use Rattle.pbd_num.specs.declared.Vec3.{Vec3}
use Rattle.pbd_num.specs.Vectors.{Within, opposite}
use Rattle.pbd_num.proofs.Ranges.{wider}
use Rattle.pbd_pair.proofs.Settled.{kept_size_by}
use Rattle.pbd_pair.proofs.slow.row_moves.Goals as goal

pub opposite-requires : goal.opposite-requires
opposite-requires c =
    let f : FitsSigned w64 c.args.weights.first = search rules in
    let is = simp to_z-of_z at c.kept-back.ensures in
    subst (λ (v : Vec3). Within (2 ^ 61) v) (sym is) (wider _ (2 ^ 22) (2 ^ 61) (omega arith)
    (kept_size_by c.args.weights.first c.args.row c.requires))

pub returns-clause-first : goal.returns-clause-first
returns-clause-first c =
    let f : FitsSigned w64 c.args.weights.first = search rules in
    let is = simp to_z-of_z at c.kept-back.ensures in
    c.opposite.ensures.value ∙ ap opposite is

pub returns-clause-second : goal.returns-clause-second
returns-clause-second c =
    let f : FitsSigned w64 c.args.weights.second = search rules in
    simp to_z-of_z at c.kept.ensures
