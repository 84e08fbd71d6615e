use Rattle.std.proofs.Common.{◌^◌, sym, subst}
use Rattle.pbd_num.specs.declared.Vec3.{Vec3}
use Rattle.pbd_num.specs.Vectors.{Within}
use Rattle.pbd_world.specs.declared.bond.Bond.{Bond}
use Rattle.pbd_pair.specs.Laid.{IsFirm}
use Rattle.pbd_pair.proofs.Chunks.{weights_sized, weights_told}
use Rattle.pbd_pair.proofs.WideRows.{near_told, same_row}
use Rattle.pbd_pair.proofs.mend.mended.Goals as goal

pub exact_moves-requires-clause-bond : goal.exact_moves-requires-clause-bond
exact_moves-requires-clause-bond c = subst (λ (b : Bond). IsFirm b) (sym c.get-bond.ensures) (c.requires.known.firm c.args.j c.requires.one)

pub exact_moves-requires-clause-way : goal.exact_moves-requires-clause-way
exact_moves-requires-clause-way c = subst (λ (v : Vec3). Within (2 ^ 30) v) (sym c.vector.ensures)
    (c.requires.columns.sized.way c.args.j c.requires.one)

pub exact_moves-requires-clause-weights : goal.exact_moves-requires-clause-weights
exact_moves-requires-clause-weights c = weights_sized c.requires.columns.sized c.args.j c.requires.one c.weights_of-weights.ensures.first
    c.weights_of-weights.ensures.second

pub returns : goal.returns
returns c =
    let weights = weights_told c.requires.columns.sized c.args.j c.requires.one c.weights_of-weights.ensures.first
    c.weights_of-weights.ensures.second in
    λ flag. same_row c.vector.ensures weights.0 weights.1 c.get-bond.ensures
    (near_told c.exact_moves.result c.told_row.ensures c.exact_moves.ensures.moves flag)
