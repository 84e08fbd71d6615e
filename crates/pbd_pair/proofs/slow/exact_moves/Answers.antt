use Rattle.std.proofs.Common.{◌≡◌, ◌≤◌, ◌^◌, pos, ◌<ℤ◌, ◌≤ℤ◌, unsigned_abs, refl, sym, subst}
use Rattle.pbd_num.specs.declared.tried.Pull.{Pull}
use Rattle.pbd_num.specs.Vectors.{length_of, zero_vector}
use Rattle.pbd_num.specs.PairMove.{pair_moves}
use Rattle.pbd_num.proofs.Lengths.{length_below}
use Rattle.pbd_num.proofs.Sizes.{size_at_most}
use Rattle.pbd_pair.specs.Chunks.{reach_of}
use Rattle.pbd_pair.proofs.Exact.{moves_by_reach}
use Rattle.pbd_pair.proofs.slow.exact_moves.Goals as goal

pub moves_along-requires-clause-rest_low : goal.moves_along-requires-clause-rest_low
moves_along-requires-clause-rest_low c = subst (λ (d : Pull). pos 0 ≤ℤ d.rest) (sym c.pull_of.ensures) c.requires.bond.rest_low

pub moves_along-requires-clause-rest_high : goal.moves_along-requires-clause-rest_high
moves_along-requires-clause-rest_high c = subst (λ (d : Pull). d.rest ≤ℤ pos (2 ^ 31)) (sym c.pull_of.ensures) c.requires.bond.rest_high

pub moves_along-requires-clause-stiffness : goal.moves_along-requires-clause-stiffness
moves_along-requires-clause-stiffness c =
    subst (λ (d : Pull). unsigned_abs d.k ≤ 256) (sym c.pull_of.ensures)
    (size_at_most c.args.bond.k 256 c.requires.bond.k_low c.requires.bond.k_high)

pub returns-clause-moves : goal.returns-clause-moves
returns-clause-moves c =
    let way = c.args.way in
    let first = c.args.weights.first in
    let second = c.args.weights.second in
    let m = c.moves_along.result in
    moves_by_reach way first second c.args.bond m (reach_of c.args.bond) refl (length_below way c.requires.way)
    (subst (λ (d : Pull). pos (length_of way) <ℤ d.reach → m ≡ pair_moves way zero_vector d.rest d.k first second) c.pull_of.ensures
    c.moves_along.ensures.moves)
    (subst (λ (d : Pull). d.reach ≤ℤ pos (length_of way) → m ≡ (zero_vector, zero_vector)) c.pull_of.ensures c.moves_along.ensures.rests)
