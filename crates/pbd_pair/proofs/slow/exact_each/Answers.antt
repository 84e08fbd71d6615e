use Rattle.std.proofs.Common.{◌<◌, ◌^◌, length, sym, subst, arith, rules}
use Rattle.pbd_num.specs.declared.Vec3.{Vec3}
use Rattle.pbd_num.specs.Vectors.{Within}
use Rattle.pbd_world.specs.declared.bond.Bond.{Bond}
use Rattle.pbd_pair.specs.Laid.{IsFirm}
use Rattle.pbd_pair.proofs.Chunks.{weights_sized, weights_told}
use Rattle.pbd_pair.proofs.Filling.{filled_none, filled_more}
use Rattle.pbd_pair.proofs.WideRows.{same_exact, same_row}
use Rattle.pbd_pair.proofs.slow.exact_each.Goals as goal

pub loop-j-init : goal.loop-j-init
loop-j-init c = filled_none (search rules)

pub moves_of-requires-clause-bond : goal.moves_of-requires-clause-bond
moves_of-requires-clause-bond c = subst (λ (b : Bond). IsFirm b) (sym c.get.ensures) (c.requires.known.firm c.loop-j.j (omega arith))

pub moves_of-requires-clause-row : goal.moves_of-requires-clause-row
moves_of-requires-clause-row c = λ flag.
    let j = c.loop-j.j in
    let p : j < length c.args.found.now.chunk.numbers.now = omega arith in
    let weights = weights_told c.requires.sized j p c.weights_of-weights.ensures.first c.weights_of-weights.ensures.second in
    same_row (sym c.vector-way.ensures) (sym weights.0) (sym weights.1) (sym c.get.ensures) (c.requires.tried.each j p flag)

pub moves_of-requires-clause-weights : goal.moves_of-requires-clause-weights
moves_of-requires-clause-weights c = weights_sized c.requires.sized c.loop-j.j (omega arith) c.weights_of-weights.ensures.first
    c.weights_of-weights.ensures.second

pub moves_of-requires-clause-way : goal.moves_of-requires-clause-way
moves_of-requires-clause-way c = subst (λ (v : Vec3). Within (2 ^ 30) v) (sym c.vector-way.ensures)
    (c.requires.sized.way c.loop-j.j (omega arith))

pub loop-j-preserved : goal.loop-j-preserved
loop-j-preserved c =
    let j = c.loop-j.j in
    let p : j < length c.args.found.now.chunk.numbers.now = omega arith in
    let weights = weights_told c.requires.sized j p c.weights_of-weights.ensures.first c.weights_of-weights.ensures.second in
    filled_more c.moves_of.result (omega (arith, c.requires.known.few))
    (same_exact c.vector-way.ensures weights.0 weights.1 c.get.ensures c.moves_of.ensures) c.loop-j.invariant

pub returns : goal.returns
returns c = record { whole = c.loop-j.invariant.whole; each = λ j p. c.loop-j.invariant.below j (omega arith) }
