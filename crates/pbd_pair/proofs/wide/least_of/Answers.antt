use Rattle.std.proofs.Common.{◌<◌, length, pos, arith, rules, get_or, w32, FitsSigned, below_more}
use Rattle.std.proofs.lemmas.Int.{to_z-of_z}
use Rattle.pbd_pair.proofs.Chunks.{share_fits, below_both}
use Rattle.pbd_pair.proofs.wide.least_of.Goals as goal

pub loop-j-init : goal.loop-j-init
loop-j-init c = λ k p. absurd (omega (arith, p))

pub loop-j-preserved : goal.loop-j-preserved
loop-j-preserved c =
    let j = c.loop-j.j in
    let p : j < length c.args.numbers.now = omega arith in
    let f : FitsSigned w32 (get_or c.args.numbers.now j (pos 0)) = share_fits _ (c.requires.low j p) (c.requires.high j p) in
    let g : FitsSigned w32 c.loop-j.least = search rules in
    let is = simp to_z-of_z at c.min-least.ensures in
    let r : FitsSigned w32 c.min-least.result = record { sfits = c.min-least.type_inv } in
    simp to_z-of_z (below_more _ _ (λ i h. below_both _ _ _ is.self_bound (c.loop-j.invariant i h)) is.other_bound)

pub returns : goal.returns
returns c = λ j p. c.loop-j.invariant j (omega arith)
