use Rattle.std.proofs.Common.{◌<◌, length, pos, arith, rules, get_or, w32, FitsSigned, below_more}
use Rattle.std.proofs.lemmas.Int.{to_z-of_z}
use Rattle.pbd_pair.proofs.Chunks.{below_both, short_fits}
use Rattle.pbd_pair.proofs.near.least_weight.Goals as goal

pub loop-j-init : goal.loop-j-init
loop-j-init c = record { first = λ k p. absurd (omega (arith, p)); second = λ k p. absurd (omega (arith, p)) }

pub loop-j-preserved : goal.loop-j-preserved
loop-j-preserved c =
    let j = c.loop-j.j in
    let inv = c.loop-j.invariant in
    let weighed = c.requires.weighed in
    let p : j < length c.args.first.now = omega arith in
    let f : FitsSigned w32 (get_or c.args.first.now j (pos 0)) = short_fits _ (weighed.first_low j p) (weighed.first_high j p) in
    let g : FitsSigned w32 (get_or c.args.second.now j (pos 0)) = short_fits _ (weighed.second_low j p) (weighed.second_high j p) in
    let h : FitsSigned w32 c.loop-j.least = search rules in
    let m : FitsSigned w32 c.min.result = record { sfits = c.min.type_inv } in
    let here = simp to_z-of_z at c.min.ensures in
    let then = simp to_z-of_z at c.min-least.ensures in
    let r : FitsSigned w32 c.min-least.result = record { sfits = c.min-least.type_inv } in
    let left = then.self_bound in
    let old = here.self_bound in
    simp to_z-of_z (record {
      first = below_more _ _ (λ i q. below_both _ _ _ left (below_both _ _ _ old (inv.first i q))) (below_both _ _ _ left here.other_bound);
      second = below_more _ _ (λ i q. below_both _ _ _ left (below_both _ _ _ old (inv.second i q))) then.other_bound;
    })

pub returns-clause-first : goal.returns-clause-first
returns-clause-first c = λ j p. c.loop-j.invariant.first j (omega arith)

pub returns-clause-second : goal.returns-clause-second
returns-clause-second c = λ j p. c.loop-j.invariant.second j (omega arith)
