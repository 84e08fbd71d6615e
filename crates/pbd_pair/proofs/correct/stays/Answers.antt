use Rattle.std.proofs.Common.{◌&&◌, w64, FitsSigned}
use Rattle.std.proofs.lemmas.Int.{to_z-of_z}
use Rattle.std.proofs.lemmas.Bool.{and_parts}
use Rattle.pbd_pair.proofs.correct.stays.Goals as goal

pub returns-clause-test : goal.returns-clause-test
returns-clause-test c =
    let f : FitsSigned w64 c.args.limit = c.ranges.limit in
    let first = simp to_z-of_z at c.within-first.ensures.test in
    let second = simp to_z-of_z at c.within-second.ensures.test in
    λ i. first i && second i

pub returns-clause-first : goal.returns-clause-first
returns-clause-first c = λ r.
    let f : FitsSigned w64 c.args.limit = c.ranges.limit in
    let h = simp to_z-of_z at c.within-first.ensures.facts in
    h.0 (and_parts _ _ r).0

pub returns-clause-second : goal.returns-clause-second
returns-clause-second c = λ r.
    let f : FitsSigned w64 c.args.limit = c.ranges.limit in
    let h = simp to_z-of_z at c.within-second.ensures.facts in
    h.0 (and_parts _ _ r).1
