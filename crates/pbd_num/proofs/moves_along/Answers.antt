use Rattle.std.proofs.Common.{arith, rules, ◌≤ℤ◌, w64, FitsSigned}
use Rattle.std.proofs.lemmas.Int.{to_z-of_z, ints}
use Rattle.pbd_num.proofs.Tests.{at_most, beyond}
use Rattle.pbd_num.proofs.moves_along.Goals as goal

pub returns-then-tried-clause-rests : goal.returns-then-tried-clause-rests
returns-then-tried-clause-rests c far =
    let long = c.try_moves-tried.ensures.length c.if-tried.true in
    let far' : c.args.pull.reach ≤ℤ c.try_moves-tried.result.length = rw long far in
    let e1 = c.try_moves-tried.ensures.first_rests c.if-tried.true far' in
    let e2 = c.try_moves-tried.ensures.second_rests c.if-tried.true far' in
    λ i. (e1 i, e2 i)

pub returns-then-pull-len-clause-moves : goal.returns-then-pull-len-clause-moves
returns-then-pull-len-clause-moves c near =
    let reach : FitsSigned w64 c.args.pull.reach = search rules in
    let len : FitsSigned w64 c.length-len.result = record { sfits = c.length-len.type_inv } in
    let far = at_most c.args.pull.reach c.length-len.result (simp to_z-of_z at c.if-pull-len.true) in
    let is = c.length-len.ensures.value in
    absurd (omega (arith, ints))

pub returns-clause-rests : goal.returns-clause-rests
returns-clause-rests c far =
    let reach : FitsSigned w64 c.args.pull.reach = search rules in
    let len : FitsSigned w64 c.length-len.result = record { sfits = c.length-len.type_inv } in
    let within = beyond c.args.pull.reach c.length-len.result (simp to_z-of_z at c.if-pull-len.false) in
    let is = c.length-len.ensures.value in
    absurd (omega (arith, ints))
