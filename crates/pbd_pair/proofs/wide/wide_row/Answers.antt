use Rattle.std.proofs.Common.{◌≡◌, ◌<ℤ◌, ◌≤ℤ◌, ◌∙◌, rules, subst, w64, FitsSigned}
use Rattle.std.proofs.lemmas.Int.{to_z-of_z}
use Rattle.pbd_num.specs.declared.Vec3.{Vec3}
use Rattle.pbd_num.specs.declared.tried.Pull.{Pull}
use Rattle.pbd_num.specs.Vectors.{zero_vector}
use Rattle.pbd_num.specs.PairMove.{pair_moves}
use Rattle.pbd_num.proofs.Lengths.{length_below}
use Rattle.pbd_pair.proofs.WideRows.{wide_near}
use Rattle.pbd_pair.proofs.wide.wide_row.Goals as goal

pub returns-clause-near : goal.returns-clause-near
returns-clause-near c = λ b pulled flag.
    let way = c.args.way in
    let first = c.args.weights.first in
    let second = c.args.weights.second in
    let tried = c.try_moves-tried.ensures in
    let m = c.try_moves-tried.result in
    let both : Vec3 × Vec3 = (m.first, m.second) in
    let f2 : FitsSigned w64 second = search rules in
    let free = simp to_z-of_z at c.free_move-axes.ensures.free in
    let held = simp to_z-of_z at c.free_move-axes.ensures.held in
    let value = c.row_of.ensures.value flag in
    let exact = c.row_of.ensures.exact flag in
    wide_near first second c.row_of.result m.first m.second c.requires.weights.first_low c.requires.weights.second_low tried.first_held tried.second_held
    tried.opposed
    (λ h. value ∙ free h) (λ h. value ∙ held h) way b m.length (length_below way c.requires.way) (tried.length exact)
    (subst (λ (d : Pull). m.length <ℤ d.reach → both ≡ pair_moves way zero_vector d.rest d.k first second) pulled (tried.moves exact))
    (subst (λ (d : Pull). d.reach ≤ℤ m.length → m.first ≡ zero_vector) pulled (tried.first_rests exact))
    (subst (λ (d : Pull). d.reach ≤ℤ m.length → m.second ≡ zero_vector) pulled (tried.second_rests exact))
    flag (c.row_of.ensures.size flag)
