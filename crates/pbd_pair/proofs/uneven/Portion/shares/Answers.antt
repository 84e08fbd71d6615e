use Rattle.std.proofs.Common.{◌≡◌, ℕ, ◌*◌, ◌-◌, ◌^◌, ◌<◌, ap, ◌∙◌, arith, ℤ, pos, ◌≤ℤ◌, to_z, of_z, w32, w64, FitsSigned}
use Rattle.std.proofs.Common.{unsigned_abs, int_le, int_lt, IsTrue, ◌&&◌}
use Rattle.std.proofs.lemmas.Int.{ints, to_z-of_z, to_z_pos}
use Rattle.pbd_num.specs.Rounding.{rdiv}
use Rattle.pbd_num.proofs.Sizes.{pos_size}
use Rattle.pbd_pair.proofs.Sharing.{left_tested, part_by_left, share_size, signed_share}
use Rattle.pbd_pair.proofs.uneven.Portion.shares.Goals as goal

-- what is left tests the shares, by its word
words_tested : {left whole : ℤ} (t : ℕ) → FitsSigned w64 left → FitsSigned w64 whole → whole ≡ pos (256 * t)
    → IsTrue (int_le (pos 0) (to_z w64 (of_z w64 left)) && int_lt (to_z w64 (of_z w64 left)) (to_z w64 (of_z w64 whole)))
    → (pos 0 ≤ℤ left) × (unsigned_abs left < 256 * t)
words_tested {left} {whole} t left_fits whole_fits is right = left_tested left whole t is (simp to_z-of_z at right)

pub returns-clause-first : goal.returns-clause-first
returns-clause-first c = λ right.
    let p = c.requires.portion in
    let total = c.args.self.total in
    let axis = c.ranges.axis in
    let result : FitsSigned w32 c.signed.result = record { sfits = c.signed.type_inv } in
    let tested = words_tested total (record { sfits = c.left-left.type_inv }) (record { sfits = c.from.type_inv }) c.from.ensures right in
    let part = part_by_left _ total c.guessed-share.result _ p.some tested.1 (c.left-left.ensures tested.0) in
    let share : to_z w32 c.guessed-share.result ≡ pos c.guessed-share.result = to_z_pos w32 c.guessed-share.result
    (omega (arith, c.guessed-share.ensures)) in
    let size = simp to_z-of_z at c.unsigned_abs-size.ensures.value in
    let is = share ∙ part ∙ ap (λ n. rdiv (pos (n * c.args.self.k * c.args.self.first)) (pos (256 * total))) size in
    let above = simp to_z-of_z at c.signed.ensures.above in
    let below = simp to_z-of_z at c.signed.ensures.below in
    simp to_z-of_z (signed_share c.args.axis _ c.signed.result c.args.self.k c.args.self.first total p.some is above below)

pub returns-clause-second : goal.returns-clause-second
returns-clause-second c = λ right.
    let p = c.requires.portion in
    let total = c.args.self.total in
    let axis = c.ranges.axis in
    let other : FitsSigned w32 c.other-other.result = record { sfits = c.other-other.type_inv } in
    let result : FitsSigned w32 c.signed-2.result = record { sfits = c.signed-2.type_inv } in
    let left : FitsSigned w64 c.left-left.result = record { sfits = c.left-left.type_inv } in
    let tested = words_tested total left (record { sfits = c.from.type_inv }) c.from.ensures right in
    let low25 = simp to_z-of_z at c.low25.ensures.same in
    let same = low25 tested.0 (omega (arith, ints, pos_size _ tested.0, tested.1, p.total)) in
    let leaves = c.left-left.ensures tested.0 in
    let part = c.other-other.ensures.value (omega (arith, same, tested.1)) (omega (arith, same, leaves)) in
    let size = simp to_z-of_z at c.unsigned_abs-size.ensures.value in
    let rest = total - c.args.self.first in
    let is = part ∙ ap (λ n. rdiv (pos (n * c.args.self.k * rest)) (pos (256 * total))) size in
    let above = simp to_z-of_z at c.signed-2.ensures.above in
    let below = simp to_z-of_z at c.signed-2.ensures.below in
    simp to_z-of_z (signed_share c.args.axis _ c.signed-2.result c.args.self.k rest total p.some is above below)

pub returns-clause-second_size : goal.returns-clause-second_size
returns-clause-second_size c = λ right.
    let p = c.requires.portion in
    rw (returns-clause-second c right)
    (share_size c.args.axis c.args.self.k (c.args.self.total - c.args.self.first) c.args.self.total (2 ^ 16) p.some p.k (omega arith)
    c.requires.axis)
