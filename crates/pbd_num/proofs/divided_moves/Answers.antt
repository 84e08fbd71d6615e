use Rattle.std.proofs.Common.{arith, ◌≡◌, ◌≤◌, ◌^◌, ◌+◌, ℤ, ◌+ℤ◌, ◌<ℤ◌, ◌≤ℤ◌, pos, unsigned_abs, to_z, of_z, w64, FitsSigned, sym, ap, inl}
use Rattle.std.proofs.Common.{inr, rules}
use Rattle.std.proofs.lemmas.Int.{to_z-of_z, ints}
use Rattle.pbd_num.specs.declared.Vec3.{Vec3}
use Rattle.pbd_num.specs.Vectors.{Within}
use Rattle.pbd_num.proofs.Sizes.{fits, size-sum, size_at_most, size_pos}
use Rattle.pbd_num.proofs.Lengths.{length_below}
use Rattle.pbd_num.proofs.VectorSizes.{word}
use Rattle.pbd_num.proofs.Ways.{along-none, along-by_steps}
use Rattle.pbd_num.proofs.divided_moves.Goals as goal
use Rattle.pbd_num.proofs.divided_moves.Goals.{Start}

-- two weights, and what they are together
record Total (first second : ℤ) : Type 0 where
  first_fits : FitsSigned w64 first
  second_fits : FitsSigned w64 second
  sum_fits : FitsSigned w64 (first +ℤ second)
  sum : unsigned_abs (first +ℤ second) ≡ unsigned_abs first + unsigned_abs second
  high : unsigned_abs (first +ℤ second) ≤ 131070
  low : (of_z w64 (first +ℤ second) ≡ 0 → ⊥) → pos 0 <ℤ (first +ℤ second)

total_of : (c : Start) → Total c.args.weights.first c.args.weights.second
total_of c =
    let r = c.requires in
    let sum = size-sum c.args.weights.first c.args.weights.second r.first_low r.second_low in
    let a = size_at_most c.args.weights.first 65535 r.first_low r.first_high in
    let b = size_at_most c.args.weights.second 65535 r.second_low r.second_high in
    record {
      first_fits = fits _ (omega arith);
      second_fits = fits _ (omega arith);
      sum_fits = fits _ (omega arith);
      sum = sum;
      high = omega arith;
      low = (λ some. let above = size_pos (c.args.weights.first +ℤ c.args.weights.second) some in omega (arith, ints));
    }

-- what a test against 0 says
size_none : (z : ℤ) → FitsSigned w64 z → of_z w64 z ≡ 0 → unsigned_abs z ≡ 0
size_none z z_fits e = let is : to_z w64 (of_z w64 z) ≡ pos 0 = ap (to_z w64) e in ap unsigned_abs (simp to_z-of_z at is)

-- what a share of the vector v asks, of the weight w
asked : (v : Vec3) (k w first second : ℤ) → Total first second → Within (2 ^ 31) v → unsigned_abs k ≤ 256 → pos 0 ≤ℤ w
    → unsigned_abs w ≤ unsigned_abs first + unsigned_abs second → (of_z w64 (word first +ℤ word second) ≡ 0 → ⊥)
    → record {
      size : Within (2 ^ 31) v;
      stiffness : unsigned_abs (word k) ≤ 256;
      weight_low : pos 0 ≤ℤ word w;
      weight : unsigned_abs (word w) ≤ unsigned_abs (word (word first +ℤ word second));
      total_low : pos 0 <ℤ word (word first +ℤ word second);
      total_high : unsigned_abs (word (word first +ℤ word second)) ≤ 131070;
    }
asked v k w first second total within size low part some =
    let k_fits = fits k (omega (arith, size)) in
    let a = total.first_fits in
    let b = total.second_fits in
    let all = total.sum_fits in
    let w_fits = fits w (omega (arith, part, total.sum, total.high)) in
    record {
      size = within;
      stiffness = simp to_z-of_z size;
      weight_low = simp to_z-of_z low;
      weight = simp to_z-of_z (omega (arith, total.sum, part));
      total_low = simp to_z-of_z (total.low (simp to_z-of_z at some));
      total_high = simp to_z-of_z total.high;
    }

pub returns-then-len-eq0-clause-moves : goal.returns-then-len-eq0-clause-moves
returns-then-len-eq0-clause-moves c =
    let w = c.args.weights in
    let total = total_of (goal.at.returns-then-len-eq0-clause-moves c).Start in
    let a = total.first_fits in
    let b = total.second_fits in
    let all = total.sum_fits in
    sym (along-none c.args.way c.args.pull.rest c.args.pull.k w.first w.second
    (elim c.then-len-eq0.either [
      | inl e ↦ inl (omega (arith, ap unsigned_abs c.requires.length, size_none c.args.len c.ranges.len e))
      | inr p ↦ inr (omega (arith, total.sum, size_none (w.first +ℤ w.second) all (simp to_z-of_z at p.1)))
    ]))

pub returns-clause-moves : goal.returns-clause-moves
returns-clause-moves c =
    let w = c.args.weights in
    let total = total_of (goal.at.returns-clause-moves c).Start in
    let a = total.first_fits in
    let b = total.second_fits in
    let all = total.sum_fits in
    let k = fits c.args.pull.k (omega (arith, c.requires.stiffness)) in
    let rest : FitsSigned w64 c.args.pull.rest = search rules in
    along-by_steps c.args.way c.correction-s.result c.share-first.result c.share-second.result c.opposite.result
    c.args.pull.rest c.args.pull.k w.first w.second (unsigned_abs (w.first +ℤ w.second))
    (simp to_z-of_z at c.correction-s.ensures.value) (simp to_z-of_z at c.share-first.ensures.value)
    (simp to_z-of_z at c.share-second.ensures.value)
    c.opposite.ensures.value total.sum
    (omega (arith, ap unsigned_abs c.requires.length, size_pos c.args.len c.if-len-eq0.false))
    (size_pos (w.first +ℤ w.second) (simp to_z-of_z at c.if-total-eq0.false))

pub returns-clause-first_size : goal.returns-clause-first_size
returns-clause-first_size c = c.opposite.ensures.size (2 ^ 31) c.share-first.ensures.size

pub share-first-requires : goal.share-first-requires
share-first-requires c =
    asked c.correction-s.result c.args.pull.k c.args.weights.first _ _ (total_of (goal.at.share-first-requires c).Start)
    c.correction-s.ensures.size c.requires.stiffness c.requires.first_low (omega arith) c.if-total-eq0.false

pub share-second-requires : goal.share-second-requires
share-second-requires c =
    asked c.correction-s.result c.args.pull.k c.args.weights.second _ _ (total_of (goal.at.share-second-requires c).Start)
    c.correction-s.ensures.size c.requires.stiffness c.requires.second_low (omega arith) c.if-total-eq0.false

pub correction-s-requires : goal.correction-s-requires
correction-s-requires c =
    let len = c.ranges.len in
    let rest : FitsSigned w64 c.args.pull.rest = search rules in
    record {
      size = c.requires.way;
      length = simp to_z-of_z c.requires.length;
      length_size = length_below c.args.way c.requires.way;
      some = omega (arith, ap unsigned_abs c.requires.length, size_pos c.args.len c.if-len-eq0.false);
      rest_low = simp to_z-of_z c.requires.rest_low;
      rest_high = simp to_z-of_z c.requires.rest_high;
    }
