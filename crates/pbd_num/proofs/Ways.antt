-- Moves by the way between the ends alone.
use Rattle.std.proofs.Common.{◌≡◌, ℕ, ◌+◌, ◌<◌, ◌⊎◌, cond, ◌||◌, ◌==◌, ap, ◌∙◌, sym, subst, arith, ℤ, pos, ◌-ℤ◌, unsigned_abs}
use Rattle.std.proofs.lemmas.Int.{ints}
use Rattle.pbd_num.specs.declared.Vec3.{Vec3}
use Rattle.pbd_num.specs.Vectors.{minus, opposite, length_of, zero_vector}
use Rattle.pbd_num.specs.PairMove.{corrections, shares, pair_moves}
use Rattle.pbd_num.proofs.Lengths.{pair_moves-none, pair_moves-some}

minus_zero : (n : ℤ) → n -ℤ pos 0 ≡ n
minus_zero n = omega (arith, ints)

-- a vector less nothing is the vector
pub minus_nothing : (v : Vec3) → minus v zero_vector ≡ v
minus_nothing v = λ i. record { x = minus_zero v.x i; y = minus_zero v.y i; z = minus_zero v.z i }

-- the moves of a way that isn't nothing, where a weight isn't 0
abbrev pub moves_of : Vec3 → ℤ → ℤ → ℤ → ℤ → Vec3 × Vec3
moves_of way rest k wa wb = (
  opposite (shares (corrections way rest) k wa (unsigned_abs wa + unsigned_abs wb)),
  shares (corrections way rest) k wb (unsigned_abs wa + unsigned_abs wb),
)

-- the way between two ends says how they move
pub pair_moves-along : (a b : Vec3) (rest k wa wb : ℤ) → pair_moves a b rest k wa wb ≡ pair_moves (minus a b) zero_vector rest k wa wb
unfolding pair_moves
pair_moves-along a b rest k wa wb =
    ap (λ d. cond ((length_of d == 0) || (unsigned_abs wa + unsigned_abs wb == 0)) (zero_vector, zero_vector) (moves_of d rest k wa wb))
    (sym (minus_nothing (minus a b)))

-- ---- the two cases of a way

pub along-none : (way : Vec3) (rest k wa wb : ℤ) → (length_of way ≡ 0) ⊎ (unsigned_abs wa + unsigned_abs wb ≡ 0)
    → pair_moves way zero_vector rest k wa wb ≡ (zero_vector, zero_vector)
along-none way rest k wa wb h =
    pair_moves-none way zero_vector rest k wa wb (subst (λ v. (length_of v ≡ 0) ⊎ (unsigned_abs wa + unsigned_abs wb ≡ 0))
    (sym (minus_nothing way)) h)

pub along-some : (way : Vec3) (rest k wa wb : ℤ) → 0 < length_of way → 0 < unsigned_abs wa + unsigned_abs wb
    → pair_moves way zero_vector rest k wa wb ≡ moves_of way rest k wa wb
along-some way rest k wa wb h j =
    let far = subst (λ v. 0 < length_of v) (sym (minus_nothing way)) h in
    pair_moves-some way zero_vector rest k wa wb far j ∙ ap (λ v. moves_of v rest k wa wb) (minus_nothing way)

-- the moves from what each step answers
pub along-by_steps : (way s first second turned : Vec3) (rest k wa wb : ℤ) (total : ℕ) → s ≡ corrections way rest
    → first ≡ shares s k wa total
    → second ≡ shares s k wb total → turned ≡ opposite first → total ≡ unsigned_abs wa + unsigned_abs wb → 0 < length_of way → 0 < total
    → (turned, second) ≡ pair_moves way zero_vector rest k wa wb
along-by_steps way s first second turned rest k wa wb total hs h1 h2 ht sum apart weighs =
    let heavy : 0 < unsigned_abs wa + unsigned_abs wb = omega arith in
    let e1 = h1 ∙ ap (λ v. shares v k wa total) hs ∙ ap (shares (corrections way rest) k wa) sum in
    let e2 = h2 ∙ ap (λ v. shares v k wb total) hs ∙ ap (shares (corrections way rest) k wb) sum in
    let e3 = ht ∙ ap opposite e1 in
    (λ i. (e3 i, e2 i)) ∙ sym (along-some way rest k wa wb apart heavy)
