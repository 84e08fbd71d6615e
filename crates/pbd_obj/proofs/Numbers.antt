-- What digits write, and numbers times powers of ten.
use Rattle.std.proofs.Common.{◌≡◌, ◌∙◌, sym, ap, refl, ℕ, zero, suc, ◌+◌, ◌-◌, ◌*◌, ◌/◌, ◌^◌, ◌<◌, ◌≤◌, min, Bool, true, false, ◌&&◌, List}
use Rattle.std.proofs.Common.{[], ◌∷◌, ◌++◌, length, Option, Some, None, nat_le, arith, lit<, inl, inr, length-append, ℤ, pos}
use Rattle.std.proofs.Common.{negsuc, neg_ℤ, unsigned_abs, ◌<ℤ◌, ◌≤ℤ◌}
use Rattle.std.specs.Prelude.{position, unwrap_or, IfSome, IsTrue, cond}
use Rattle.std.specs.List.{list_all, position_or_len}
use Rattle.std.specs.Option.{option_map}
use Rattle.std.proofs.Math.Nat.{pow-le-pow_right, div-eq_of_lt, one-le-pow}
use Rattle.std.proofs.lemmas.Nat.{pow-add, mul-le}
use Rattle.std.proofs.lemmas.Bool.{cases_lt, and_parts, lt-ltb, le-ltb}
use Rattle.std.proofs.lemmas.Bool.Decides.{nat_tests}
use Rattle.std.proofs.lemmas.Int.{ints}
use Rattle.std.specs.Prelude.{◌-ℤ◌}
use Rattle.std.proofs.lemmas.List.Sums.{prefix_len-le-length}
use Rattle.pbd_num.specs.Rounding.{rdiv}
use Rattle.pbd_script.specs.Lines.{value, is_digit, is_count, count}
use Rattle.pbd_obj.specs.declared.decimal.Decimal.{Decimal}
use Rattle.pbd_obj.specs.Decimals.{signed, scaled, decimal, units, units_of, with_digits, are_few_digits}
use Rattle.pbd_obj.specs.Sizes.{capped, capped_size, lowered, scaled_size}
use Rattle.pbd_script.proofs.NumberLemmas.{digit_small}

-- ---- where a byte stands

pub position_end : {X : Type 0} (p : X → Bool) (xs : List X) → unwrap_or (position p xs) (length xs) ≡ position_or_len p xs
position_end p xs = elim (cases_lt (position_or_len p xs) (length xs)) [
  | inl lt ↦ rw (lt-ltb _ _ lt) refl
  | inr le ↦ (let most : position_or_len p xs ≤ length xs = prefix_len-le-length _ xs in
      let e : length xs ≡ position_or_len p xs = omega (arith, most, le) in rw (le-ltb _ _ le) e)
]

pub position_most : {X : Type 0} (p : X → Bool) (xs : List X) → position_or_len p xs ≤ length xs
position_most p xs = prefix_len-le-length _ xs

-- ---- digits

pub value_below : (ds : List ℕ) → IsTrue (list_all is_digit ds) → value ds < 10 ^ length ds
value_below [] all = omega arith
value_below (d ∷ ds) all =
    let parts = and_parts (is_digit d) (list_all is_digit ds) all in
    let most : (d - 48) * 10 ^ length ds ≤ 9 * 10 ^ length ds =
    mul-le (d - 48) (10 ^ length ds) 9 (10 ^ length ds) (digit_small d parts.0) (omega arith) in
    let ten : 10 ^ suc (length ds) ≡ 10 ^ length ds * 10 = omega arith in
    let all : value (d ∷ ds) < 10 ^ suc (length ds) = omega (arith, most, ten, value_below ds parts.1) in
    all

count_case : (is : Bool) (word : List ℕ) (most : ℕ) → is_count word ≡ is → length word ≤ most
    → IfSome (cond is (Some (value word)) None) (λ n. n < 10 ^ most)
count_case false word most is le = tt
count_case true word most is le =
    let digits : IsTrue (list_all is_digit word) = (and_parts (nat_le 1 (length word) && nat_le (length word) 18)
    (list_all is_digit word) is).1 in
    let wider : 10 ^ length word ≤ 10 ^ most = pow-le-pow_right {n = 10} (lit< tt) le in
    omega (arith, wider, value_below word digits)

pub count_below : (word : List ℕ) (most : ℕ) (r : Option ℕ) → r ≡ count word → length word ≤ most → IfSome r (λ n. n < 10 ^ most)
count_below word most r is le = rw is (count_case (is_count word) word most refl le)

-- two rows of digits as one
pub value-append : (xs ys : List ℕ) → value (xs ++ ys) ≡ value xs * 10 ^ length ys + value ys
value-append [] ys = omega arith
value-append (x ∷ xs) ys =
    let size : 10 ^ length (xs ++ ys) ≡ 10 ^ length xs * 10 ^ length ys = ap (λ n. 10 ^ n) (length-append xs ys)
    ∙ pow-add 10 (length xs) (length ys) in
    rw (size, value-append xs ys) (omega arith)

-- ---- a number times a power of ten

pub ten_pos : (k : ℕ) → 0 < 10 ^ k
ten_pos k = one-le-pow k 10 (lit< tt)

pub ten_le : (i j : ℕ) → i ≤ j → 10 ^ i ≤ 10 ^ j
ten_le i j le = pow-le-pow_right {n = 10} (lit< tt) le

lowered_away : (n k : ℕ) → n < 10 ^ 29 → 30 ≤ k → lowered n k ≡ 0
lowered_away n k small le =
    let big : 10 ^ 30 ≤ 10 ^ k = ten_le 30 k le in
    div-eq_of_lt (omega (arith, big, small))

-- by 30 places nothing is left
pub lowered_most : (n k : ℕ) → n < 10 ^ 29 → lowered n (min k 30) ≡ lowered n k
lowered_most n k small = elim (cases_lt k 30) [
  | inl lt ↦ (let e : min k 30 ≡ k = omega arith in rw e refl)
  | inr le ↦ (let e : min k 30 ≡ 30 = omega arith in rw e (lowered_away n 30 small (omega arith) ∙ sym (lowered_away n k small le)))
]

too_great : (m k : ℕ) → 4 ≤ k → capped_size (suc m * 65536 * 10 ^ k) ≡ 536870913
too_great m k le =
    let big : 10 ^ 4 ≤ 10 ^ k = ten_le 4 k le in
    let all : suc m * 65536 * 10 ^ 4 ≤ suc m * 65536 * 10 ^ k =
    mul-le (suc m * 65536) (10 ^ 4) (suc m * 65536) (10 ^ k) (omega arith) big in
    omega (arith, all)

-- four places more make any number too great
pub raised_most : (d k : ℕ) → capped_size (d * 65536 * 10 ^ min k 4) ≡ capped_size (d * 65536 * 10 ^ k)
raised_most zero k = omega arith
raised_most (suc d) k = elim (cases_lt k 4) [
  | inl lt ↦ (let e : min k 4 ≡ k = omega arith in rw e refl)
  | inr le ↦ (let e : min k 4 ≡ 4 = omega arith in rw e (too_great d 4 (omega arith) ∙ sym (too_great d k le)))
]

-- ---- signs

signed_capped : (minus : Bool) (n : ℕ) → signed minus (capped_size n) ≡ capped (signed minus n)
signed_capped false n = refl
signed_capped true zero = refl
signed_capped true (suc n) = ap (λ k. neg_ℤ (pos (capped_size k))) (omega arith)

zero_lowered : (k : ℕ) → lowered 0 k ≡ 0
zero_lowered k = let p = ten_pos k in div-eq_of_lt (omega (arith, p))

pub signed_scaled : (minus : Bool) (n : ℕ) (power : ℤ) → scaled (signed minus n) power ≡ signed minus (scaled_size n power)
unfolding scaled scaled_size rdiv
signed_scaled false n (pos k) = refl
signed_scaled false n (negsuc k) = refl
signed_scaled true zero (pos k) = omega (arith, ints)
signed_scaled true zero (negsuc k) = rw (zero_lowered (k + 1)) refl
signed_scaled true (suc n) (pos k) = omega (arith, ints)
signed_scaled true (suc n) (negsuc k) = ap (λ m. neg_ℤ (pos ((2 * m + 10 ^ (k + 1)) / (2 * 10 ^ (k + 1))))) (omega arith)

pub capped_units : (minus : Bool) (n : ℕ) (power : ℤ) → signed minus (capped_size (scaled_size n power))
    ≡ capped (scaled (signed minus n) power)
capped_units minus n power = signed_capped minus (scaled_size n power) ∙ ap capped (sym (signed_scaled minus n power))

-- the size with a power in its range
pub size_low : (d : ℕ) (power : ℤ) (r : ℕ) → d < 10 ^ 24 → power <ℤ pos 0 → r ≡ lowered (d * 65536) (min (unsigned_abs power) 30)
    → r ≡ scaled_size (d * 65536) power
unfolding scaled_size
size_low d (pos k) r small low is = absurd (omega (arith, ints, low))
size_low d (negsuc k) r small low is =
    let e : suc k ≡ k + 1 = omega arith in
    is ∙ lowered_most (d * 65536) (suc k) (omega (arith, small)) ∙ ap (lowered (d * 65536)) e

pub size_high : (d : ℕ) (power : ℤ) (r : ℕ) → pos 0 ≤ℤ power → r ≡ d * 65536 * 10 ^ min (unsigned_abs power) 4
    → capped_size r ≡ capped_size (scaled_size (d * 65536) power)
unfolding scaled_size
size_high d (pos k) r high is = rw is (raised_most d k)
size_high d (negsuc k) r high is = absurd (omega (arith, ints, high))

-- ---- a decimal

-- what 1 to 24 digits before and behind the point leave room for
pub few_length : (whole fraction : List ℕ) → IsTrue (are_few_digits (whole ++ fraction)) → length whole + length fraction ≤ 24
few_length whole fraction few =
    let sizes = and_parts (nat_le 1 (length (whole ++ fraction)) && nat_le (length (whole ++ fraction)) 24)
    (list_all is_digit (whole ++ fraction)) few in
    let most = and_parts (nat_le 1 (length (whole ++ fraction))) (nat_le (length (whole ++ fraction)) 24) sizes.0 in
    let le : length (whole ++ fraction) ≤ 24 = le_from (length (whole ++ fraction)) most.1 in
    omega (arith, le, length-append whole fraction)
  where
    le_from : (n : ℕ) → nat_le n 24 ≡ true → n ≤ 24
    le_from n t = grind (arith, nat_tests)

-- the digits behind the point on those before it
pub joined_below : (whole fraction n m power : ℕ) → whole + fraction ≤ 24 → n < 10 ^ whole → m < 10 ^ fraction → power ≡ 10 ^ fraction
    → n * power + m < 10 ^ 24
joined_below whole fraction n m power few first second is =
    let both : 10 ^ (whole + fraction) ≡ 10 ^ whole * 10 ^ fraction = pow-add 10 whole fraction in
    let product : (n + 1) * 10 ^ fraction ≤ 10 ^ whole * 10 ^ fraction =
    mul-le (n + 1) (10 ^ fraction) (10 ^ whole) (10 ^ fraction) (omega (arith, first)) (omega arith) in
    rw is (omega (arith, both, product, second, ten_le (whole + fraction) 24 few))

pub value_is : (whole fraction : List ℕ) (n m power : ℕ) → n ≡ value whole → m ≡ value fraction → power ≡ 10 ^ length fraction
    → n * power + m ≡ value (whole ++ fraction)
value_is whole fraction n m power first second is = rw (first, second, is) (sym (value-append whole fraction))

pub digits_are : (minus : Bool) (whole fraction : List ℕ) (n : ℕ) (e power : ℤ) → IsTrue (are_few_digits (whole ++ fraction))
    → n ≡ value (whole ++ fraction) → power ≡ e -ℤ pos (length fraction)
    → ◌≡◌ {A = Option Decimal} (Some (record { minus = minus; digits = n; power = power })) (with_digits minus whole fraction (Some e))
digits_are minus whole fraction n e power few all at = rw (few, all, at) refl

pub units_none : (word : List ℕ) → decimal word ≡ None → option_map capped (units_of word) ≡ None
unfolding units_of
units_none word is = rw is refl

pub units_some : (word : List ℕ) (d : Decimal) (n : ℕ) → decimal word ≡ Some d → n ≡ capped_size (scaled_size (d.digits * 65536) d.power)
    → option_map capped (units_of word) ≡ Some (signed d.minus n)
unfolding units_of units
units_some word d n is size = rw (is, size) (ap (λ z. Some z) (sym (capped_units d.minus (d.digits * 65536) d.power)))
