-- What digits write.
use Rattle.std.proofs.Common.{◌≡◌, ◌∙◌, refl, ap, ℕ, ◌+◌, ◌-◌, ◌*◌, ◌^◌, ◌<◌, ◌≤◌, List, [], ◌∷◌, ◌++◌, length, arith, lit<, length-append}
use Rattle.std.proofs.Common.{get_or, take, Bool, true, suc, ◌/◌, ◌%◌, ℤ, pos, negsuc, Some, nat_le, decimal, unsigned_abs, false, ◌&&◌}
use Rattle.std.proofs.Common.{◌==◌}
use Rattle.std.proofs.Math.Nat.{pow-le-pow_right}
use Rattle.std.proofs.Math.Seq.{take-suc}
use Rattle.std.proofs.lemmas.Bool.Decides.{nat_tests}
use Rattle.std.proofs.lemmas.List.Sums.{AllPass-from_list_all}
use Rattle.std.specs.List.{list_all}
use Rattle.std.specs.Option.{option_map}
use Rattle.std.specs.Fmt.{signed_decimal}
use Rattle.std.proofs.lemmas.Fmt.{decimal_by_steps, decimal_is_IsNumeral, length-decimal-le}
use Rattle.pbd_script.specs.Lines.{value, is_digit, count, number}
use Rattle.pbd_script.proofs.AsciiLemmas.{left}

-- a number of at most 18 digits
pub of_digits : (n i : ℕ) → n < 10 ^ i → i ≤ 18 → n < 1000000000000000000
of_digits n i bound le = let p = pow-le-pow_right {n = 10} (lit< tt) le in omega (arith, bound, p)

-- one of at most 37
pub of_most_digits : (n i : ℕ) → n < 10 ^ i → i ≤ 37 → n < 10000000000000000000000000000000000000
of_most_digits n i bound le = let p = pow-le-pow_right {n = 10} (lit< tt) le in omega (arith, bound, p)

-- one more digit is ten times the number, and the digit
pub value-push : (ds : List ℕ) (d : ℕ) → value (ds ++ d ∷ []) ≡ value ds * 10 + (d - 48)
value-push [] d = omega arith
value-push (x ∷ ds) d =
    let size : length (ds ++ d ∷ []) ≡ suc (length ds) = omega (arith, length-append ds (d ∷ [])) in
    let ten : 10 ^ suc (length ds) ≡ 10 ^ length ds * 10 = omega arith in
    rw (size, value-push ds d, ten) (omega arith)

-- the next digit of a word
pub next_value : (word : List ℕ) (i n d : ℕ) → i < length word → n ≡ value (take i word) → d ≡ get_or word i 0 - 48
    → n * 10 + d ≡ value (take (i + 1) word)
next_value word i n d lt so_far digit =
    let one : i + 1 ≡ suc i = omega arith in
    let more : take (i + 1) word ≡ take i word ++ get_or word i 0 ∷ [] = ap (λ k. take k word) one ∙ take-suc word i 0 lt in
    let push : value (take (i + 1) word) ≡ value (take i word) * 10 + (get_or word i 0 - 48) = ap value more
    ∙ value-push (take i word) (get_or word i 0) in
    omega (arith, so_far, digit, push)

pub digit_small : (b : ℕ) → is_digit b ≡ true → b - 48 ≤ 9
digit_small b is = grind (arith, nat_tests)

pub next_bound : (word : List ℕ) (i n d : ℕ) → i < length word → list_all is_digit word ≡ true → n < 10 ^ i → d ≡ get_or word i 0 - 48
    → n * 10 + d < 10 ^ (i + 1)
next_bound word i n d lt digits bound digit =
    let here : is_digit (get_or word i 0) ≡ true = AllPass-from_list_all is_digit word digits i 0 lt in
    let one : i + 1 ≡ suc i = omega arith in
    let ten : 10 ^ (i + 1) ≡ 10 ^ i * 10 = rw one (omega arith) in
    omega (arith, bound, digit, ten, digit_small (get_or word i 0) here)

-- ---- what is printed is read back

both : (a b c : Bool) → (a && b) ≡ true → (b ≡ true → c ≡ true) → (a && c) ≡ true
both true b c all next = next all
both false b c all next = cc

all_push : (ds : List ℕ) (d : ℕ) → list_all is_digit ds ≡ true → is_digit d ≡ true → list_all is_digit (ds ++ d ∷ []) ≡ true
all_push [] d all is = rw is refl
all_push (x ∷ ds) d all is = both (is_digit x) (list_all is_digit ds) (list_all is_digit (ds ++ d ∷ [])) all (λ h. all_push ds d h is)

-- digits that write n
record Writes (n : ℕ) (ds : List ℕ) : Type 0 where
  pub says : value ds ≡ n
  pub digits : list_all is_digit ds ≡ true

pub digit_is : (n : ℕ) → n < 10 → is_digit (48 + n) ≡ true
digit_is n lt = grind (arith, nat_tests)

writes_one : (n : ℕ) → n < 10 → Writes n ((48 + n) ∷ [])
writes_one n lt = record { says = omega arith; digits = rw (digit_is n lt) refl }

writes_more : (n : ℕ) (ds : List ℕ) → 10 ≤ n → Writes (n / 10) ds → Writes n (ds ++ (48 + n % 10) ∷ [])
writes_more n ds le front =
    let last : n % 10 < 10 = omega arith in
    record {
      says = omega (arith, value-push ds (48 + n % 10), front.says);
      digits = all_push ds (48 + n % 10) front.digits (digit_is (n % 10) last);
    }

writes_decimal : (n : ℕ) → n < 2 ^ 64 → Writes n (decimal n)
writes_decimal n small = decimal_by_steps Writes writes_one writes_more n small

pub count_decimal : (n : ℕ) → n < 10 ^ 18 → count (decimal n) ≡ Some n
count_decimal n small =
    let writes = writes_decimal n (omega (arith, small)) in
    let some : 0 < length (decimal n) = (decimal_is_IsNumeral n (omega (arith, small))).0.0 in
    let short : length (decimal n) ≤ 18 = length-decimal-le 18 n (omega arith) small (omega (arith, small)) in
    let one : nat_le 1 (length (decimal n)) ≡ true = grind (arith, nat_tests) in
    let most : nat_le (length (decimal n)) 18 ≡ true = grind (arith, nat_tests) in
    rw (one, most, writes.digits, writes.says) refl

pub not_minus : (d : ℕ) → is_digit d ≡ true → (d == 45) ≡ false
not_minus d is = grind (arith, nat_tests)

plain : (ds : List ℕ) → list_all is_digit ds ≡ true → number ds ≡ option_map (λ n. pos n) (count ds)
plain [] all = refl
plain (d ∷ ds) all = rw (not_minus d (left (is_digit d) (list_all is_digit ds) all)) refl

pub number_decimal : (z : ℤ) → unsigned_abs z < 10 ^ 18 → number (signed_decimal z) ≡ Some z
number_decimal (pos n) small = plain (decimal n) (writes_decimal n (omega (arith, small))).digits ∙ rw (count_decimal n small) refl
number_decimal (negsuc n) small = rw (count_decimal (suc n) small) refl
