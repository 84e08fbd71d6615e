-- A coordinate that is written is read back.
use Rattle.std.proofs.Common.{◌≡◌, ◌∙◌, sym, ap, refl, ℕ, zero, suc, ◌+◌, ◌-◌, ◌*◌, ◌/◌, ◌%◌, ◌^◌, ◌<◌, ◌≤◌, Bool, true, false, not, ◌&&◌}
use Rattle.std.proofs.Common.{List, [], ◌∷◌, ◌++◌, length, take, drop, Some, None, nat_le, decimal as numeral, arith, inl, inr, append-nil}
use Rattle.std.proofs.Common.{length-append, ℤ, pos, negsuc, unsigned_abs}
use Rattle.std.specs.Prelude.{◌==◌, ◌-ℤ◌, cond}
use Rattle.std.specs.List.{list_all, position_or_len, before_first, after_first}
use Rattle.std.proofs.lemmas.Nat.{div-mul-add}
use Rattle.std.proofs.lemmas.Bool.{and_parts, and_from, cases_eq, ne_eqb, le-leb, leb-true}
use Rattle.std.proofs.lemmas.Bool.Decides.{nat_tests}
use Rattle.std.proofs.lemmas.Int.{ints}
use Rattle.std.proofs.lemmas.Fmt.{length-decimal-le}
use Rattle.std.proofs.lemmas.List.{take_all, take_at, drop_all}
use Rattle.pbd_script.specs.Lines.{value, is_digit, is_count}
use Rattle.pbd_script.proofs.NumberLemmas.{count_decimal, digit_is}
use Rattle.pbd_obj.specs.Decimals.{are_few_digits, decimal, exponent, is_mark, is_minus, is_point, scaled, signed, split_decimal, units}
use Rattle.pbd_obj.specs.Decimals.{units_of, with_digits, without_sign}
use Rattle.pbd_obj.specs.Sizes.{scaled_size}
use Rattle.pbd_obj.specs.Writing.{coordinate, decimals, fraction}
use Rattle.pbd_obj.proofs.Numbers.{signed_scaled, ten_pos, value-append}
use Rattle.pbd_obj.proofs.WriteLemmas.{decimals_more}

-- ---- a numeral

count_parts : (b : Bool) (w : List ℕ) (n : ℕ) → is_count w ≡ b → cond b (Some (value w)) None ≡ Some n → (is_count w ≡ true) × (value w ≡ n)
count_parts true w n at is = (at, cc)
count_parts false w n at is = cc

-- digits that write n, one to four of them
record Digits (most n : ℕ) (w : List ℕ) : Type 0 where
  pub some : 1 ≤ length w
  pub few : length w ≤ most
  pub digits : list_all is_digit w ≡ true
  pub says : value w ≡ n

pub numeral_parts : (n : ℕ) → n < 10 ^ 18 → (1 ≤ length (numeral n)) × (list_all is_digit (numeral n) ≡ true)
numeral_parts n small =
    let parts = count_parts (is_count (numeral n)) (numeral n) n refl (count_decimal n small) in
    let sizes = and_parts (nat_le 1 (length (numeral n)) && nat_le (length (numeral n)) 18) (list_all is_digit (numeral n)) parts.0 in
    (leb-true 1 (length (numeral n)) (and_parts (nat_le 1 (length (numeral n))) (nat_le (length (numeral n)) 18) sizes.0).0, sizes.1)

numeral_digits : (n : ℕ) → n < 10 ^ 4 → Digits 4 n (numeral n)
numeral_digits n small =
    let parts = count_parts (is_count (numeral n)) (numeral n) n refl (count_decimal n (omega (arith, small))) in
    let sizes = and_parts (nat_le 1 (length (numeral n)) && nat_le (length (numeral n)) 18) (list_all is_digit (numeral n)) parts.0 in
    record {
      some = leb-true 1 (length (numeral n)) (and_parts (nat_le 1 (length (numeral n))) (nat_le (length (numeral n)) 18) sizes.0).0;
      few = length-decimal-le 4 n (omega arith) small (omega (arith, small));
      digits = sizes.1;
      says = parts.1;
    }

-- ---- decimals

tenth_small : (r : ℕ) → r < 65536 → r * 10 / 65536 < 10
tenth_small r small = omega (arith, small)

decimals_none : (k r : ℕ) → r ≡ 0 → decimals k r ≡ []
decimals_none zero r is = refl
decimals_none (suc k) r is = rw is refl

pub decimals_digits : (k r : ℕ) → r < 65536 → list_all is_digit (decimals k r) ≡ true
decimals_digits zero r small = refl
decimals_digits (suc k) r small = elim (cases_eq r 0) [
  | inl e ↦ rw (decimals_none (suc k) r e) refl
  | inr n ↦ rw (decimals_more k r n) (and_from (is_digit (48 + r * 10 / 65536)) (list_all is_digit (decimals k (r * 10 % 65536)))
      (digit_is (r * 10 / 65536) (tenth_small r small)) (decimals_digits k (r * 10 % 65536) (omega arith)))
]

decimals_few : (k r : ℕ) → length (decimals k r) ≤ k
decimals_few zero r = omega arith
decimals_few (suc k) r = elim (cases_eq r 0) [
  | inl e ↦ rw (decimals_none (suc k) r e) (omega arith)
  | inr n ↦ rw (decimals_more k r n) (let rest = decimals_few k (r * 10 % 65536) in omega (arith, rest))
]

exact_zero : (q r : ℕ) → r * 2 ^ 0 ≡ q * 65536 → r < 65536 → r ≡ 0
exact_zero q r is small = omega (arith, is, small)

exact_next : (k q r : ℕ) → r * 2 ^ suc k ≡ q * 65536 → (r * 10 % 65536) * 2 ^ k ≡ (5 * q - (r * 10 / 65536) * 2 ^ k) * 65536
exact_next k q r is =
    let d = r * 10 / 65536 in
    let rest = r * 10 % 65536 in
    let whole : r * 10 ≡ d * 65536 + rest = omega arith in
    let two : 2 ^ suc k ≡ 2 ^ k * 2 = omega arith in
    let times : r * 10 * 2 ^ k ≡ (d * 65536 + rest) * 2 ^ k = ap (λ n. n * 2 ^ k) whole in
    let double : r * (2 ^ k * 2) ≡ q * 65536 = rw two at is in
    omega (arith, times, double)

-- the decimals are exactly n / 65,536, where so many halvings of n leave a whole number
decimals_exact : (k q r : ℕ) → r * 2 ^ k ≡ q * 65536 → r < 65536 → value (decimals k r) * 65536 ≡ r * 10 ^ length (decimals k r)
decimals_exact zero q r is small = let none = exact_zero q r is small in rw none refl
decimals_exact (suc k) q r is small = elim (cases_eq r 0) [
  | inl e ↦ rw (decimals_none (suc k) r e) (omega (arith, e))
  | inr n ↦ (
      let d = r * 10 / 65536 in
      let rest = r * 10 % 65536 in
      let tail = decimals k rest in
      let more = decimals_exact k (5 * q - d * 2 ^ k) rest (exact_next k q r is) (omega arith) in
      let whole : r * 10 ≡ d * 65536 + rest = omega arith in
      let ten : 10 ^ suc (length tail) ≡ 10 ^ length tail * 10 = omega arith in
      let times : r * 10 * 10 ^ length tail ≡ (d * 65536 + rest) * 10 ^ length tail = ap (λ m. m * 10 ^ length tail) whole in
      let front : 48 + d - 48 ≡ d = omega arith in
      let all : ((48 + d - 48) * 10 ^ length tail + value tail) * 65536
      ≡ r * 10 ^ suc (length tail) = rw (front, ten) (omega (arith, more, times)) in
      rw (decimals_more k r n) all)
]

-- ---- where a byte stands

past_case : (b : Bool) (n : ℕ) → b ≡ false → cond (not b) (1 + n) 0 ≡ 1 + n
past_case true n is = cc
past_case false n is = refl

pub position_past : (p : ℕ → Bool) → ((x : ℕ) → is_digit x ≡ true → p x ≡ false) → (xs ys : List ℕ) → list_all is_digit xs ≡ true
    → position_or_len p (xs ++ ys) ≡ length xs + position_or_len p ys
position_past p fails [] ys all = omega arith
position_past p fails (x ∷ xs) ys all =
    let parts = and_parts (is_digit x) (list_all is_digit xs) all in
    let here : position_or_len p (x ∷ (xs ++ ys)) ≡ 1 + position_or_len p (xs ++ ys) =
    past_case (p x) (position_or_len p (xs ++ ys)) (fails x parts.0) in
    here ∙ omega (arith, position_past p fails xs ys parts.1)

no_mark : (x : ℕ) → is_digit x ≡ true → is_mark x ≡ false
no_mark x is = grind (arith, nat_tests)

no_point : (x : ℕ) → is_digit x ≡ true → is_point x ≡ false
no_point x is = grind (arith, nat_tests)

-- ---- the parts of a word

abbrev pub tail_of : List ℕ → List ℕ
tail_of [] = []
tail_of (x ∷ xs) = 46 ∷ x ∷ xs

tail_marks : (f : List ℕ) → list_all is_digit f ≡ true → position_or_len is_mark (tail_of f) ≡ length (tail_of f)
tail_marks [] all = refl
tail_marks (x ∷ xs) all =
    let e : position_or_len is_mark (x ∷ xs) ≡ length (x ∷ xs) = ap (position_or_len is_mark) (sym (append-nil (x ∷ xs)))
    ∙ (position_past is_mark no_mark (x ∷ xs) [] all ∙ omega arith) in
    let one : position_or_len is_mark (46 ∷ x ∷ xs) ≡ 1 + position_or_len is_mark (x ∷ xs) = refl in
    one ∙ ap (λ n. 1 + n) e ∙ omega arith

tail_point : (f : List ℕ) → position_or_len is_point (tail_of f) ≡ 0
tail_point [] = refl
tail_point (x ∷ xs) = refl

behind_tail : (w f : List ℕ) → drop (length w + 1) (w ++ tail_of f) ≡ f
behind_tail [] [] = refl
behind_tail [] (x ∷ xs) = refl
behind_tail (y ∷ w) f = let e : length (y ∷ w) + 1 ≡ suc (length w + 1) = omega arith in rw e (behind_tail w f)

all_both : (xs ys : List ℕ) → list_all is_digit xs ≡ true → list_all is_digit ys ≡ true → list_all is_digit (xs ++ ys) ≡ true
all_both [] ys h k = k
all_both (x ∷ xs) ys h k = let parts = and_parts (is_digit x) (list_all is_digit xs) h in
    and_from (is_digit x) (list_all is_digit (xs ++ ys)) parts.0 (all_both xs ys parts.1 k)

few_both : (w f : List ℕ) → 1 ≤ length w → length w ≤ 4 → length f ≤ 16 → list_all is_digit w ≡ true → list_all is_digit f ≡ true
    → are_few_digits (w ++ f) ≡ true
few_both w f some few few_f digits digits_f =
    let size = length-append w f in
    and_from (nat_le 1 (length (w ++ f)) && nat_le (length (w ++ f)) 24) (list_all is_digit (w ++ f))
    (and_from (nat_le 1 (length (w ++ f))) (nat_le (length (w ++ f)) 24) (le-leb 1 (length (w ++ f)) (omega (arith, size, some)))
    (le-leb (length (w ++ f)) 24 (omega (arith, size, few, few_f))))
    (all_both w f digits digits_f)

split_is : (minus : Bool) (w f : List ℕ) → 1 ≤ length w → length w ≤ 4 → length f ≤ 16 → list_all is_digit w ≡ true
    → list_all is_digit f ≡ true → split_decimal minus (before_first is_mark (w ++ tail_of f))
    (drop (position_or_len is_mark (w ++ tail_of f)) (w ++ tail_of f))
    ≡ Some (record { minus = minus; digits = value (w ++ f); power = pos 0 -ℤ pos (length f) })
split_is minus w f some few few_f digits digits_f =
    let body = w ++ tail_of f in
    let mark : position_or_len is_mark body ≡ length body = position_past is_mark no_mark w (tail_of f) digits
    ∙ (ap (λ n. length w + n) (tail_marks f digits_f) ∙ sym (length-append w (tail_of f))) in
    let front : before_first is_mark body ≡ body = take_all (position_or_len is_mark body) body (omega (arith, mark)) in
    let none : drop (position_or_len is_mark body) body ≡ [] = drop_all (position_or_len is_mark body) body (omega (arith, mark)) in
    let point : position_or_len is_point body ≡ length w = position_past is_point no_point w (tail_of f) digits
    ∙ (ap (λ n. length w + n) (tail_point f) ∙ omega arith) in
    let whole : before_first is_point body ≡ w = ap (λ n. take n body) point ∙ take_at w (tail_of f) (length w) refl in
    let behind : after_first is_point body ≡ f = ap (λ n. drop (n + 1) body) point ∙ behind_tail w f in
    ap (λ m. split_decimal minus m (drop (position_or_len is_mark body) body)) front
    ∙ (ap (split_decimal minus body) none
    ∙ (ap (λ t. with_digits minus t (after_first is_point body) (exponent [])) whole
    ∙ (ap (λ t. with_digits minus w t (exponent [])) behind
    ∙ ap (λ b. cond b (Some (record { minus = minus; digits = value (w ++ f); power = pos 0 -ℤ pos (length f) })) None)
    (few_both w f some few few_f digits digits_f))))

-- ---- units

back_scaled : (n k : ℕ) → scaled_size (n * 10 ^ k) (pos 0 -ℤ pos k) ≡ n
unfolding scaled_size
back_scaled n zero = omega arith
back_scaled n (suc k) =
    let power : pos 0 -ℤ pos (suc k) ≡ negsuc k = omega (arith, ints) in
    let e : suc k ≡ k + 1 = omega arith in
    let half : 10 ^ (k + 1) < 2 * 10 ^ (k + 1) = (let p = ten_pos (k + 1) in omega (arith, p)) in
    let same : 2 * (n * 10 ^ (k + 1)) + 10 ^ (k + 1) ≡ n * (2 * 10 ^ (k + 1)) + 10 ^ (k + 1) = omega arith in
    let all : (2 * (n * 10 ^ (k + 1)) + 10 ^ (k + 1)) / (2 * 10 ^ (k + 1)) ≡ n = ap (λ m. m / (2 * 10 ^ (k + 1))) same
    ∙ div-mul-add n (2 * 10 ^ (k + 1)) (10 ^ (k + 1)) half in
    rw (power, e) all

whole_value : (a r n v t : ℕ) → n ≡ a * 65536 + r → v * 65536 ≡ r * t → (a * t + v) * 65536 ≡ n * t
whole_value a r n v t is exact = let times : n * t ≡ (a * 65536 + r) * t = ap (λ m. m * t) is in omega (arith, times, exact)

back_units : (minus : Bool) (n : ℕ) (w f : List ℕ) → value (w ++ f) * 65536 ≡ n * 10 ^ length f
    → units (record { minus = minus; digits = value (w ++ f); power = pos 0 -ℤ pos (length f) }) ≡ signed minus n
unfolding units
back_units minus n w f is =
    ap (λ m. scaled (signed minus m) (pos 0 -ℤ pos (length f))) is
    ∙ (signed_scaled minus (n * 10 ^ length f) (pos 0 -ℤ pos (length f))
    ∙ ap (signed minus) (back_scaled n (length f)))

-- ---- a coordinate

tail_is : (f : List ℕ) (r : ℕ) → (r ≡ 0 → ⊥) → f ≡ decimals 16 r → tail_of f ≡ 46 ∷ decimals 16 r
tail_is f r some is =
    let more : decimals 16 r ≡ (48 + r * 10 / 65536) ∷ decimals 15 (r * 10 % 65536) = decimals_more 15 r some in
    rw (is, more) refl

pub fraction_is : (r : ℕ) → fraction r ≡ tail_of (decimals 16 r)
fraction_is r = elim (cases_eq r 0) [
  | inl e ↦ rw e refl
  | inr n ↦ ap (λ b. cond b [] (46 ∷ decimals 16 r)) (ne_eqb r 0 n) ∙ sym (tail_is (decimals 16 r) r n refl)
]

plain_head : (w t : List ℕ) → 1 ≤ length w → list_all is_digit w ≡ true → (is_minus (w ++ t) ≡ false) × (without_sign (w ++ t) ≡ w ++ t)
plain_head [] t some all = absurd (omega (arith, some))
plain_head (x ∷ w) t some all =
    let digit = (and_parts (is_digit x) (list_all is_digit w) all).0 in
    let minus : x == 45 ≡ false = no_minus x digit in
    let plus : x == 43 ≡ false = no_plus x digit in
    (minus, rw (plus, minus) refl)
  where
    no_minus : (x : ℕ) → is_digit x ≡ true → x == 45 ≡ false
    no_minus x is = grind (arith, nat_tests)

    no_plus : (x : ℕ) → is_digit x ≡ true → x == 43 ≡ false
    no_plus x is = grind (arith, nat_tests)

read_word : (minus : Bool) (word : List ℕ) (n : ℕ) → n ≤ 2 ^ 29 → is_minus word ≡ minus
    → without_sign word ≡ numeral (n / 65536) ++ tail_of (decimals 16 (n % 65536)) → units_of word ≡ Some (signed minus n)
unfolding units_of decimal
read_word minus word n small is are =
    let w = numeral (n / 65536) in
    let f = decimals 16 (n % 65536) in
    let rest : n % 65536 < 65536 = omega arith in
    let digits = numeral_digits (n / 65536) (omega (arith, small)) in
    let exact : value f * 65536 ≡ n % 65536 * 10 ^ length f = decimals_exact 16 (n % 65536) (n % 65536) (omega arith) rest in
    let total : value (w ++ f) * 65536 ≡ n * 10 ^ length f =
    ap (λ m. m * 65536) (value-append w f ∙ ap (λ m. m * 10 ^ length f + value f) digits.says)
    ∙ whole_value (n / 65536) (n % 65536) n (value f) (10 ^ length f) (omega arith) exact in
    let split = split_is minus w f digits.some digits.few (decimals_few 16 (n % 65536)) digits.digits
    (decimals_digits 16 (n % 65536) rest) in
    rw (is, are, split) (ap (λ z. Some z) (back_units minus n w f total))

-- what is written of a coordinate in range is read back
pub coordinate_back : (u : ℤ) → unsigned_abs u ≤ 2 ^ 29 → units_of (coordinate u) ≡ Some u
unfolding coordinate
coordinate_back (pos n) small =
    let digits = numeral_digits (n / 65536) (omega (arith, small)) in
    let head = plain_head (numeral (n / 65536)) (fraction (n % 65536)) digits.some digits.digits in
    read_word false (numeral (n / 65536) ++ fraction (n % 65536)) n small head.0
    (head.1 ∙ ap (λ t. numeral (n / 65536) ++ t) (fraction_is (n % 65536)))
coordinate_back (negsuc n) small =
    read_word true (45 ∷ (numeral (suc n / 65536) ++ fraction (suc n % 65536))) (suc n) small refl
    (ap (λ t. numeral (suc n / 65536) ++ t) (fraction_is (suc n % 65536)))
