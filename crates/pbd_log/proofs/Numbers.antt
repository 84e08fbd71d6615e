-- Bytes and the numbers that they spell, the highest byte first.
use Rattle.std.proofs.Common.{◌≡◌, ◌∙◌, sym, ap, refl, ℕ, zero, suc, ◌+◌, ◌*◌, ◌/◌, ◌^◌, ◌<◌, ◌≤◌, List, [], ◌∷◌, length, take, drop, inl}
use Rattle.std.proofs.Common.{inr, append-nil, arith}
use Rattle.std.proofs.Math.Nat.{add-mul, mod-lt, mul-le-mul_right}
use Rattle.std.proofs.lemmas.Bool.{cases_lt}
use Rattle.std.proofs.lemmas.List.{get_or-drop, get_or-take, get_or_past, length-take}
use Rattle.std.specs.Int.{byte_at, bytes_high_first}
use Rattle.byteorder.specs.Endian.{big_number, big_bytes}
use Rattle.byteorder.specs.Numbers.{big_from-cons, big_from-lt, length-bytes_high_first, big_number-reads_back}
use Rattle.std.specs.Prelude.{◌↔◌}
use Rattle.pbd_log.specs.Entries.{number_bytes}
use Rattle.pbd_log.specs.Laws.{IsBytes}

pub IsBytes-rest : (b : ℕ) (bytes : List ℕ) → IsBytes (b ∷ bytes) → IsBytes bytes
IsBytes-rest b bytes h i = h (suc i)

pub IsBytes-cons : (b : ℕ) (bytes : List ℕ) → b < 256 → IsBytes bytes → IsBytes (b ∷ bytes)
IsBytes-cons b bytes lt h zero = lt
IsBytes-cons b bytes lt h (suc i) = h i

pub IsBytes-drop : (n : ℕ) (bytes : List ℕ) → IsBytes bytes → IsBytes (drop n bytes)
IsBytes-drop n bytes h i = rw get_or-drop (h (n + i))

pub IsBytes-take : (n : ℕ) (bytes : List ℕ) → IsBytes bytes → IsBytes (take n bytes)
IsBytes-take n bytes h i =
    elim (cases_lt i n) [
      | inl lt ↦ rw (get_or-take n bytes i 0 lt) (h i)
      | inr le ↦ rw (get_or_past (take n bytes) i 0 (omega (arith, length-take n bytes))) (omega arith)
    ]

byte_fits : (k x : ℕ) → byte_at k x < 256
byte_fits zero x = mod-lt x (omega arith)
byte_fits (suc k) x = mod-lt (x / 256 ^ suc k) (omega arith)

pub IsBytes-number : (n x : ℕ) → IsBytes (bytes_high_first n x)
IsBytes-number zero x = λ i. omega arith
IsBytes-number (suc n) x = IsBytes-cons (byte_at n x) (bytes_high_first n x) (byte_fits n x) (IsBytes-number n x)

less : (p a b r s : ℕ) → r < p → a < b → a * p + r ≡ b * p + s → ⊥
less p a b r s lt ab e =
    let m : (a + 1) * p ≤ b * p = mul-le-mul_right p (omega arith) in
    let x : (a + 1) * p ≡ a * p + 1 * p = add-mul a 1 p in
    omega arith

same_digit : (p a b r s : ℕ) → r < p → s < p → a * p + r ≡ b * p + s → a ≡ b
same_digit p a b r s hr hs e =
    elim (cases_lt a b) [
      | inl lt ↦ absurd (less p a b r s hr lt e)
      | inr le ↦ elim (cases_lt b a) [
        | inl lt ↦ absurd (less p b a s r hs lt (sym e))
        | inr ge ↦ omega arith
      ]
    ]

-- different n bytes have different values
pub same_bytes : (n : ℕ) (xs ys : List ℕ) → IsBytes xs → IsBytes ys → length xs ≡ n → length ys ≡ n → big_number n xs ≡ big_number n ys
    → xs ≡ ys
same_bytes zero [] [] hx hy lx ly e = refl
same_bytes zero [] (b ∷ ys) hx hy lx ly e = absurd (omega (arith, ly))
same_bytes zero (a ∷ xs) ys hx hy lx ly e = absurd (omega (arith, lx))
same_bytes (suc n) [] ys hx hy lx ly e = absurd (omega (arith, lx))
same_bytes (suc n) (a ∷ xs) [] hx hy lx ly e = absurd (omega (arith, ly))
same_bytes (suc n) (a ∷ xs) (b ∷ ys) hx hy lx ly e =
    let ex = big_from-cons 0 n a xs in
    let ey = big_from-cons 0 n b ys in
    let sums : a * 256 ^ n + big_number n xs ≡ b * 256 ^ n + big_number n ys = ap (λ r. a * 256 ^ n + r) (sym ex) ∙ e
    ∙ ap (λ r. b * 256 ^ n + r) ey in
    let fx = big_from-lt 0 n xs (IsBytes-rest a xs hx) in
    let fy = big_from-lt 0 n ys (IsBytes-rest b ys hy) in
    let head : a ≡ b = same_digit (256 ^ n) a b (big_number n xs) (big_number n ys) fx fy sums in
    let tails : big_number n xs ≡ big_number n ys = omega (arith, ap (λ d. d * 256 ^ n) head, sums) in
    let tail : xs ≡ ys = same_bytes n xs ys (IsBytes-rest a xs hx) (IsBytes-rest b ys hy) (omega (arith, lx)) (omega (arith, ly)) tails in
    rw (head, tail) refl

-- so the bytes of a number are the bytes that it was read from
pub number_back : (n : ℕ) (xs : List ℕ) → IsBytes xs → length xs ≡ n → big_bytes n (big_number n xs) ≡ xs
number_back n xs h len =
    let lt = big_from-lt 0 n xs h in
    let again : big_number n (big_bytes n (big_number n xs))
    ≡ big_number n xs = ap (big_number n) (sym (append-nil (big_bytes n (big_number n xs))))
    ∙ big_number-reads_back n (big_number n xs) [] lt in
    same_bytes n (big_bytes n (big_number n xs)) xs (IsBytes-number n (big_number n xs)) h
    (length-bytes_high_first n (big_number n xs)) len again

pub reading_is : (n x : ℕ) (xs : List ℕ) → IsBytes xs → x < 256 ^ n → (xs ≡ number_bytes n x) ↔ ((length xs ≡ n) × (big_number n xs ≡ x))
unfolding number_bytes
reading_is n x xs fits lt =
    let again : big_number n (big_bytes n x) ≡ x = ap (big_number n) (sym (append-nil (big_bytes n x))) ∙ big_number-reads_back n x [] lt in (
      λ e. (ap (λ (t : List ℕ). length t) e ∙ length-bytes_high_first n x, ap (big_number n) e ∙ again),
      λ (len, e). sym (number_back n xs fits len) ∙ ap (big_bytes n) e,
    )
