-- Sets of colours as bits.
use Rattle.std.proofs.Common.{◌≡◌, ℕ, zero, suc, ◌*◌, ◌^◌, ◌%◌, ◌<◌, ◌≤◌, ◌&&◌, ◌||◌, Bool, eqb, max, List, get_or, set}
use Rattle.std.proofs.Common.{length, bit_or, refl, sym, ap, ◌∙◌, arith, inl, inr, w64}
use Rattle.std.proofs.lemmas.Bool.{cases_eq, eq-eqb, ne_eqb}
use Rattle.std.proofs.lemmas.List.{get_or-set_same, get_or-set_other}
use Rattle.std.proofs.lemmas.Nat.{shl_whole, or_lt, pow_below}
use Rattle.std.proofs.lemmas.Nat.Bits.{bit_at_or, bit_at-lt, bit_at-pow_same, bit_at-pow_other, bit_at-trailing_ones}
use Rattle.std.specs.Int.{bit_at, trailing_ones}
use Rattle.pbd_colour.specs.Used.{has, AreSmall}
use Rattle.pbd_world.specs.Colours.{least_free}
use Rattle.pbd_world.proofs.GreedyLemmas.{least_free-is}
use Rattle.std.proofs.Math.Bool.{or-false}

max_is_one : (a b : ℕ) → a < 2 → b < 2 → eqb (max a b) 1 ≡ (eqb a 1 || eqb b 1)
max_is_one zero zero l m = refl
max_is_one zero (suc zero) l m = refl
max_is_one (suc zero) zero l m = refl
max_is_one (suc zero) (suc zero) l m = refl
max_is_one (suc (suc a)) b l m = absurd (omega arith)
max_is_one a (suc (suc b)) l m = absurd (omega arith)

-- a colour of the union is in one of the sets
pub in_union : (x y d : ℕ) → eqb (bit_at (bit_or x y) d) 1 ≡ (eqb (bit_at x d) 1 || eqb (bit_at y d) 1)
in_union x y d = ap (λ (n : ℕ). eqb n 1) (bit_at_or x y d) ∙ max_is_one (bit_at x d) (bit_at y d) (bit_at-lt x d) (bit_at-lt y d)

in_single : (c d : ℕ) → eqb (bit_at (2 ^ c) d) 1 ≡ eqb c d
in_single c d = elim (cases_eq c d) [
  | inl e ↦ rw (← e) (eq-eqb _ _ (bit_at-pow_same c) ∙ sym (eq-eqb c c refl))
  | inr ne ↦ rw (ne_eqb c d ne) (ap (λ (n : ℕ). eqb n 1) (bit_at-pow_other c d (λ e. ne (sym e))))
]

shifted : (c : ℕ) → c < 63 → 1 * 2 ^ c % 18446744073709551616 ≡ 2 ^ c
shifted c l = shl_whole 1 1 c 64 (omega arith) (omega arith) ∙ omega arith

pub has-mark : (used : List ℕ) (p c : ℕ) → p < length used → c < 63 → (q d : ℕ)
    → has (set used p (bit_or (get_or used p 0) (1 * 2 ^ c % 18446744073709551616))) q d ≡ (has used q d || (eqb p q && eqb c d))
has-mark used p c lp lc q d = rw (shifted c lc) (elim (cases_eq p q) [
  | inl e ↦ (let lq : q < length used = omega (arith, e) in
      rw (e, get_or-set_same used q _ 0 lq, eq-eqb q q refl) (in_union _ _ d ∙ ap (λ (b : Bool). has used q d || b) (in_single c d)))
  | inr ne ↦ rw (ne_eqb p q ne, get_or-set_other used p q _ 0 (λ e. ne (sym e))) (sym (or-false (has used q d)))
])

pub small-mark : (used : List ℕ) (p c : ℕ) → p < length used → c < 63 → AreSmall used
    → AreSmall (set used p (bit_or (get_or used p 0) (1 * 2 ^ c % 18446744073709551616)))
small-mark used p c lp lc h q = rw (shifted c lc) (elim (cases_eq p q) [
  | inl e ↦ (let lq : q < length used = omega (arith, e) in rw (e, get_or-set_same used q _ 0 lq) (or_lt 63 _ _ (h q) (pow_below c 63 lc)))
  | inr ne ↦ rw (get_or-set_other used p q _ 0 (λ e. ne (sym e))) (h q)
])

-- the lowest colour that isn't in either of two sets
pub lowest-unset : (x y : ℕ) → x < 9223372036854775808 → y < 9223372036854775808
    → (trailing_ones w64 (bit_or x y) ≡ least_free (λ d. eqb (bit_at x d) 1 || eqb (bit_at y d) 1)) × (trailing_ones w64 (bit_or x y) ≤ 63)
lowest-unset x y hx hy =
    let small : bit_or x y < 9223372036854775808 = or_lt 63 x y hx hy in
    let f = bit_at-trailing_ones w64 (bit_or x y) (omega (arith, small)) in (
      sym (least_free-is _ (trailing_ones w64 (bit_or x y)) (omega (arith, f.0)) (λ l. sym (in_union x y _) ∙ rw f.1 refl)
          (λ d l. sym (in_union x y d) ∙ rw (f.2 d l) refl)),
      omega (arith, f.0),
    )

-- one colour more in a set
pub bit-with : (set c : ℕ) → c < 63 → (d : ℕ) → eqb (bit_at (bit_or set (1 * 2 ^ c % 18446744073709551616)) d) 1
    ≡ (eqb (bit_at set d) 1 || eqb c d)
bit-with set c l d = rw (shifted c l) (in_union set (2 ^ c) d ∙ ap (λ (b : Bool). eqb (bit_at set d) 1 || b) (in_single c d))

pub small-with : (set c : ℕ) → c < 63 → set < 9223372036854775808 → bit_or set (1 * 2 ^ c % 18446744073709551616) < 9223372036854775808
small-with set c l h = rw (shifted c l) (or_lt 63 set (2 ^ c) h (pow_below c 63 l))
