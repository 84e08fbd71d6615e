-- How many numbers an order has: as many as there are live pairs.
use Rattle.std.proofs.Common.{◌≡◌, ◌≢◌, ◌⊎◌, inl, inr, refl, ap, sym, ◌∙◌, ℕ, zero, suc, ◌+◌, ◌<◌, ◌≤◌, ◌&&◌, ◌==◌, Bool, true, false, cond}
use Rattle.std.proofs.Common.{List, [], ◌∷◌, length, get_or, map, filter, length-append, arith}
use Rattle.std.proofs.lemmas.Bool.{cases_eq, eq-eqb, ne_eqb}
use Rattle.std.specs.List.{range_with_len, flat_map}
use Rattle.pbd_world.specs.declared.parts.Link.{Link}
use Rattle.pbd_world.specs.Colours.{live_at, colour, of_colour, order}
use Rattle.pbd_world.specs.Contacts.{link_pairs, live_flags}
use Rattle.pbd_world.specs.World.{live_count}
use Rattle.pbd_world.specs.Step.{link_order, contact_order}
use Rattle.pbd_world.proofs.GreedyLemmas.{colour-is_greedy}
use Rattle.std.proofs.lemmas.List.{length-map}

-- ---- sums over a range

-- f a, and f of the next number, and so on, of n numbers
unfoldable pub total : (ℕ → ℕ) → ℕ → ℕ → ℕ
total f a zero = 0
total f a (suc n) = f a + total f (a + 1) n

total_both : (f g h : ℕ → ℕ) (a n : ℕ) → ((c : ℕ) → f c ≡ g c + h c) → total f a n ≡ total g a n + total h a n
unfolding total
total_both f g h a zero e = refl
total_both f g h a (suc n) e = omega (arith, e a, total_both f g h (a + 1) n e)

total_none : (f : ℕ → ℕ) (k a n : ℕ) → ((c : ℕ) → c ≢ k → f c ≡ 0) → (k < a) ⊎ (a + n ≤ k) → total f a n ≡ 0
unfolding total
total_none f k a zero h out = refl
total_none f k a (suc n) h out =
    let other : a ≢ k = λ (e : a ≡ k). elim out [ inl l ↦ absurd (omega (arith, l, e)) | inr l ↦ absurd (omega (arith, l, e)) ] in
    let rest : (k < a + 1) ⊎ (a + 1 + n ≤ k) = elim out [ inl l ↦ inl (omega (arith, l)) | inr l ↦ inr (omega (arith, l)) ] in
    omega (arith, h a other, total_none f k (a + 1) n h rest)

total_one : (f : ℕ → ℕ) (k a n : ℕ) → ((c : ℕ) → c ≢ k → f c ≡ 0) → a ≤ k → k < a + n → total f a n ≡ f k
unfolding total
total_one f k a zero h l u = absurd (omega (arith, l, u))
total_one f k a (suc n) h l u = elim (cases_eq a k) [
  | inl e ↦ (let here : f a ≡ f k = ap f e in omega (arith, here, total_none f k (a + 1) n h (inl (omega (arith, e)))))
  | inr d ↦ omega (arith, h a d, total_one f k (a + 1) n h (omega (arith, l, d)) (omega (arith, u)))
]

total_zeros : (a n : ℕ) → total (λ c. 0) a n ≡ 0
unfolding total
total_zeros a zero = refl
total_zeros a (suc n) = omega (arith, total_zeros (a + 1) n)

pub flat_total : (f : ℕ → List ℕ) (a n : ℕ) → length (flat_map f (range_with_len a n)) ≡ total (λ c. length (f c)) a n
unfolding total
flat_total f a zero = refl
flat_total f a (suc n) = omega (arith, length-append (f a) (flat_map f (range_with_len (a + 1) n)), flat_total f (a + 1) n)

-- ---- what is kept of a list

pub kept_more : {A : Type 0} (test : A → Bool) (x : A) (xs : List A)
    → length (filter test (x ∷ xs)) ≡ cond (test x) 1 0 + length (filter test xs)
kept_more {A} test x xs = kept_if (test x) where
  kept_if : (b : Bool) → length {A = A} (cond b (x ∷ filter test xs) (filter test xs)) ≡ cond b 1 0 + length (filter test xs)
  kept_if true = omega arith
  kept_if false = omega arith

-- each number that is kept has one colour
by_colour : (test : ℕ → Bool) (colour_of : ℕ → ℕ) (n : ℕ) → ((i : ℕ) → colour_of i < n) → (xs : List ℕ)
    → total (λ c. length (filter (λ i. test i && colour_of i == c) xs)) 0 n ≡ length (filter test xs)
by_colour test colour_of n low [] = total_zeros 0 n
by_colour test colour_of n low (i ∷ xs) =
    let here : ℕ → ℕ = λ c. cond (test i && colour_of i == c) 1 0 in
    let rest : ℕ → ℕ = λ c. length (filter (λ j. test j && colour_of j == c) xs) in
    let whole : ℕ → ℕ = λ c. length (filter (λ j. test j && colour_of j == c) (i ∷ xs)) in
    let both : total whole 0 n ≡ total here 0 n + total rest 0 n =
    total_both whole here rest 0 n (λ c. kept_more (λ j. test j && colour_of j == c) i xs) in
    let one : total here 0 n ≡ here (colour_of i) = total_one here (colour_of i) 0 n (λ c d. no (test i) c d) (omega arith)
    (omega (arith, low i)) in
    let this : here (colour_of i) ≡ cond (test i) 1 0 = yes (test i) in
    both ∙ ap (λ k. k + total rest 0 n) (one ∙ this) ∙ ap (λ k. cond (test i) 1 0 + k) (by_colour test colour_of n low xs)
    ∙ sym (kept_more test i xs)
  where
    no : (b : Bool) (c : ℕ) → c ≢ colour_of i → cond {A = ℕ} (b && colour_of i == c) 1 0 ≡ 0
    no true c d = ap (λ (b : Bool). cond {A = ℕ} b 1 0) (ne_eqb (colour_of i) c (λ e. d (sym e)))
    no false c d = refl

    yes : (b : Bool) → cond {A = ℕ} (b && colour_of i == colour_of i) 1 0 ≡ cond b 1 0
    yes true = ap (λ (b : Bool). cond {A = ℕ} b 1 0) (eq-eqb (colour_of i) (colour_of i) refl)
    yes false = refl

-- numbers whose flags are set
by_flags : (test : ℕ → Bool) (a : ℕ) (flags : List Bool) → ((k : ℕ) → k < length flags → test (a + k) ≡ get_or flags k false)
    → length (filter test (range_with_len a (length flags))) ≡ length (filter (λ b. b) flags)
by_flags test a [] h = refl
by_flags test a (b ∷ flags) h =
    let first : test a ≡ b = (let e : a + 0 ≡ a = omega arith in sym (ap test e) ∙ h 0 (omega arith)) in
    let here : cond {A = ℕ} (test a) 1 0 ≡ cond b 1 0 = ap (λ (t : Bool). cond {A = ℕ} t 1 0) first in
    let rest = by_flags test (a + 1) flags (λ k lt. (let e : a + 1 + k ≡ a + suc k = omega arith in
    ap test e ∙ h (suc k) (omega (arith, lt)))) in
    kept_more test a (range_with_len (a + 1) (length flags))
    ∙ ap (λ k. k + length (filter test (range_with_len (a + 1) (length flags)))) here ∙ ap (λ k. cond b 1 0 + k) rest
    ∙ sym (kept_more {A = Bool} (λ t. t) b flags)

order_count : (pairs : List (ℕ × ℕ)) (live : List Bool) → length live ≡ length pairs
    → length (order pairs live) ≡ length (filter (λ b. b) live)
unfolding order
order_count pairs live same =
    flat_total (of_colour live (colour pairs live) (length pairs)) 0 64
    ∙ by_colour (live_at live) (colour pairs live) 64 (λ i. let h = (colour-is_greedy pairs live i).within in omega (arith, h))
    (range_with_len 0 (length pairs))
    ∙ ap (λ (n : ℕ). length (filter (live_at live) (range_with_len 0 n))) (sym same)
    ∙ by_flags (live_at live) 0 live (λ k lt. ap (live_at live) (plus_none k))
  where
    plus_none : (k : ℕ) → 0 + k ≡ k
    plus_none k = omega arith

-- ---- links and contacts

pub flags_kept : (links : List Link) → length (filter (λ b. b) (live_flags links)) ≡ live_count links
flags_kept [] = refl
flags_kept (l ∷ links) = omega (
  arith,
  kept_more {A = Bool} (λ b. b) l.live (live_flags links),
  kept_more {A = Link} (λ k. k.live) l links,
  flags_kept links,
)

pub links_count : (links : List Link) → length (link_order links) ≡ live_count links
links_count links =
    order_count (link_pairs links) (live_flags links) (length-map {A = Link} {B = Bool} links (λ l. l.live)
    ∙ sym (length-map {A = Link} {B = ℕ × ℕ} links (λ l. (l.a, l.b))))
    ∙ flags_kept links

all_kept : (pairs : List (ℕ × ℕ)) → length (filter (λ b. b) (map (λ pair. true) pairs)) ≡ length pairs
all_kept [] = refl
all_kept (pair ∷ pairs) = ap suc (all_kept pairs)

pub contacts_count : (pairs : List (ℕ × ℕ)) → length (contact_order pairs) ≡ length pairs
contacts_count pairs = order_count pairs (map (λ pair. true) pairs) (length-map {A = ℕ × ℕ} {B = Bool} pairs (λ pair. true))
    ∙ all_kept pairs
