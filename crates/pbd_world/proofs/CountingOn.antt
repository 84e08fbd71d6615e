-- What grows by a share with each item, and how many items there are.
use Rattle.std.proofs.Common.{ℕ, zero, suc, ◌+◌, ◌*◌, ◌≤◌, Bool, true, false, List, [], ◌∷◌, length, length-append, arith}
use Rattle.std.specs.Prelude.{Result, Ok, Err, IfOk, filter, cond, ◌&&◌, ◌==◌}
use Rattle.std.specs.List.{AllByRecursion, range_with_len, flat_map}
use Rattle.pbd_world.specs.Outcomes.{in_turn, repeated}
use Rattle.pbd_world.specs.Colours.{live_at, colour, of_colour, order}
use Rattle.pbd_world.proofs.KeepingOn.{bind-keeps}
use Rattle.std.proofs.lemmas.List.FromFn.{length-range_with_len}

pub ok_weaker : {A E : Type 0} (P Q : A → Type 0) (r : Result A E) → ((x : A) → P x → Q x) → IfOk r P → IfOk r Q
ok_weaker P Q (Ok x) f h = f x h
ok_weaker P Q (Err e) f h = tt

-- each item adds at most c
pub turn-counts : {A S E : Type 0} (P : ℕ → S → Type 0) (Q : A → Type 0) (c : ℕ) (f : A → S → Result S E)
    → ((n m : ℕ) (s : S) → n ≤ m → P n s → P m s)
    → ((x : A) (n : ℕ) (s : S) → Q x → P n s → IfOk (f x s) (P (n + c)))
    → (xs : List A) → AllByRecursion Q xs → (n : ℕ) (s : S) → P n s → IfOk (in_turn f xs s) (P (n + length xs * c))
turn-counts {A} {S} {E} P Q c f w k [] q n s h = w n (n + length {A = A} [] * c) s (omega arith) h
turn-counts {A} {S} {E} P Q c f w k (x ∷ xs) q n s h =
    bind-keeps (P (n + c)) (P (n + length (x ∷ xs) * c)) (f x s) (in_turn f xs) (k x n s q.0 h)
    (λ t u. ok_weaker (P ((n + c) + length xs * c)) (P (n + length (x ∷ xs) * c)) (in_turn f xs t)
    (λ v j. w ((n + c) + length xs * c) (n + length (x ∷ xs) * c) v (omega arith) j) (turn-counts P Q c f w k xs q.1 (n + c) t u))

pub repeat-counts : {S E : Type 0} (P : ℕ → S → Type 0) (c : ℕ) (f : S → Result S E)
    → ((n m : ℕ) (s : S) → n ≤ m → P n s → P m s)
    → ((n : ℕ) (s : S) → P n s → IfOk (f s) (P (n + c)))
    → (times n : ℕ) (s : S) → P n s → IfOk (repeated times f s) (P (n + times * c))
repeat-counts P c f w k zero n s h = w n (n + 0 * c) s (omega arith) h
repeat-counts P c f w k (suc times) n s h =
    bind-keeps (P (n + c)) (P (n + suc times * c)) (f s) (repeated times f) (k n s h)
    (λ t u. ok_weaker (P ((n + c) + times * c)) (P (n + suc times * c)) (repeated times f t)
    (λ v j. w ((n + c) + times * c) (n + suc times * c) v (omega arith) j) (repeat-counts P c f w k times (n + c) t u))

-- ---- lengths

kept_length : {A : Type 0} (b : Bool) (x : A) (n : ℕ) (xs : List A) → length xs ≤ n → length (cond b (x ∷ xs) xs) ≤ suc n
kept_length true x n xs h = omega (arith, h)
kept_length false x n xs h = omega (arith, h)

pub filter_length : {A : Type 0} (test : A → Bool) (xs : List A) → length (filter test xs) ≤ length xs
filter_length test [] = omega arith
filter_length test (x ∷ xs) = kept_length (test x) x (length xs) (filter test xs) (filter_length test xs)

flat_length : (f : ℕ → List ℕ) (m : ℕ) (xs : List ℕ) → ((x : ℕ) → length (f x) ≤ m) → length (flat_map f xs) ≤ length xs * m
flat_length f m [] h = omega arith
flat_length f m (x ∷ xs) h = omega (arith, length-append (f x) (flat_map f xs), h x, flat_length f m xs h)

-- an order has at most 64 times as many numbers as there are pairs
pub order_length : (pairs : List (ℕ × ℕ)) (live : List Bool) → length (order pairs live) ≤ 64 * length pairs
unfolding order
order_length pairs live =
    let n = length pairs in
    let each : (c : ℕ) → length (of_colour live (colour pairs live) n c)
    ≤ n = λ c. omega (
      arith,
      filter_length (λ i. live_at live i && colour pairs live i == c) (range_with_len 0 n),
      length-range_with_len 0 n,
    ) in
    omega (arith, flat_length (of_colour live (colour pairs live) n) n (range_with_len 0 64) each, length-range_with_len 0 64)
