-- As much of a list as there is room for, written over another, item by item.
use Rattle.std.proofs.Common.{◌≡◌, ◌∙◌, refl, sym, ap, subst, zero, suc, ℕ, ◌+◌, ◌<◌, ◌≤◌, min, nat_lt, Bool, true, false, cond, List, []}
use Rattle.std.proofs.Common.{◌∷◌, ◌++◌, length, get_or, take, map, filter, slice_set, arith}
use Rattle.std.specs.List.{range_with_len}
use Rattle.std.proofs.lemmas.Bool.{ltb-true, ltb-false}
use Rattle.std.proofs.lemmas.List.{take_all, append-nil, get_or-map, length-map, length-append}
use Rattle.std.proofs.lemmas.List.Elements.{filter-append}
use Rattle.pbd_world.specs.Lending.{overwritten}

pub over_none : {T : Type 0} (xs : List T) → overwritten xs [] ≡ xs
over_none xs = take_all (length xs) xs (omega arith)

pub over_long : {T : Type 0} (xs ws : List T) → length (overwritten xs ws) ≡ length xs
over_long [] ws = refl
over_long (x ∷ xs) [] = ap (λ (ys : List _). length ys) (over_none (x ∷ xs))
over_long (x ∷ xs) (w ∷ ws) = ap suc (over_long xs ws)

-- one more, where there is room for it
pub over_more : {T : Type 0} (xs ws : List T) (w : T) → length ws < length xs
    → slice_set (overwritten xs ws) (length ws) w ≡ overwritten xs (ws ++ w ∷ [])
over_more [] ws w room = absurd (omega (arith, room))
over_more (x ∷ xs) [] w room = refl
over_more (x ∷ xs) (v ∷ ws) w room = ap (λ ys. v ∷ ys) (over_more xs ws w (omega (arith, room)))

-- and where there is none
pub over_full : {T : Type 0} (xs ws more : List T) → length xs ≤ length ws → overwritten xs ws ≡ overwritten xs (ws ++ more)
over_full [] ws more full = refl
over_full (x ∷ xs) [] more full = absurd (omega (arith, full))
over_full (x ∷ xs) (w ∷ ws) more full = ap (λ ys. w ∷ ys) (over_full xs ws more (omega (arith, full)))

-- ---- all of a list, up to the end of what it is written over

pub over_next : {T : Type 0} (xs qs : List T) (i : ℕ) (d : T) → i < length xs → i < length qs
    → slice_set (overwritten xs (take i qs)) i (get_or qs i d) ≡ overwritten xs (take (i + 1) qs)
over_next [] qs i d room lt = absurd (omega (arith, room))
over_next (x ∷ xs) [] i d room lt = absurd (omega (arith, lt))
over_next (x ∷ xs) (q ∷ qs) zero d room lt = refl
over_next (x ∷ xs) (q ∷ qs) (suc i) d room lt =
    let e : suc i + 1 ≡ suc (i + 1) = omega arith in
    rw e (ap (λ ys. q ∷ ys) (over_next xs qs i d (omega (arith, room)) (omega (arith, lt))))

pub over_end : {T : Type 0} (xs qs : List T) (n : ℕ) → min (length xs) (length qs) ≤ n → overwritten xs (take n qs) ≡ overwritten xs qs
over_end [] qs n all = refl
over_end (x ∷ xs) [] zero all = refl
over_end (x ∷ xs) [] (suc n) all = refl
over_end (x ∷ xs) (q ∷ qs) zero all = absurd (omega (arith, all))
over_end (x ∷ xs) (q ∷ qs) (suc n) all = ap (λ ys. q ∷ ys) (over_end xs qs n (omega (arith, all)))

-- the same for what is made of each item of a list

pub mapped_none : {S T : Type 0} (f : S → T) (ps : List S) (xs : List T) → xs ≡ overwritten xs (take 0 (map f ps))
mapped_none f ps xs = sym (over_none xs)

pub mapped_next : {S T : Type 0} (f : S → T) (ps : List S) (xs into : List T) (i : ℕ) (d : S) (p : T)
    → into ≡ overwritten xs (take i (map f ps)) → p ≡ f (get_or ps i d) → i < length xs → i < length ps
    → slice_set into i p ≡ overwritten xs (take (i + 1) (map f ps))
mapped_next {S = S} {T = T} f ps xs into i d p so_far is room lt =
    ap (λ (ys : List T). slice_set ys i p) so_far
    ∙ ap (λ (q : T). slice_set (overwritten xs (take i (map f ps))) i q) (is ∙ sym (get_or-map {X = S} {Y = T} f ps i d p lt))
    ∙ over_next xs (map f ps) i p room (omega (arith, lt, length-map {A = S} {B = T} ps f))

pub mapped_end : {S T : Type 0} (f : S → T) (ps : List S) (xs into : List T) (i : ℕ) → into ≡ overwritten xs (take i (map f ps))
    → min (length xs) (length ps) ≤ i → into ≡ overwritten xs (map f ps)
mapped_end {S = S} {T = T} f ps xs into i so_far all = so_far
    ∙ over_end xs (map f ps) i (omega (arith, all, length-map {A = S} {B = T} ps f))

-- ---- the numbers that pass a test

range_more : (a n : ℕ) → range_with_len a (n + 1) ≡ range_with_len a n ++ (a + n) ∷ []
range_more a zero = let e : a + 0 ≡ a = omega arith in rw e refl
range_more a (suc n) =
    let e : suc n + 1 ≡ suc (n + 1) = omega arith in
    let f : a + suc n ≡ a + 1 + n = omega arith in
    rw (e, f) (ap (λ ns. a ∷ ns) (range_more (a + 1) n))

-- those below n
abbrev pub passing : (ℕ → Bool) → ℕ → List ℕ
passing test n = filter test (range_with_len 0 n)

filter_one : (test : ℕ → Bool) (so_far : List ℕ) (n : ℕ) → so_far ++ filter test (n ∷ []) ≡ cond (test n) (so_far ++ n ∷ []) so_far
filter_one test so_far n = append_if (test n)
  where
    append_if : (b : Bool) → so_far ++ cond b (n ∷ []) [] ≡ cond b (so_far ++ n ∷ []) so_far
    append_if true = refl
    append_if false = append-nil so_far

pub passing_next : (test : ℕ → Bool) (n : ℕ) → passing test (n + 1) ≡ cond (test n) (passing test n ++ n ∷ []) (passing test n)
passing_next test n =
    let e : 0 + n ≡ n = omega arith in
    ap (λ ns. filter test ns) (range_more 0 n ∙ ap (λ (m : ℕ). range_with_len 0 n ++ m ∷ []) e)
    ∙ filter-append test (range_with_len 0 n) (n ∷ []) ∙ filter_one test (passing test n) n

-- so many pass below i, and as many of them as there is room for are written over the list
pub record Written (test : ℕ → Bool) (i : ℕ) (old : List ℕ) (n : ℕ) (new : List ℕ) : Type 0 where
  pub count : n ≡ length (passing test i)
  pub written : new ≡ overwritten old (passing test i)
  pub few : n ≤ i

pub written_none : (test : ℕ → Bool) (old : List ℕ) → Written test 0 old 0 old
written_none test old = record { count = refl; written = sym (over_none old); few = omega arith }

written_if : (b : Bool) (old so_far : List ℕ) (n : ℕ) → cond b
    (cond (nat_lt (length so_far) (length old)) (slice_set (overwritten old so_far) (length so_far) n) (overwritten old so_far))
    (overwritten old so_far)
    ≡ overwritten old (cond b (so_far ++ n ∷ []) so_far)
written_if false old so_far n = refl
written_if true old so_far n = over_while_room (nat_lt (length so_far) (length old)) refl
  where
    over_while_room : (c : Bool) → nat_lt (length so_far) (length old) ≡ c
        → cond c (slice_set (overwritten old so_far) (length so_far) n) (overwritten old so_far) ≡ overwritten old (so_far ++ n ∷ [])
    over_while_room true is = over_more old so_far n (ltb-true (length so_far) (length old) is)
    over_while_room false is = over_full old so_far (n ∷ []) (ltb-false (length so_far) (length old) is)

count_if : (b : Bool) (so_far : List ℕ) (n : ℕ) → cond b (length so_far + 1) (length so_far) ≡ length (cond b (so_far ++ n ∷ []) so_far)
count_if true so_far n = grind (arith, length-append)
count_if false so_far n = refl

few_if : (b : Bool) (count i : ℕ) → count ≤ i → cond b (count + 1) count ≤ i + 1
few_if true count i few = omega (arith, few)
few_if false count i few = omega (arith, few)

-- the step at i, which is wanted or not
pub written_next : (test : ℕ → Bool) (i : ℕ) (old : List ℕ) (count : ℕ) (new : List ℕ) (wanted : Bool) (count' : ℕ) (new' : List ℕ)
    → Written test i old count new → wanted ≡ test i
    → count' ≡ cond wanted (count + 1) count → new' ≡ cond wanted (cond (nat_lt count (length new)) (slice_set new count i) new) new
    → Written test (i + 1) old count' new'
written_next test i old count new wanted count' new' so_far is counted put =
    let long : length new ≡ length old = ap (λ (xs : List ℕ). length xs) so_far.written ∙ over_long old (passing test i) in
    record {
      count = counted ∙ ap (λ (b : Bool). cond b (count + 1) count) is ∙ ap (λ (k : ℕ). cond (test i) (k + 1) k) so_far.count
          ∙ count_if (test i) (passing test i) i ∙ ap (λ (xs : List ℕ). length xs) (sym (passing_next test i));
      written = put ∙ ap (λ (b : Bool). cond b (cond (nat_lt count (length new)) (slice_set new count i) new) new) is
          ∙ ap (λ (m : ℕ). cond (test i) (cond (nat_lt count m) (slice_set new count i) new) new) long
          ∙ ap (λ (k : ℕ). cond (test i) (cond (nat_lt k (length old)) (slice_set new k i) new) new) so_far.count
          ∙ ap (λ (xs : List ℕ). cond (test i) (cond (nat_lt (length (passing test i)) (length old))
          (slice_set xs (length (passing test i)) i) xs) xs) so_far.written
          ∙ written_if (test i) old (passing test i) i ∙ ap (λ (xs : List ℕ). overwritten old xs) (sym (passing_next test i));
      few = subst (λ (k : ℕ). k ≤ i + 1) (sym counted) (few_if wanted count i so_far.few);
    }

pub written_all : (test : ℕ → Bool) (i n : ℕ) (old : List ℕ) (count : ℕ) (new : List ℕ) → i ≡ n → Written test i old count new
    → Written test n old count new
written_all test i n old count new all so_far = subst (λ (k : ℕ). Written test k old count new) all so_far
