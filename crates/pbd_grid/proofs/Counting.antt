-- How often chains are read.
use Rattle.std.proofs.Common.{◌≡◌, ℕ, zero, suc, ◌+◌, ◌-◌, ◌*◌, ◌/◌, ◌%◌, ◌<◌, ◌≤◌, ◌^◌, ◌&&◌, Bool, true, false, cond, eqb, ltb, List, []}
use Rattle.std.proofs.Common.{◌∷◌, ◌++◌, length, map, take, set, Option, Some, None, slice_get, refl, sym, ap, ◌∙◌, subst, arith, inl, inr, add-one}
use Rattle.std.proofs.Common.{length-append}
use Rattle.std.proofs.lemmas.Bool.{cases_eq, cases_lt, eq-eqb, ne_eqb, lt-ltb, le-ltb}
use Rattle.std.proofs.lemmas.Bool.Decides.{nat_tests}
use Rattle.std.proofs.lemmas.List.{get_or-set_same, get_or-set_other, map-append, take_all}
use Rattle.std.proofs.lemmas.List.Elements.{filter-append}
use Rattle.std.proofs.lemmas.List.FromFn.{length-range_with_len}
use Rattle.std.proofs.lemmas.List.Sums.{sum_by_push}
use Rattle.std.proofs.lemmas.Option.{slice_get_within}
use Rattle.std.proofs.Math.Nat.{mul-le-mul_left}
use Rattle.std.specs.List.{filter, range_with_len, sum_by}
use Rattle.pbd_chain.specs.Linked.{chain_at, item_at, is_in}
use Rattle.pbd_chain.proofs.Walks.{take_get, get_none, get_in}
use Rattle.pbd_num.specs.declared.Vec3.{Vec3}
use Rattle.pbd_grid.specs.declared.lookup.GridCell.{GridCell}
use Rattle.pbd_world.specs.Room.{Roomed}
use Rattle.pbd_grid.specs.Blocks.{AreLaid, IsFalling, beside, slot_of, corner_of, cube_at, cell_at, picked}
use Rattle.pbd_grid.specs.Looks.{looks_in, looks_round, looks_before}
use Rattle.pbd_grid.proofs.Finding.{range_more}
use Rattle.pbd_grid.proofs.Looking.{finds, finds_behind}
use Rattle.pbd_grid.proofs.Walking.{all_before, kept_fits, IsKept, IsKept-none, IsKept-more, IsKept-all, IsKept-behind}
use Rattle.pbd_world.proofs.CountingOn.{filter_length}

-- ---- those that pass a test

pub first_few : (test : ℕ → Bool) (k : ℕ) (xs : List ℕ) → length (filter test (take k xs)) ≤ k
first_few test zero xs = omega arith
first_few test (suc k) [] = omega arith
first_few test (suc k) (x ∷ xs) = first_few_if (test x) (first_few test k xs)
  where
    first_few_if : (b : Bool) → length (filter test (take k xs)) ≤ k → length (cond b (x ∷ filter test (take k xs)) (filter test (take k xs))) ≤ suc k
    first_few_if true h = omega (arith, h)
    first_few_if false h = omega (arith, h)

pub one_more_passes : (test : ℕ → Bool) (chain : List ℕ) (k x : ℕ) → slice_get chain k ≡ Some x → test x ≡ true
    → length (filter test (take (k + 1) chain)) ≡ length (filter test (take k chain)) + 1
one_more_passes test chain k x e is =
    ap (λ (n : ℕ). length (filter test (take n chain))) (add-one k)
    ∙ ap (λ (xs : List ℕ). length (filter test xs)) (take_get chain k x e)
    ∙ ap length (filter-append test (take k chain) (x ∷ []))
    ∙ length-append (filter test (take k chain)) (cond (test x) (x ∷ []) [])
    ∙ ap (λ (b : Bool). length (filter test (take k chain)) + length (cond b (x ∷ []) [])) is

-- ---- a walk along a falling chain, up to what isn't behind i
-- the first of a chain and what comes behind its first k items were read, all of which are behind i
pub record HasLooked (chain : List ℕ) (i k looks : ℕ) : Type 0 where
  pub count : looks ≡ 1 + length (filter (ltb i) (take k chain))

module _ {chain : List ℕ} {i k looks : ℕ} (h : HasLooked chain i k looks) where
  pub looked_small : looks ≤ 1 + k
  looked_small = omega (arith, h.count, first_few (ltb i) k chain)

  pub looked_more : (j : ℕ) → slice_get chain k ≡ Some j → i < j → HasLooked chain i (k + 1) (looks + 1)
  looked_more j e l = record { count = omega (arith, h.count, one_more_passes (ltb i) chain k j e (lt-ltb i j l)) }

  pub looked_all : length chain ≤ k → looks ≡ 1 + length (filter (ltb i) chain)
  looked_all l = h.count ∙ ap (λ (xs : List ℕ). 1 + length (filter (ltb i) xs)) (take_all k chain l)

  pub looked_behind : (high j : ℕ) → IsFalling high chain → slice_get chain k ≡ Some j → j ≤ i → looks ≡ 1 + length (filter (ltb i) chain)
  looked_behind high j falls e l = h.count ∙ ap (λ (xs : List ℕ). 1 + length xs)
      (all_before (ltb i) i (le-ltb i) high chain k j falls e l)

pub looks_are : {chains : List (List ℕ)} {count t : ℕ} {cubes : List GridCell} {places : List Vec3} → AreLaid chains count cubes places t
    → (i : ℕ) (c : GridCell) (looks s : ℕ) → s ≡ slot_of count c → s < count
    → looks ≡ 1 + length (filter (ltb i) (chain_at chains (slot_of (length chains) c))) → looks ≡ looks_in count t places i c
looks_are {chains = chains} {count = count} h i c looks s is l e =
    e ∙ ap (λ (n : ℕ). 1 + length (filter (ltb i) (chain_at chains (slot_of n c)))) h.counted
    ∙ ap (λ (n : ℕ). 1 + n) (h.shared i (slot_of count c) (omega (arith, is, l)))

-- ---- a falling chain, followed as long as what stands there is behind i
falling_length : (high : ℕ) (xs : List ℕ) → IsFalling high xs → length xs ≤ high
falling_length high [] h = omega arith
falling_length high (x ∷ xs) h = omega (arith, h.0, falling_length x xs h.1)

falling_next : (high : ℕ) (xs : List ℕ) (k x y : ℕ) → IsFalling high xs → slice_get xs k ≡ Some x → slice_get xs (suc k) ≡ Some y → y < x
falling_next high [] k x y h e f = absurd (let no : ⊥ = cc in no)
falling_next high (z ∷ []) zero x y h e f = absurd (let no : ⊥ = cc in no)
falling_next high (z ∷ w ∷ ws) zero x y h e f = let s : z ≡ x = cc in let r : w ≡ y = cc in omega (arith, h.1.0, s, r)
falling_next high (z ∷ zs) (suc k) x y h e f = falling_next z zs k x y h.1 e f

-- what stands before j in the chain was looked at, all of it behind i
pub record IsFollowed (test : ℕ → Bool) (chain : List ℕ) (i j looks : ℕ) (old now : Roomed ℕ) : Type 0 where
  pub before : ℕ
  pub kept : IsKept test chain (Some j) before old now
  pub looked : HasLooked chain i before looks

pub IsFollowed-begins : (test : ℕ → Bool) (chain : List ℕ) (i j : ℕ) (old : Roomed ℕ) → slice_get chain 0 ≡ Some j
    → IsFollowed test chain i j 1 old old
IsFollowed-begins test chain i j old e = record {
  before = 0;
  kept = IsKept-none test chain (Some j) old (sym e);
  looked = record { count = refl };
}

module _ {test : ℕ → Bool} {chain : List ℕ} {i j looks : ℕ} {old now : Roomed ℕ} (h : IsFollowed test chain i j looks old now) where
  pub followed_fits : (b : Bool) → b ≡ test j → length old.entries + length (filter test chain) ≤ old.room
      → length now.entries + length (cond b (j ∷ []) []) ≤ now.room
  followed_fits b is fits = kept_fits h.kept j b refl is fits

  pub followed_in : is_in j chain ≡ true
  followed_in = get_in chain h.before j (sym h.kept.next)

  pub followed_small : (high : ℕ) → IsFalling high chain → looks ≤ high
  followed_small high falls = omega (
    arith,
    looked_small h.looked,
    slice_get_within chain h.before j (sym h.kept.next),
    falling_length high chain falls,
  )

  -- what a chain tells of the item behind j
  module _ (next : Option ℕ) (behind : (k : ℕ) → slice_get chain k ≡ Some j → next ≡ slice_get chain (k + 1)) where
    pub followed_next : (k : ℕ) → next ≡ Some k → slice_get chain (h.before + 1) ≡ Some k
    followed_next k e = sym (behind h.before (sym h.kept.next)) ∙ e

    at_end : next ≡ None → length chain ≤ h.before + 1
    at_end e = get_none chain (h.before + 1) (sym (behind h.before (sym h.kept.next)) ∙ e)

    pub read_all : next ≡ None → i < j → looks + 1 ≡ 1 + length (filter (ltb i) chain)
    read_all e l = looked_all (looked_more h.looked j (sym h.kept.next) l) (at_end e)

  pub found_all : (b : Bool) (new : Roomed ℕ) → b ≡ test j → new ≡ record now { entries = now.entries ++ cond b (j ∷ []) [] }
      → (next : Option ℕ) → ((k : ℕ) → slice_get chain k ≡ Some j → next ≡ slice_get chain (k + 1)) → next ≡ None
      → new ≡ record old { entries = old.entries ++ filter test chain }
  found_all b new is push next behind e =
      IsKept-all (IsKept-more h.kept j b new next refl is push (behind h.before (sym h.kept.next))) (at_end next behind e)

  pub followed_smaller : (high k : ℕ) → IsFalling high chain → slice_get chain (h.before + 1) ≡ Some k → k < j
  followed_smaller high k falls e = falling_next high chain h.before j k falls (sym h.kept.next)
      (ap (slice_get chain) (sym (add-one h.before)) ∙ e)

  pub IsFollowed-more : (b : Bool) (new : Roomed ℕ) (k : ℕ) → b ≡ test j → new ≡ record now { entries = now.entries ++ cond b (j ∷ []) [] }
      → slice_get chain (h.before + 1) ≡ Some k → i < j → IsFollowed test chain i k (looks + 1) old new
  IsFollowed-more b new k is push e l = record {
    before = h.before + 1;
    kept = IsKept-more h.kept j b new (Some k) refl is push (sym e);
    looked = looked_more h.looked j (sym h.kept.next) l;
  }

  pub found_behind : (high : ℕ) → IsFalling high chain → j ≤ i → ((x : ℕ) → x ≤ i → test x ≡ false)
      → now ≡ record old { entries = old.entries ++ filter test chain }
  found_behind high falls le fails = IsKept-behind test i fails h.kept high j falls refl le

  pub read_behind : (high : ℕ) → IsFalling high chain → j ≤ i → looks ≡ 1 + length (filter (ltb i) chain)
  read_behind high falls le = looked_behind h.looked high j falls (sym h.kept.next) le

-- a look-up that ends with the first of its chain
module _ {chains : List (List ℕ)} {count t : ℕ} {cubes : List GridCell} {places : List Vec3} (h : AreLaid chains count cubes places t)
    (test : ℕ → ℕ → Bool) (i s : ℕ) (c : GridCell) (is : s ≡ slot_of count c) (below : s < count) (first : Option ℕ)
    (e : first ≡ item_at chains s 0) where
  begins : first ≡ slice_get (chain_at chains (slot_of (length chains) c)) 0
  begins = e ∙ ap (λ (n : ℕ). item_at chains n 0) (is ∙ ap (λ (n : ℕ). slot_of n c) (sym h.counted))

  at_first : (old : Roomed ℕ) → IsKept (finds places t test i c) (chain_at chains (slot_of (length chains) c)) first 0 old old
  at_first old = IsKept-none (finds places t test i c) (chain_at chains (slot_of (length chains) c)) first old begins

  pub none_found : first ≡ None → (old : Roomed ℕ) → old ≡ record old { entries = old.entries ++ picked chains places t test i c }
  none_found none old = IsKept-all (at_first old) (get_none (chain_at chains (slot_of (length chains) c)) 0 (sym begins ∙ none))

  pub none_read : first ≡ None → 1 ≡ looks_in count t places i c
  none_read none = looks_are h i c 1 s is below (looked_all {chain = chain_at chains (slot_of (length chains) c)} {i = i} {k = 0} {looks = 1}
      (record { count = refl }) (get_none (chain_at chains (slot_of (length chains) c)) 0 (sym begins ∙ none)))

  pub behind_found : (j : ℕ) → first ≡ Some j → j ≤ i → (old : Roomed ℕ)
      → old ≡ record old { entries = old.entries ++ picked chains places t test i c }
  behind_found j is_j le old = IsKept-behind (finds places t test i c) i (finds_behind places t test i c) (at_first old) (length places) j
      (h.falling (slot_of (length chains) c)) is_j le

  pub behind_read : (j : ℕ) → first ≡ Some j → j ≤ i → 1 ≡ looks_in count t places i c
  behind_read j is_j le = looks_are h i c 1 s is below (looked_behind {chain = chain_at chains (slot_of (length chains) c)} {i = i} {k = 0}
      {looks = 1} (record { count = refl }) (length places) j (h.falling (slot_of (length chains) c)) (sym begins ∙ is_j) le)

-- ---- those behind i in a chain that is filled from 0 on
linked_behind : (xss : List (List ℕ)) (c i : ℕ) → c < length xss → (j s : ℕ)
    → length (filter (ltb j) (chain_at (set xss c (i ∷ chain_at xss c)) s))
    ≡ length (filter (ltb j) (chain_at xss s)) + cond (ltb j i && eqb c s) 1 0
linked_behind xss c i l j s = elim (cases_eq c s) [
  | inl e ↦ rw (← e, get_or-set_same xss c (i ∷ chain_at xss c) [] l, eq-eqb c c refl) (counted_behind (ltb j i))
  | inr ne ↦ rw (get_or-set_other xss c s (i ∷ chain_at xss c) [] (λ e. ne (sym e)), ne_eqb c s ne) (none (ltb j i))
]
  where
    counted_behind : (b : Bool) → length (cond b (i ∷ filter (ltb j) (chain_at xss c)) (filter (ltb j) (chain_at xss c)))
        ≡ length (filter (ltb j) (chain_at xss c)) + cond (b && true) 1 0
    counted_behind true = omega arith
    counted_behind false = omega arith

    none : (b : Bool) → length (filter (ltb j) (chain_at xss s)) ≡ length (filter (ltb j) (chain_at xss s)) + cond (b && false) 1 0
    none true = omega arith
    none false = omega arith

range_behind : (test : ℕ → Bool) (i j : ℕ)
    → length (filter test (range_with_len (j + 1) (i + 1 - (j + 1))))
    ≡ length (filter test (range_with_len (j + 1) (i - (j + 1)))) + cond (ltb j i && test i) 1 0
range_behind test i j = elim (cases_lt j i) [
  | inl l ↦ (
      let here : ltb j i ≡ true = grind (arith, nat_tests) in
      let longer : i + 1 - (j + 1) ≡ i - (j + 1) + 1 = omega (arith, l) in
      let last : i ≡ j + 1 + (i - (j + 1)) = omega (arith, l) in
      ap (λ (n : ℕ). length (filter test (range_with_len (j + 1) n))) longer
      ∙ ap (λ (xs : List ℕ). length (filter test xs)) (range_more (j + 1) (i - (j + 1)) i last)
      ∙ ap length (filter-append test (range_with_len (j + 1) (i - (j + 1))) (i ∷ []))
      ∙ length-append (filter test (range_with_len (j + 1) (i - (j + 1)))) (cond (test i) (i ∷ []) [])
      ∙ rw here (one_more_if (test i)))
  | inr l ↦ (
      let here : ltb j i ≡ false = grind (arith, nat_tests) in
      let same : i + 1 - (j + 1) ≡ i - (j + 1) = omega (arith, l) in
      ap (λ (n : ℕ). length (filter test (range_with_len (j + 1) n))) same ∙ rw here (omega arith))
]
  where
    one_more_if : (b : Bool) → length (filter test (range_with_len (j + 1) (i - (j + 1)))) + length (cond b (i ∷ []) [])
        ≡ length (filter test (range_with_len (j + 1) (i - (j + 1)))) + cond b 1 0
    one_more_if true = refl
    one_more_if false = refl

-- the chains hold those before i, so that as many stand behind j in chain s as have that chain
abbrev pub AreBehind : (ℕ → ℕ) → List (List ℕ) → ℕ → ℕ → Type 0
AreBehind slot chains n i = (j s : ℕ) → s < n
    → length (filter (ltb j) (chain_at chains s)) ≡ length (filter (λ q. eqb (slot q) s) (range_with_len (j + 1) (i - (j + 1))))

pub AreBehind-none : (slot : ℕ → ℕ) (xss : List (List ℕ)) (n : ℕ) → AreBehind slot (map (λ _. []) xss) n 0
AreBehind-none slot xss n j s l = none xss s ∙ ap (λ (m : ℕ). length (filter (λ q. eqb (slot q) s) (range_with_len (j + 1) m)))
    (let e : 0 ≡ 0 - (j + 1) = omega arith in e)
  where
    none : (yss : List (List ℕ)) (p : ℕ) → length (filter (ltb j) (chain_at (map (λ _. []) yss) p)) ≡ 0
    none [] p = refl
    none (ys ∷ yss) zero = refl
    none (ys ∷ yss) (suc p) = none yss p

pub AreBehind-more : (slot : ℕ → ℕ) (xss : List (List ℕ)) (n i c : ℕ) → c < length xss → c ≡ slot i → AreBehind slot xss n i
    → AreBehind slot (set xss c (i ∷ chain_at xss c)) n (i + 1)
AreBehind-more slot xss n i c l is h j s ls =
    linked_behind xss c i l j s
    ∙ ap (λ (m : ℕ). m + cond (ltb j i && eqb c s) 1 0) (h j s ls)
    ∙ ap (λ (m : ℕ). length (filter (λ q. eqb (slot q) s) (range_with_len (j + 1) (i - (j + 1)))) + cond (ltb j i && eqb m s) 1 0) is
    ∙ sym (range_behind (λ q. eqb (slot q) s) i j)

-- ---- sums of readings
module _ (count t : ℕ) (places : List Vec3) where
  pub in_few : (i : ℕ) (c : GridCell) → i < length places → looks_in count t places i c ≤ length places
  in_few i c l = omega (
    arith,
    l,
    filter_length (λ q. eqb (slot_of count (cell_at t places q)) (slot_of count c)) (range_with_len (i + 1) (length places - (i + 1))),
    length-range_with_len (i + 1) (length places - (i + 1)),
  )

  module _ (i : ℕ) (from : GridCell) where
    pub round_none : looks_round count t places i from 0 ≡ 0
    unfolding looks_round
    round_none = refl

    pub round_more : (k : ℕ) → looks_round count t places i from (k + 1)
        ≡ looks_round count t places i from k + looks_in count t places i (beside from (k % 2) (k / 2 % 2) (k / 4))
    unfolding looks_round
    round_more k = ap (λ (ns : List ℕ). sum_by (looks_in count t places i) (map (λ n. beside from (n % 2) (n / 2 % 2) (n / 4)) ns))
        (range_more 0 k k (omega arith))
        ∙ ap (sum_by (looks_in count t places i)) (map-append (λ n. beside from (n % 2) (n / 2 % 2) (n / 4)) (range_with_len 0 k) (k ∷ []))
        ∙ sum_by_push (looks_in count t places i) (map (λ n. beside from (n % 2) (n / 2 % 2) (n / 4)) (range_with_len 0 k))
        (beside from (k % 2) (k / 2 % 2) (k / 4))

    pub round_added : (k looks more : ℕ) (c : GridCell) → looks ≡ looks_round count t places i from k
        → c ≡ beside from (k % 2) (k / 2 % 2) (k / 4) → more ≡ looks_in count t places i c
        → looks + more ≡ looks_round count t places i from (k + 1)
    round_added k looks more c e is f = omega (arith, e, f, ap (looks_in count t places i) is, round_more k)

    pub round_few : i < length places → (k : ℕ) → looks_round count t places i from k ≤ length places * k
    round_few l zero = omega (arith, round_none)
    round_few l (suc k) =
        let e : looks_round count t places i from (suc k) ≡ looks_round count t places i from (k + 1) =
        ap (looks_round count t places i from) (sym (add-one k)) in
        omega (arith, e, round_more k, round_few l k, in_few i (beside from (k % 2) (k / 2 % 2) (k / 4)) l)

    round_least : (k : ℕ) → k ≤ looks_round count t places i from k
    round_least zero = omega arith
    round_least (suc k) =
        let e : looks_round count t places i from (suc k) ≡ looks_round count t places i from (k + 1) =
        ap (looks_round count t places i from) (sym (add-one k)) in
        omega (arith, e, round_more k, round_least k)

    pub round_small : i < length places → (k : ℕ) → k ≤ 8 → looks_round count t places i from k ≤ 8 * length places
    round_small l k few = omega (arith, round_few l k, mul-le-mul_left (length places) few)

  -- what particle i costs
  abbrev pub looks_of : ℕ → ℕ
  looks_of i = looks_round count t places i (corner_of (cube_at t places i)) 8

  pub before_none : looks_before count t places 0 ≡ 0
  unfolding looks_before
  before_none = refl

  pub before_more : (n : ℕ) → looks_before count t places (n + 1) ≡ looks_before count t places n + looks_of n
  unfolding looks_before
  before_more n = ap (sum_by looks_of) (range_more 0 n n (omega arith)) ∙ sum_by_push looks_of (range_with_len 0 n) n

  pub before_le : (n m : ℕ) → looks_before count t places n ≤ looks_before count t places (n + m)
  before_le n zero = let e : looks_before count t places (n + zero)
      ≡ looks_before count t places n = ap (looks_before count t places) (omega arith) in omega (arith, e)
  before_le n (suc m) =
      let e : looks_before count t places (n + suc m) ≡ looks_before count t places (n + m + 1) =
      ap (looks_before count t places) (omega arith) in
      omega (arith, e, before_more (n + m), before_le n m)

  pub before_all : (n : ℕ) → n ≤ length places → looks_before count t places n ≤ looks_before count t places (length places)
  before_all n l =
      let e : n + (length places - n) ≡ length places = omega (arith, l) in
      subst (λ (m : ℕ). looks_before count t places n ≤ looks_before count t places m) e (before_le n (length places - n))

  -- each particle costs at most eight times their number
  pub before_few : (n : ℕ) → n ≤ length places → looks_before count t places n ≤ 8 * length places * n
  before_few zero l = omega (arith, before_none)
  before_few (suc n) l =
      let e : looks_before count t places (suc n) ≡ looks_before count t places (n + 1) =
      ap (looks_before count t places) (sym (add-one n)) in
      omega (
        arith,
        e,
        before_more n,
        before_few n (omega (arith, l)),
        round_small n (corner_of (cube_at t places n)) (omega (arith, l)) 8 (omega arith),
      )

  pub before_small : (n : ℕ) → n ≤ length places → length places ≤ 65536 → looks_before count t places n ≤ 2 ^ 35
  before_small n l few = omega (
    arith,
    before_few n l,
    few,
    mul-le-mul_left (8 * length places) (let m : n ≤ 65536 = omega (arith, l, few) in m),
  )

  -- and eight at least
  pub before_least : (n : ℕ) → 8 * n ≤ looks_before count t places n
  before_least zero = omega arith
  before_least (suc n) =
      let e : looks_before count t places (suc n) ≡ looks_before count t places (n + 1) =
      ap (looks_before count t places) (sym (add-one n)) in
      omega (arith, e, before_more n, before_least n, round_least n (corner_of (cube_at t places n)) 8)
