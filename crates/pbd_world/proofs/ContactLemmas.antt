-- The contacts are the pairs that touch, in order.
use Rattle.std.proofs.Common.{◌≡◌, refl, sym, ap, ◌∙◌, ℕ, zero, suc, ◌+◌, ◌-◌, ◌<◌, ◌≤◌, Bool, true, false, not, ◌&&◌, List, [], ◌∷◌}
use Rattle.std.proofs.Common.{length, get_or, map, arith, ℤ, inl, inr, All, subst, ◌⊎◌}
use Rattle.std.specs.Prelude.{cond, filter, Contains, AllPairs, IsTrue}
use Rattle.std.specs.List.{AllByRecursion, range_with_len, flat_map}
use Rattle.std.proofs.lemmas.Bool.{and_parts, and_from, ltb-true, lt-ltb, cases_eq, cases_Bool, false≢true, not-true}
use Rattle.std.proofs.lemmas.List.Elements.{Contains-append_left, Contains-append_right}
use Rattle.pbd_world.specs.declared.parts.Particle.{Particle}
use Rattle.pbd_world.specs.declared.parts.Link.{Link}
use Rattle.pbd_world.specs.Particles.{particle_at}
use Rattle.pbd_world.specs.Colours.{joins, joined, pair_at, live_at}
use Rattle.pbd_world.specs.Bonds.{no_link}
use Rattle.pbd_world.specs.Contacts.{row, all_pairs, are_near, is_contact, contacts_of, link_pairs, live_flags, AreInContact, IsBefore}
use Rattle.pbd_world.proofs.GreedyLemmas.{some_below-decides}
use Rattle.pbd_world.proofs.RisingLemmas.{Rising, rising_join, rising_filter, rising_pairs}
use Rattle.pbd_world.proofs.KeepingOn.{all-append, all-range, all-map, length-mapped}

-- ---- members of lists

first_or_rest : {A : Type 0} (y : A) (xs : List A) (x : A) → Contains (y ∷ xs) x → (y ≡ x) ⊎ Contains xs x
first_or_rest y xs x (zero, l, e) = inl e
first_or_rest y xs x (suc k, l, e) = inr (k, omega (arith, l), e)

first_in : {A : Type 0} (x : A) (xs : List A) → Contains (x ∷ xs) x
first_in x xs = (0, omega arith, refl)

rest_in : {A : Type 0} (y : A) (xs : List A) (x : A) → Contains xs x → Contains (y ∷ xs) x
rest_in y xs x (k, l, e) = (suc k, omega (arith, l), e)

kept_by : {A : Type 0} (b : Bool) (y : A) (ys : List A) (x : A) → Contains (cond b (y ∷ ys) ys) x → ((b ≡ true) × (y ≡ x)) ⊎ Contains ys x
kept_by true y ys x h = elim (first_or_rest y ys x h) [ inl e ↦ inl (refl, e) | inr r ↦ inr r ]
kept_by false y ys x h = inr h

from_filter : {A : Type 0} (test : A → Bool) (xs : List A) (x : A) → Contains (filter test xs) x → Contains xs x × (test x ≡ true)
from_filter test [] x (k, l, e) = absurd (omega (arith, l))
from_filter test (y ∷ ys) x h = elim (kept_by (test y) y (filter test ys) x h) [
  | inl here ↦ ((0, omega arith, here.1), ap test (sym here.1) ∙ here.0)
  | inr later ↦ (let r = from_filter test ys x later in (rest_in y ys x r.0, r.1))
]

keep_first : {A : Type 0} (b : Bool) (x : A) (ys : List A) → b ≡ true → Contains (cond b (x ∷ ys) ys) x
keep_first true x ys e = first_in x ys
keep_first false x ys e = absurd (false≢true e)

keep_rest : {A : Type 0} (b : Bool) (y : A) (ys : List A) (x : A) → Contains ys x → Contains (cond b (y ∷ ys) ys) x
keep_rest true y ys x h = rest_in y ys x h
keep_rest false y ys x h = h

to_filter : {A : Type 0} (test : A → Bool) (xs : List A) (x : A) → Contains xs x → test x ≡ true → Contains (filter test xs) x
to_filter test [] x (k, l, e) t = absurd (omega (arith, l))
to_filter test (y ∷ ys) x h t = elim (first_or_rest y ys x h) [
  | inl e ↦ (let P : _ → Type 0 = λ z. Contains (cond (test y) (y ∷ filter test ys) (filter test ys)) z in
      subst P e (keep_first (test y) y (filter test ys) (ap test e ∙ t)))
  | inr later ↦ keep_rest (test y) y (filter test ys) x (to_filter test ys x later t)
]

to_range : (a n k : ℕ) → a ≤ k → k < a + n → Contains (range_with_len a n) k
to_range a zero k l u = absurd (omega (arith, l, u))
to_range a (suc n) k l u = elim (cases_eq a k) [
  | inl e ↦ (0, omega arith, e)
  | inr d ↦ rest_in a (range_with_len (a + 1) n) k (to_range (a + 1) n k (omega (arith, l, d)) (omega (arith, u)))
]

to_map : {A B : Type 0} (f : A → B) (xs : List A) (x : A) → Contains xs x → Contains (map f xs) (f x)
to_map f [] x (k, l, e) = absurd (omega (arith, l))
to_map f (y ∷ ys) x h = elim (first_or_rest y ys x h) [
  | inl e ↦ (0, omega arith, ap f e)
  | inr later ↦ rest_in (f y) (map f ys) (f x) (to_map f ys x later)
]

to_flat : {A B : Type 0} (f : A → List B) (xs : List A) (x : A) (y : B) → Contains xs x → Contains (f x) y → Contains (flat_map f xs) y
to_flat f [] x y (k, l, e) h = absurd (omega (arith, l))
to_flat f (z ∷ zs) x y h k = elim (first_or_rest z zs x h) [
  | inl e ↦ Contains-append_left (f z) (flat_map f zs) y (let P : _ → Type 0 = λ v. Contains (f v) y in subst P (sym e) k)
  | inr later ↦ Contains-append_right (f z) (flat_map f zs) y (to_flat f zs x y later k)
]

all_in : {A : Type 0} (Q : A → Type 0) (xs : List A) (x : A) → AllByRecursion Q xs → Contains xs x → Q x
all_in Q [] x h (k, l, e) = absurd (omega (arith, l))
all_in Q (y ∷ ys) x h k = elim (first_or_rest y ys x k) [ inl e ↦ subst Q e h.0 | inr later ↦ all_in Q ys x h.1 later ]

-- ---- all pairs

abbrev pub IsPair : ℕ → ℕ × ℕ → Type 0
IsPair n p = (p.0 < p.1) × (p.1 < n)

pub row_pairs : (n i : ℕ) → AllByRecursion (IsPair n) (row n i)
row_pairs n i = all-map (IsPair n) (λ j. (i, j)) (range_with_len (i + 1) (n - (i + 1)))
    (all-range (λ j. IsPair n (i, j)) (i + 1) (n - (i + 1)) (λ j l u. (omega (arith, l), omega (arith, l, u))))

pairs_from : (n a m : ℕ) → AllByRecursion (IsPair n) (flat_map (row n) (range_with_len a m))
pairs_from n a zero = tt
pairs_from n a (suc m) = all-append (IsPair n) (row n a) (flat_map (row n) (range_with_len (a + 1) m)) (row_pairs n a)
    (pairs_from n (a + 1) m)

all_there : (n i j : ℕ) → i < j → j < n → Contains (all_pairs n) (i, j)
all_there n i j h k =
    to_flat (row n) (range_with_len 0 n) i (i, j) (to_range 0 n i (omega arith) (omega (arith, h, k)))
    (to_map (λ x. (i, x)) (range_with_len (i + 1) (n - (i + 1))) j
    (to_range (i + 1) (n - (i + 1)) j (omega (arith, h)) (omega (arith, h, k))))

-- ---- their order

row_rises : (i a m : ℕ) → Rising IsBefore (map (λ j. (i, j)) (range_with_len a m))
row_rises i a zero = tt
row_rises i a (suc m) = (
  all-map (IsBefore (i, a)) (λ j. (i, j)) (range_with_len (a + 1) m)
      (all-range (λ j. IsBefore (i, a) (i, j)) (a + 1) m (λ j l u. inr (refl, omega (arith, l)))),
  row_rises i (a + 1) m,
)

-- rows from a on begin with numbers from a on
rows_from : (n a m : ℕ) → AllByRecursion (λ (p : ℕ × ℕ). a ≤ p.0) (flat_map (row n) (range_with_len a m))
rows_from n a zero = tt
rows_from n a (suc m) =
    all-append (λ (p : ℕ × ℕ). a ≤ p.0) (row n a) (flat_map (row n) (range_with_len (a + 1) m))
    (all-map (λ (p : ℕ × ℕ). a ≤ p.0) (λ j. (a, j)) (range_with_len (a + 1) (n - (a + 1)))
    (all-range (λ j. a ≤ a) (a + 1) (n - (a + 1)) (λ j l u. omega arith)))
    (weaker (flat_map (row n) (range_with_len (a + 1) m)) (rows_from n (a + 1) m))
  where
    weaker : (ps : List (ℕ × ℕ)) → AllByRecursion (λ (p : ℕ × ℕ). a + 1 ≤ p.0) ps → AllByRecursion (λ (p : ℕ × ℕ). a ≤ p.0) ps
    weaker [] h = tt
    weaker (p ∷ ps) h = (omega (arith, h.0), weaker ps h.1)

before_rows : (i j : ℕ) (ps : List (ℕ × ℕ)) → AllByRecursion (λ (p : ℕ × ℕ). i + 1 ≤ p.0) ps → AllByRecursion (IsBefore (i, j)) ps
before_rows i j [] h = tt
before_rows i j (p ∷ ps) h = (inl (omega (arith, h.0)), before_rows i j ps h.1)

rows_rise : (n a m : ℕ) → Rising IsBefore (flat_map (row n) (range_with_len a m))
rows_rise n a zero = tt
rows_rise n a (suc m) =
    let later = flat_map (row n) (range_with_len (a + 1) m) in
    rising_join IsBefore (row n a) later (row_rises a (a + 1) (n - (a + 1))) (rows_rise n (a + 1) m)
    (all-map (λ x. AllByRecursion (IsBefore x) later) (λ j. (a, j)) (range_with_len (a + 1) (n - (a + 1)))
    (all-range (λ j. AllByRecursion (IsBefore (a, j)) later) (a + 1) (n - (a + 1))
    (λ j l u. before_rows a j later (rows_from n (a + 1) m))))

pub contacts-in_order : (thickness : ℤ) (links : List Link) (ps : List Particle) → AllPairs IsBefore (contacts_of thickness links ps)
unfolding contacts_of
contacts-in_order thickness links ps = rising_pairs IsBefore _
    (rising_filter IsBefore (is_contact thickness links ps) (all_pairs (length ps)) (rows_rise (length ps) 0 (length ps)))

-- ---- the links

read_map : {A B : Type 0} (f : A → B) (xs : List A) (k : ℕ) (d : A) (e : B) → k < length xs → get_or (map f xs) k e ≡ f (get_or xs k d)
read_map f [] k d e h = absurd (omega (arith, h))
read_map f (x ∷ xs) zero d e h = refl
read_map f (x ∷ xs) (suc k) d e h = read_map f xs k d e (omega (arith, h))

-- the test of link k, as pairs and flags tell it
link_test : (links : List Link) (i j k : ℕ) (d : Link) → k < length links
    → (live_at (live_flags links) k && joins (pair_at (link_pairs links) k) i j)
    ≡ ((get_or links k d).live && joins ((get_or links k d).a, (get_or links k d).b) i j)
link_test links i j k d h =
    ap (λ b. b && joins (pair_at (link_pairs links) k) i j) (read_map {A = Link} {B = Bool} (λ l. l.live) links k d false h)
    ∙ ap (λ p. (get_or links k d).live && joins p i j) (read_map {A = Link} {B = ℕ × ℕ} (λ l. (l.a, l.b)) links k d (0, 0) h)

not_joined : (links : List Link) (i j : ℕ) → joined (link_pairs links) (live_flags links) i j ≡ false
    → All {X = Link} (λ l. ¬ (IsTrue l.live × IsTrue (joins (l.a, l.b) i j))) links
not_joined links i j h k d l both =
    false≢true (sym h ∙ (some_below-decides (λ m. live_at (live_flags links) m && joins (pair_at (link_pairs links) m) i j)
    (length (link_pairs links))).1 (
      k,
      omega (arith, l, length-mapped {A = Link} {B = ℕ × ℕ} (λ m. (m.a, m.b)) links),
      link_test links i j k d l
          ∙ and_from _ _ both.0 both.1,
    ))

is_not_joined : (links : List Link) (i j : ℕ) → All {X = Link} (λ l. ¬ (IsTrue l.live × IsTrue (joins (l.a, l.b) i j))) links
    → joined (link_pairs links) (live_flags links) i j ≡ false
is_not_joined links i j h = elim (cases_Bool (joined (link_pairs links) (live_flags links) i j)) [
  | inl t ↦
      let w = (some_below-decides (λ m. live_at (live_flags links) m && joins (pair_at (link_pairs links) m) i j)
      (length (link_pairs links))).0 t in
      let l : w.0 < length links = omega (arith, w.1, length-mapped {A = Link} {B = ℕ × ℕ} (λ m. (m.a, m.b)) links) in
      let both = and_parts _ _ (sym (link_test links i j w.0 no_link l) ∙ w.2) in
      absurd (h w.0 no_link l both)
  | inr f ↦ f
]

-- ---- the test of a pair

not_both : (a b : Bool) → not (a && b) ≡ true → ¬ (IsTrue a × IsTrue b)
not_both true b h both = false≢true (ap not (sym both.1) ∙ h)
not_both false b h both = false≢true both.0

is_not_both : (a b : Bool) → ¬ (IsTrue a × IsTrue b) → not (a && b) ≡ true
is_not_both true true h = absurd (h (refl, refl))
is_not_both true false h = refl
is_not_both false b h = refl

pub contacts-only : (thickness : ℤ) (links : List Link) (ps : List Particle) (i j : ℕ) → Contains (contacts_of thickness links ps) (i, j)
    → AreInContact thickness links ps i j
unfolding contacts_of
contacts-only thickness links ps i j h =
    let found = from_filter (is_contact thickness links ps) (all_pairs (length ps)) (i, j) h in
    let pair = all_in (IsPair (length ps)) (all_pairs (length ps)) (i, j) (pairs_from (length ps) 0 (length ps)) found.0 in
    let p = particle_at ps i in
    let q = particle_at ps j in
    let outer = and_parts (are_near thickness p q && not (p.held && q.held))
    (not (joined (link_pairs links) (live_flags links) i j)) found.1 in
    let inner = and_parts (are_near thickness p q) (not (p.held && q.held)) outer.0 in
    record {
      ordered = pair.0;
      within = pair.1;
      near = ltb-true _ _ inner.0;
      free = not_both p.held q.held inner.1;
      unlinked = not_joined links i j (not-true _ outer.1);
    }

pub contacts-all : (thickness : ℤ) (links : List Link) (ps : List Particle) (i j : ℕ) → AreInContact thickness links ps i j
    → Contains (contacts_of thickness links ps) (i, j)
unfolding contacts_of
contacts-all thickness links ps i j h =
    let p = particle_at ps i in
    let q = particle_at ps j in
    to_filter (is_contact thickness links ps) (all_pairs (length ps)) (i, j) (all_there (length ps) i j h.ordered h.within)
    (and_from (are_near thickness p q && not (p.held && q.held)) (not (joined (link_pairs links) (live_flags links) i j))
    (and_from (are_near thickness p q) (not (p.held && q.held)) (lt-ltb _ _ h.near) (is_not_both p.held q.held h.free))
    (ap not (is_not_joined links i j h.unlinked)))
