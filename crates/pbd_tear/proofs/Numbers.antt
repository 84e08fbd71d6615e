-- Torn numbers one by one, and valid links.
use Rattle.std.proofs.Common.{◌≡◌, refl, sym, ap, ◌∙◌, ℕ, zero, suc, ◌+◌, ◌-◌, ◌*◌, ◌<◌, ◌≤◌, ◌^◌, ◌==◌, nat_lt, not, ◌&&◌, Bool, true}
use Rattle.std.proofs.Common.{false, cond, List, [], ◌∷◌, ◌++◌, length, filter, get_or, take, arith, ℤ, pos, ◌≤ℤ◌, ◌*ℤ◌, int_lt}
use Rattle.std.proofs.Common.{unsigned_abs, IsTrue, inl, inr, append_assoc}
use Rattle.std.specs.List.{list_any, range_with_len, AllByRecursion}
use Rattle.std.specs.List.Sorted.{IsStrictlyIncreasing}
use Rattle.std.proofs.lemmas.List.Kept.{IsStrictlyIncreasing-filter}
use Rattle.std.proofs.lemmas.List.FromFn.{length-range_with_len, get_or-range_with_len}
use Rattle.pbd_world.proofs.KeepingOn.{all-at}
use Rattle.std.proofs.lemmas.Int.{ints}
use Rattle.std.proofs.lemmas.Bool.{and_parts, ltb-true, cases_eq, eq-eqb, ne_eqb, false≢true}
use Rattle.std.proofs.lemmas.Bool.Decides.{nat_tests}
use Rattle.std.proofs.lemmas.List.{get_or-map, append-nil, length-append}
use Rattle.std.proofs.lemmas.List.Elements.{filter_more}
use Rattle.std.proofs.lemmas.List.Filters.{length-filter_both, length-filter_more}
use Rattle.std.proofs.lemmas.List.Sums.{AllPass-from_list_all}
use Rattle.pbd_num.specs.Vectors.{minus, squared_length}
use Rattle.pbd_world.specs.declared.parts.Particle.{Particle}
use Rattle.pbd_world.specs.declared.parts.Link.{Link}
use Rattle.pbd_world.specs.Room.{Roomed}
use Rattle.pbd_world.specs.Particles.{particle_at}
use Rattle.pbd_world.specs.Bonds.{link_at}
use Rattle.pbd_world.specs.Step.{is_torn, tear}
use Rattle.pbd_world.specs.Work.{tearable_count}
use Rattle.pbd_world.proofs.OrderCounts.{kept_more}
use Rattle.pbd_world.specs.Valid.{is_limit, is_between, is_valid_link, are_valid_links}
use Rattle.pbd_store.proofs.Listing.{any_default}
use Rattle.pbd_tear.specs.Tearing.{IsLink, AscendTo, torn_numbers, numbers_with_tear_length, gone_numbers}
use Rattle.pbd_world.proofs.WholeLemmas.{limit_low, limit_high}
use Rattle.pbd_world.proofs.Ranges.{range_increases}

-- ---- limits and links

tear_size : (limit t : ℤ) → pos 0 ≤ℤ limit → unsigned_abs limit ≤ 2 ^ 29 → IsTrue (is_between (pos 0) (pos 4 *ℤ limit) t)
    → unsigned_abs t ≤ 2 ^ 31
tear_size limit t low high h = grind (arith, ints, nat_tests)

pub is_link : (limit : ℤ) (n : ℕ) (l : Link) → IsTrue (is_limit limit) → IsTrue (is_valid_link limit n l) → IsLink n l
is_link limit n l h valid =
    let p5 = and_parts _ _ valid in
    let p4 = and_parts _ _ p5.0 in
    let p3 = and_parts _ _ p4.0 in
    let p2 = and_parts _ _ p3.0 in
    let p1 = and_parts _ _ p2.0 in
    record { a = ltb-true l.a n p1.0; b = ltb-true l.b n p1.1; tear = tear_size limit l.tear (limit_low limit h) (limit_high limit h) p4.1 }

pub ends_in : (limit : ℤ) (n : ℕ) (l : Link) → IsTrue (is_valid_link limit n l) → record { first : l.a < n; second : l.b < n }
ends_in limit n l valid =
    let ends = and_parts _ _ (and_parts _ _ (and_parts _ _ (and_parts _ _ (and_parts _ _ valid).0).0).0).0 in
    record { first = ltb-true l.a n ends.0; second = ltb-true l.b n ends.1 }

pub valid_at : (limit : ℤ) (n : ℕ) (links : List Link) (i : ℕ) (d : Link) → IsTrue (are_valid_links limit n links) → i < length links
    → IsTrue (is_valid_link limit n (get_or links i d))
valid_at limit n links i d valid lt =
    let few = and_parts _ _ (and_parts _ _ (and_parts _ _ valid).0).0 in
    AllPass-from_list_all (is_valid_link limit n) links few.1 i d lt

-- a link that may tear, by the particles at its ends
pub torn_by : (ps : List Particle) (l : Link) (a b : Particle) → (l.live && int_lt (pos 0) l.tear) ≡ true → a ≡ particle_at ps l.a
    → b ≡ particle_at ps l.b → nat_lt (unsigned_abs l.tear * unsigned_abs l.tear) (squared_length (minus a.at b.at)) ≡ is_torn ps l
torn_by ps l a b may ea eb =
    let square = unsigned_abs l.tear * unsigned_abs l.tear in
    ap (λ (p : Particle). nat_lt square (squared_length (minus p.at b.at))) ea
    ∙ ap (λ (p : Particle). nat_lt square (squared_length (minus (particle_at ps l.a).at p.at))) eb
    ∙ sym (ap (λ (t : Bool). t && nat_lt square (squared_length (minus (particle_at ps l.a).at (particle_at ps l.b).at))) may)

-- a link that may not tear
pub never_torn : (ps : List Particle) (l : Link) → (l.live && int_lt (pos 0) l.tear) ≡ false → false ≡ is_torn ps l
never_torn ps l may = sym (ap (λ (t : Bool). t && nat_lt (unsigned_abs l.tear * unsigned_abs l.tear)
    (squared_length (minus (particle_at ps l.a).at (particle_at ps l.b).at))) may)

-- ---- numbers that pass a test, one by one

-- the numbers so far, and those that pass among what is left, are all that pass
pub record Passing (test : ℕ → Bool) (n i : ℕ) (so_far : List ℕ) : Type 0 where
  pub whole : so_far ++ filter test (range_with_len i (n - i)) ≡ filter test (range_with_len 0 n)

passing_none : (test : ℕ → Bool) (n : ℕ) → Passing test n 0 []
passing_none test n = record { whole = (let all : n - 0 ≡ n = omega arith in rw all refl) }

passing_more : (test : ℕ → Bool) (n i : ℕ) (so_far : List ℕ) (wanted : Bool) → i < n → wanted ≡ test i → Passing test n i so_far
    → Passing test n (i + 1) (cond wanted (so_far ++ i ∷ []) so_far)
passing_more test n i so_far wanted lt e h = record { whole = rw e (passing_if (test i) refl) ∙ h.whole }
  where
    passing_if : (b : Bool) → test i ≡ b → cond b (so_far ++ i ∷ []) so_far ++ filter test (range_with_len (i + 1) (n - (i + 1))) ≡ so_far
        ++ filter test (range_with_len i (n - i))
    passing_if true e = let left : n - i ≡ suc (n - (i + 1)) = omega (arith, lt) in
        rw (left, e) (append_assoc so_far (i ∷ []) (filter test (range_with_len (i + 1) (n - (i + 1)))))
    passing_if false e = let left : n - i ≡ suc (n - (i + 1)) = omega (arith, lt) in rw (left, e) refl

pub few_more : (wanted : Bool) (n i : ℕ) (so_far : List ℕ) → length so_far ≤ i → length (cond wanted (so_far ++ n ∷ []) so_far) ≤ i + 1
few_more true n i so_far h = omega (arith, length-append so_far (n ∷ []), h)
few_more false n i so_far h = omega (arith, h)

passing_all : (test : ℕ → Bool) (n i : ℕ) (so_far : List ℕ) → n ≤ i → Passing test n i so_far → so_far ≡ filter test (range_with_len 0 n)
passing_all test n i so_far le h =
    let none : n - i ≡ 0 = omega (arith, le) in
    sym (append-nil so_far) ∙ ap (λ (k : ℕ). so_far ++ filter test (range_with_len i k)) (sym none) ∙ h.whole

all_below : (test : ℕ → Bool) (a n m : ℕ) → a + n ≤ m → AllByRecursion (λ i. i < m) (filter test (range_with_len a n))
all_below test a zero m le = tt
all_below test a (suc n) m le = below_if (test a) (all_below test (a + 1) n m (omega (arith, le)))
  where
    below_if : (b : Bool) → AllByRecursion (λ i. i < m) (filter test (range_with_len (a + 1) n))
        → AllByRecursion (λ i. i < m) (cond b (a ∷ filter test (range_with_len (a + 1) n)) (filter test (range_with_len (a + 1) n)))
    below_if true rest = (omega (arith, le), rest)
    below_if false rest = rest

pub ascends : (test : ℕ → Bool) (n : ℕ) → AscendTo n (filter test (range_with_len 0 n))
ascends test n = record {
  rising = IsStrictlyIncreasing-filter test (range_with_len 0 n) (range_increases n);
  within = λ k l. all-at (λ i. i < n) (filter test (range_with_len 0 n)) k 0 l (all_below test 0 n n (omega arith));
}

pub torn_ascend : (ps : List Particle) (links : List Link) → AscendTo (length links) (torn_numbers ps links)
unfolding torn_numbers
torn_ascend ps links = ascends (λ i. is_torn ps (link_at links i)) (length links)

pub gone_ascend : (links : List Link) → AscendTo (length links) (gone_numbers links)
unfolding gone_numbers
gone_ascend links = ascends (λ i. not (link_at links i).live) (length links)

-- the numbers below i of links that pass a test
pub record Passed (test : Link → Bool) (links : List Link) (i : ℕ) (so_far : List ℕ) : Type 0 where
  pub passing : Passing (λ n. test (link_at links n)) (length links) i so_far

pub passed_none : (test : Link → Bool) (links : List Link) → Passed test links 0 []
passed_none test links = record { passing = passing_none (λ n. test (link_at links n)) (length links) }

pub passed_more : (test : Link → Bool) (links : List Link) (i : ℕ) (so_far : List ℕ) (wanted : Bool) (d : Link) → i < length links
    → wanted ≡ test (get_or links i d) → Passed test links i so_far → Passed test links (i + 1) (cond wanted (so_far ++ i ∷ []) so_far)
passed_more test links i so_far wanted d lt e h = record {
  passing = passing_more (λ n. test (link_at links n)) (length links) i so_far wanted lt (e ∙ ap test (any_default links i d _ lt)) h.passing;
}

-- they are in a list, which keeps its room
abbrev pub Listed : (Link → Bool) → List Link → ℕ → ℕ → Roomed ℕ → Type 0
Listed test links i room out = record {
  so_far : Passed test links i out.entries;
  few : length out.entries ≤ i;
  room : out.room ≡ room;
}

pub listed_more : (test : Link → Bool) (links : List Link) (i room : ℕ) (wanted : Bool) (d : Link) (out next : Roomed ℕ) → i < length links
    → wanted ≡ test (get_or links i d) → next ≡ record out { entries = cond wanted (out.entries ++ i ∷ []) out.entries }
    → Listed test links i room out → Listed test links (i + 1) room next
listed_more test links i room wanted d out next lt e is h = rw is (record {
  so_far = passed_more test links i out.entries wanted d lt e h.so_far;
  few = few_more wanted i i out.entries h.few;
  room = h.room;
})

-- ---- links that are live no longer, and links with a tear length

abbrev pub is_gone : Link → Bool
is_gone l = not l.live

abbrev pub has_tear_length : Link → Bool
has_tear_length l = int_lt (pos 0) l.tear

pub gone_all : (links : List Link) (i : ℕ) (so_far : List ℕ) → length links ≤ i → Passed is_gone links i so_far
    → so_far ≡ gone_numbers links
unfolding gone_numbers
gone_all links i so_far le h = passing_all (λ n. is_gone (link_at links n)) (length links) i so_far le h.passing

pub with_tear_length_all : (links : List Link) (i : ℕ) (so_far : List ℕ) → length links ≤ i → Passed has_tear_length links i so_far
    → so_far ≡ numbers_with_tear_length links
unfolding numbers_with_tear_length
with_tear_length_all links i so_far le h = passing_all (λ n. has_tear_length (link_at links n)) (length links) i so_far le h.passing

pub with_tear_length_ascend : (links : List Link) → AscendTo (length links) (numbers_with_tear_length links)
unfolding numbers_with_tear_length
with_tear_length_ascend links = ascends (λ n. has_tear_length (link_at links n)) (length links)

pub with_tear_length_few : (links : List Link) → length (numbers_with_tear_length links) ≤ length links
unfolding numbers_with_tear_length
with_tear_length_few links =
    let test : ℕ → Bool = λ n. has_tear_length (link_at links n) in
    let numbers = range_with_len 0 (length links) in
    omega (arith, length-filter_both test (λ n. not (test n)) (λ n. refl) numbers, length-range_with_len 0 (length links))

-- ---- torn links among those with a tear length

-- what passes a test among those that pass a wider one
filter_wider : (test wider : ℕ → Bool) → ((n : ℕ) → test n ≡ true → wider n ≡ true) → (ns : List ℕ)
    → filter test (filter wider ns) ≡ filter test ns
filter_wider test wider h [] = refl
filter_wider test wider h (n ∷ ns) = wider_if (wider n) (test n) refl (h n) (filter_wider test wider h ns)
  where
    wider_if : (w t : Bool) → test n ≡ t → (t ≡ true → w ≡ true) → filter test (filter wider ns) ≡ filter test ns
        → filter test (cond w (n ∷ filter wider ns) (filter wider ns)) ≡ cond t (n ∷ filter test ns) (filter test ns)
    wider_if true t e h same = ap (λ (b : Bool). cond b (n ∷ filter test (filter wider ns)) (filter test (filter wider ns))) e
        ∙ ap (λ (ms : List ℕ). cond t (n ∷ ms) ms) same
    wider_if false true e h same = absurd (false≢true (h refl))
    wider_if false false e h same = same

-- the numbers among some of the links that tear
unfoldable pub torn_among : List Particle → List Link → List ℕ → List ℕ
torn_among ps links numbers = filter (λ n. is_torn ps (link_at links n)) numbers

-- how many links of some numbers may tear
unfoldable pub tearable_among : List Link → List ℕ → ℕ
tearable_among links numbers = length (filter (λ n. (link_at links n).live && int_lt (pos 0) (link_at links n).tear) numbers)

pub torn_among_none : (ps : List Particle) (links : List Link) → torn_among ps links [] ≡ []
unfolding torn_among
torn_among_none ps links = refl

pub torn_among_more : (ps : List Particle) (links : List Link) (numbers : List ℕ) (i : ℕ) (wanted : Bool) (d : Link) → i < length numbers
    → get_or numbers i 0 < length links → wanted ≡ is_torn ps (get_or links (get_or numbers i 0) d)
    → cond wanted (torn_among ps links (take i numbers) ++ get_or numbers i 0 ∷ []) (torn_among ps links (take i numbers))
    ≡ torn_among ps links (take (i + 1) numbers)
unfolding torn_among
torn_among_more ps links numbers i wanted d lt known e =
    let n = get_or numbers i 0 in
    let torn = e ∙ ap (λ (l : Link). is_torn ps l) (any_default links n d _ known) in
    append_if wanted (filter (λ m. is_torn ps (link_at links m)) (take i numbers))
    ∙ ap (λ (b : Bool). filter (λ m. is_torn ps (link_at links m)) (take i numbers) ++ cond b (n ∷ []) []) torn
    ∙ sym (filter_more (λ m. is_torn ps (link_at links m)) numbers i 0 lt)
  where
    append_if : (b : Bool) (so_far : List ℕ) → cond b (so_far ++ get_or numbers i 0 ∷ []) so_far ≡ so_far ++ cond b (get_or numbers i 0 ∷ []) []
    append_if true so_far = refl
    append_if false so_far = sym (append-nil so_far)

-- those of all numbers with a tear length are all that tear
pub torn_among_all : (ps : List Particle) (links : List Link) → torn_among ps links (numbers_with_tear_length links) ≡ torn_numbers ps links
unfolding torn_among torn_numbers numbers_with_tear_length
torn_among_all ps links = filter_wider (λ n. is_torn ps (link_at links n)) (λ n. has_tear_length (link_at links n))
    (λ n h. (and_parts _ _ (and_parts _ _ h).0).1) (range_with_len 0 (length links))

tearable_among_more : (links : List Link) (numbers : List ℕ) (i : ℕ) (d : Link) → i < length numbers
    → get_or numbers i 0 < length links
    → 2 * tearable_among links (take (i + 1) numbers) ≡ 2 * tearable_among links (take i numbers)
    + cond ((get_or links (get_or numbers i 0) d).live && int_lt (pos 0) (get_or links (get_or numbers i 0) d).tear) 2 0
unfolding tearable_among
tearable_among_more links numbers i d lt known =
    let may : Link → Bool = λ l. l.live && int_lt (pos 0) l.tear in
    let n = get_or numbers i 0 in
    let one = length-filter_more (λ m. may (link_at links m)) numbers i 0 lt
    ∙ ap (λ (l : Link). length (filter (λ m. may (link_at links m)) (take i numbers)) + cond (may l) 1 0) (any_default links n _ d known) in
    omega (arith, one, twice (may (get_or links n d)))
  where
    twice : (b : Bool) → 2 * cond {A = ℕ} b 1 0 ≡ cond b 2 0
    twice true = refl
    twice false = refl

pub cost_more : (begun old new : ℕ) (links : List Link) (numbers : List ℕ) (i : ℕ) (d : Link) → i < length numbers
    → get_or numbers i 0 < length links
    → new ≤ old + cond ((get_or links (get_or numbers i 0) d).live && int_lt (pos 0) (get_or links (get_or numbers i 0) d).tear) 2 0
    → old ≤ begun + 2 * tearable_among links (take i numbers) → new ≤ begun + 2 * tearable_among links (take (i + 1) numbers)
cost_more begun old new links numbers i d lt known cost so_far =
    omega (arith, tearable_among_more links numbers i d lt known, cost, so_far)

-- as many numbers as links pass a test
as_many_pass : (ok : ℕ → Bool) (test : Link → Bool) (a : ℕ) (links : List Link)
    → ((k : ℕ) → k < length links → ok (a + k) ≡ test (link_at links k))
    → length (filter ok (range_with_len a (length links))) ≡ length (filter test links)
as_many_pass ok test a [] h = refl
as_many_pass ok test a (l ∷ links) h =
    let first : ok a ≡ test l = (let e : a + 0 ≡ a = omega arith in sym (ap ok e) ∙ h 0 (omega arith)) in
    let rest = as_many_pass ok test (a + 1) links
    (λ k lt. (let e : a + 1 + k ≡ a + suc k = omega arith in ap ok e ∙ h (suc k) (omega (arith, lt)))) in
    omega (
      arith,
      kept_more ok a (range_with_len (a + 1) (length links)),
      ap (λ (b : Bool). cond {A = ℕ} b 1 0) first,
      rest,
      kept_more {A = Link} test l links,
    )

pub tearable_among_all : (links : List Link) → tearable_among links (numbers_with_tear_length links) ≡ tearable_count links
unfolding tearable_among numbers_with_tear_length
tearable_among_all links =
    let may : Link → Bool = λ l. l.live && int_lt (pos 0) l.tear in
    ap length (filter_wider (λ n. may (link_at links n)) (λ n. has_tear_length (link_at links n)) (λ n h. (and_parts _ _ h).1)
    (range_with_len 0 (length links)))
    ∙ as_many_pass (λ n. may (link_at links n)) may 0 links (λ k lt. (let e : 0 + k ≡ k = omega arith in ap (λ n. may (link_at links n)) e))

-- ---- what torn numbers mean

below_start : (test : ℕ → Bool) (a n i : ℕ) → i < a → list_any (λ m. m == i) (filter test (range_with_len a n)) ≡ false
below_start test a zero i lt = refl
below_start test a (suc n) i lt = none_below_if (below_start test (a + 1) n i (omega (arith, lt))) (test a)
  where
    none_below_if : list_any (λ m. m == i) (filter test (range_with_len (a + 1) n)) ≡ false → (b : Bool)
        → list_any (λ m. m == i) (cond b (a ∷ filter test (range_with_len (a + 1) n)) (filter test (range_with_len (a + 1) n))) ≡ false
    none_below_if rest true = rw (ne_eqb a i (λ e. omega (arith, e, lt))) rest
    none_below_if rest false = rest

here : (test : ℕ → Bool) (a i : ℕ) (rest : List ℕ) → a ≡ i → list_any (λ m. m == i) rest ≡ false → (b : Bool) → test a ≡ b
    → list_any (λ m. m == i) (cond b (a ∷ rest) rest) ≡ test i
here test a i rest e none true t = rw (eq-eqb a i e) (sym t ∙ ap test e)
here test a i rest e none false t = none ∙ sym t ∙ ap test e

later : (test : ℕ → Bool) (a i : ℕ) (rest : List ℕ) → (a ≡ i → ⊥) → list_any (λ m. m == i) rest ≡ test i → (b : Bool)
    → list_any (λ m. m == i) (cond b (a ∷ rest) rest) ≡ test i
later test a i rest n among true = rw (ne_eqb a i n) among
later test a i rest n among false = among

among : (test : ℕ → Bool) (a n i : ℕ) → a ≤ i → i < a + n → list_any (λ m. m == i) (filter test (range_with_len a n)) ≡ test i
among test a zero i le lt = absurd (omega (arith, le, lt))
among test a (suc n) i le lt = elim (cases_eq a i) [
  | inl e ↦ here test a i (filter test (range_with_len (a + 1) n)) e (below_start test (a + 1) n i (omega (arith, e))) (test a) refl
  | inr ne ↦ later test a i (filter test (range_with_len (a + 1) n)) ne (among test (a + 1) n i (omega (arith, le, ne)) (omega (arith, lt)))
      (test a)
]

pub numbers_go : (ps : List Particle) (links : List Link) (i : ℕ) → i < length links
    → (link_at (tear ps links) i).live ≡ ((link_at links i).live && not (list_any (λ n. n == i) (torn_numbers ps links)))
unfolding tear torn_numbers
numbers_go ps links i lt =
    let after : Link → Link = λ l. record l { live = l.live && not (is_torn ps l) } in
    ap (λ (l : Link). l.live) (get_or-map after links i _ _ lt)
    ∙ ap (λ (b : Bool). (link_at links i).live && not b) (sym
    (among (λ n. is_torn ps (link_at links n)) 0 (length links) i (omega arith) (omega (arith, lt))))

-- a list with a room, by its two parts
pub list_is : (o p : Roomed ℕ) (xs : List ℕ) → o.entries ≡ xs → o.room ≡ p.room → o ≡ record p { entries = xs }
list_is o p xs e r = λ i. record { entries = e i; room = r i }

-- ---- links that are live no longer

pub numbers_gone : (links : List Link) (i : ℕ) → i < length links → list_any (λ n. n == i) (gone_numbers links) ≡ not (link_at links i).live
unfolding gone_numbers
numbers_gone links i lt = among (λ n. not (link_at links n).live) 0 (length links) i (omega arith) (omega (arith, lt))
