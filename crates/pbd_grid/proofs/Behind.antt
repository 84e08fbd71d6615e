-- Lists of near pairs by cells.
use Rattle.std.proofs.Common.{◌≡◌, ◌≢◌, ℕ, zero, suc, ◌+◌, ◌*◌, ◌<◌, ◌≤◌, ◌&&◌, Bool, true, false, not, cond, eqb, ltb, pos, ◌-ℤ◌}
use Rattle.std.proofs.Common.{unsigned_abs, List, [], ◌∷◌, ◌++◌, length, map, take, set, refl, sym, ap, ◌∙◌, subst, arith, inl, inr, ◌⊎◌}
use Rattle.std.proofs.lemmas.Bool.{cases_eq, eq-eqb, ne_eqb}
use Rattle.std.proofs.lemmas.Bool.Decides.{nat_tests}
use Rattle.std.proofs.lemmas.List.{get_or-set_same, get_or-set_other, length-set, map_more, length-map, length-take-le, take_all}
use Rattle.std.specs.List.{filter}
use Rattle.pbd_chain.specs.Linked.{Linked, is_in, is_linked, chain_at}
use Rattle.pbd_chain.proofs.Walks.{not_linked}
use Rattle.pbd_num.specs.declared.Vec3.{Vec3}
use Rattle.pbd_num.specs.Vectors.{zero_vector, minus, squared_length}
use Rattle.pbd_grid.specs.Near.{AllInside, is_near}
use Rattle.pbd_world.specs.Room.{Roomed}
use Rattle.pbd_grid.specs.declared.lookup.GridCell.{GridCell}
use Rattle.pbd_grid.specs.Blocks.{AreLaid, IsFalling, count, cube_of, cube_at, cell_at, slot_of}
use Rattle.pbd_grid.proofs.Cells.{count-filter}
use Rattle.pbd_grid.proofs.Counting.{AreBehind, AreBehind-none, AreBehind-more}
use Rattle.pbd_num.proofs.RoundingLemmas.{below_by_squares}

-- ---- the filling of the chains
count_none : (q : ℕ) (xs : List ℕ) → count q xs ≡ 0 → is_in q xs ≡ false
count_none q [] e = refl
count_none q (x ∷ xs) e = elim (cases_eq x q) [
  | inl s ↦ absurd (let e' = rw (eq-eqb x q s) at e in omega (arith, e'))
  | inr ne ↦ rw (ne_eqb x q ne) (count_none q xs (let e' = rw (ne_eqb x q ne) at e in omega (arith, e')))
]

count_linked : (xss : List (List ℕ)) (c y : ℕ) → c < length xss → (q p : ℕ)
    → count q (chain_at (set xss c (y ∷ chain_at xss c)) p) ≡ cond (eqb c p && eqb y q) 1 0 + count q (chain_at xss p)
count_linked xss c y l q p = elim (cases_eq c p) [
  | inl e ↦ rw (← e, get_or-set_same xss c (y ∷ chain_at xss c) [] l, eq-eqb c c refl) refl
  | inr ne ↦ rw (get_or-set_other xss c p (y ∷ chain_at xss c) [] (λ e. ne (sym e)), ne_eqb c p ne) (omega arith)
]

-- the particles before i are in their chains
pub record AreLinked (side : ℕ) (places : List Vec3) (n : ℕ) (old now : Linked) (i : ℕ) : Type 0 where
  pub items : now.items ≡ old.items
  pub count_of : length now.chains ≡ n
  pub once : (q : ℕ) → q < i → count q (chain_at now.chains (slot_of n (cell_at side places q))) ≡ 1
  pub none : (q c : ℕ) → i ≤ q → count q (chain_at now.chains c) ≡ 0
  pub falling : (c : ℕ) → IsFalling i (chain_at now.chains c)
  pub behind : AreBehind (λ q. slot_of n (cell_at side places q)) now.chains n i

falling_more : (i : ℕ) (xs : List ℕ) → IsFalling i xs → IsFalling (i + 1) xs
falling_more i [] h = tt
falling_more i (x ∷ xs) h = (omega (arith, h.0), h.1)

falling_linked : (i : ℕ) (xss : List (List ℕ)) (c : ℕ) → c < length xss → ((p : ℕ) → IsFalling i (chain_at xss p)) → (p : ℕ)
    → IsFalling (i + 1) (chain_at (set xss c (i ∷ chain_at xss c)) p)
falling_linked i xss c l h p = elim (cases_eq c p) [
  | inl e ↦ subst (IsFalling (i + 1)) (sym (ap (chain_at (set xss c (i ∷ chain_at xss c))) (sym e)
      ∙ get_or-set_same xss c (i ∷ chain_at xss c) [] l)) (omega arith, h c)
  | inr ne ↦ subst (IsFalling (i + 1)) (sym (get_or-set_other xss c p (i ∷ chain_at xss c) [] (λ e. ne (sym e))))
      (falling_more i (chain_at xss p) (h p))
]

abbrev empty_list : List ℕ
empty_list = []

empty_count : (xss : List (List ℕ)) (q c : ℕ) → count q (chain_at (map (λ _. []) xss) c) ≡ 0
empty_count [] q c = refl
empty_count (xs ∷ xss) q zero = refl
empty_count (xs ∷ xss) q (suc c) = empty_count xss q c

empty_falling : (xss : List (List ℕ)) (i c : ℕ) → IsFalling i (chain_at (map (λ _. []) xss) c)
empty_falling [] i c = tt
empty_falling (xs ∷ xss) i zero = tt
empty_falling (xs ∷ xss) i (suc c) = empty_falling xss i c

length-emptied : (xss : List (List ℕ)) → length (map (λ (xs : List ℕ). empty_list) xss) ≡ length xss
length-emptied [] = refl
length-emptied (xs ∷ xss) = ap suc (length-emptied xss)

pub AreLinked-none : (side : ℕ) (places : List Vec3) (n : ℕ) (old now : Linked) → length old.chains ≡ n
    → now ≡ record old { chains = map (λ _. []) old.chains } → AreLinked side places n old now 0
AreLinked-none side places n old now size e = rw e (record {
  items = refl;
  count_of = length-emptied old.chains ∙ size;
  once = λ q l. absurd (omega arith);
  none = λ q c l. empty_count old.chains q c;
  falling = empty_falling old.chains 0;
  behind = AreBehind-none (λ q. slot_of n (cell_at side places q)) old.chains n;
})

module _ {side : ℕ} {places : List Vec3} {n : ℕ} {old now : Linked} (i : ℕ) (h : AreLinked side places n old now i) where
  pub next_free : is_linked now.chains i ≡ false
  next_free = not_linked now.chains i (λ c l. count_none i (chain_at now.chains c) (h.none i c (omega arith)))

  pub AreLinked-more : (c : ℕ) (new : Linked) → c < n → c ≡ slot_of n (cell_at side places i)
      → new ≡ record now { chains = set now.chains c (i ∷ chain_at now.chains c) } → AreLinked side places n old new (i + 1)
  AreLinked-more c new lc is e =
      let more : (q p : ℕ) → count q (chain_at new.chains p) ≡ cond (eqb c p && eqb i q) 1 0 + count q (chain_at now.chains p) =
      λ q p. ap (λ (l : Linked). count q (chain_at l.chains p)) e ∙ count_linked now.chains c i (omega (arith, h.count_of, lc)) q p in
      record {
        items = ap (λ (l : Linked). l.items) e ∙ h.items;
        count_of = ap (λ (l : Linked). length l.chains) e ∙ length-set now.chains c (i ∷ chain_at now.chains c) ∙ h.count_of;
        once = λ q l. elim (cases_eq i q) [
          | inl s ↦ more q (slot_of n (cell_at side places q))
              ∙ rw (eq-eqb c (slot_of n (cell_at side places q)) (is ∙ ap (λ (k : ℕ). slot_of n (cell_at side places k)) s), eq-eqb i q s)
              (omega (arith, h.none q (slot_of n (cell_at side places q)) (omega (arith, s))))
          | inr ne ↦ more q (slot_of n (cell_at side places q))
              ∙ rw (ne_eqb i q ne) (skip (eqb c (slot_of n (cell_at side places q)))
              (count q (chain_at now.chains (slot_of n (cell_at side places q)))) ∙ h.once q (omega arith))
        ];
        none = λ q p l. more q p ∙ rw (ne_eqb i q (λ s. absurd (omega arith)))
            (skip (eqb c p) (count q (chain_at now.chains p)) ∙ h.none q p (omega arith));
        falling = λ p. subst (λ (l : Linked). IsFalling (i + 1) (chain_at l.chains p)) (sym e)
            (falling_linked i now.chains c (omega (arith, h.count_of, lc)) h.falling p);
        behind = subst (λ (l : Linked). AreBehind (λ q. slot_of n (cell_at side places q)) l.chains n (i + 1)) (sym e)
            (AreBehind-more (λ q. slot_of n (cell_at side places q)) now.chains n i c (omega (arith, h.count_of, lc)) is h.behind);
      }
    where
      skip : (b : Bool) (m : ℕ) → cond (b && false) 1 0 + m ≡ m
      skip true m = omega arith
      skip false m = omega arith

-- ---- the cubes
-- the cubes of the first i places
abbrev pub HasCubes : ℕ → List Vec3 → ℕ → Roomed GridCell → Roomed GridCell → Type 0
HasCubes side places i start now = now ≡ record start { entries = map (cube_of side) (take i places) }

module _ (side : ℕ) (places : List Vec3) (start now : Roomed GridCell) where
  pub HasCubes-more : (i : ℕ) (new : Roomed GridCell) (c : GridCell) → i < length places → length places ≤ start.room
      → HasCubes side places i start now → c ≡ cube_at side places i
      → (length now.entries < now.room → new ≡ record now { entries = now.entries ++ c ∷ [] }) → HasCubes side places (i + 1) start new
  HasCubes-more i new c lt room is value push =
      let size : length now.entries ≡ i = ap (λ (r : Roomed GridCell). length r.entries) is ∙ length-map (take i places) (cube_of side)
      ∙ length-take-le i places (omega (arith, lt)) in
      let kept : now.room ≡ start.room = ap (λ (r : Roomed GridCell). r.room) is in
      push (omega (arith, size, kept, lt, room))
      ∙ ap (λ (r : Roomed GridCell). record r { entries = r.entries ++ c ∷ [] }) is
      ∙ ap (λ (ys : List GridCell). record start { entries = ys })
      (ap (λ d. map (cube_of side) (take i places) ++ d ∷ []) value ∙ sym (map_more (cube_of side) places i zero_vector lt))

-- all are in their chains
pub are_laid : (side : ℕ) (places : List Vec3) (n : ℕ) (old now : Linked) (start cubes : Roomed GridCell) (i : ℕ) → 0 < side
    → side ≤ 1048576
    → length places ≤ 65536 → AllInside places → 0 < n
    → AreLinked side places n old now i → HasCubes side places i start cubes → i ≡ length places
    → AreLaid now.chains n cubes.entries places side
are_laid side places n old now start cubes i low high few inside some h is e = record {
  low = low;
  high = high;
  few = few;
  inside = inside;
  cubes_are = ap (λ (r : Roomed GridCell). r.entries) is ∙ ap (map (cube_of side)) (take_all i places (omega (arith, e)));
  some = some;
  counted = h.count_of;
  once = λ q l. ap (λ (m : ℕ). count q (chain_at now.chains (slot_of m (cell_at side places q)))) h.count_of
      ∙ h.once q (omega (arith, l, e));
  falling = λ c. subst (λ (m : ℕ). IsFalling m (chain_at now.chains c)) e (h.falling c);
  shared = λ j s l. subst (AreBehind (λ q. slot_of n (cell_at side places q)) now.chains n) e h.behind j s l;
}

-- ---- near particles are in cells next to each other
part_lt : (d t a b : ℕ) → d * d + a + b < t * t → d < t
part_lt d t a b l = below_by_squares d t (omega (arith, l))

pub lt_of : (a b : ℕ) → ltb a b ≡ true → a < b
lt_of a b e = grind (arith, nat_tests)

near_sum : (t : ℕ) (a b : Vec3) → is_near (pos t) a b ≡ true
    → unsigned_abs (a.x -ℤ b.x) * unsigned_abs (a.x -ℤ b.x) + unsigned_abs (a.y -ℤ b.y) * unsigned_abs (a.y -ℤ b.y) + unsigned_abs
    (a.z -ℤ b.z) * unsigned_abs (a.z -ℤ b.z) < t * t
near_sum t a b e = lt_of (squared_length (minus a b)) (t * t) e

module _ (t : ℕ) (a b : Vec3) (e : is_near (pos t) a b ≡ true) where
  pub near_x : unsigned_abs (a.x -ℤ b.x) < t
  near_x = part_lt (unsigned_abs (a.x -ℤ b.x)) t (unsigned_abs (a.y -ℤ b.y) * unsigned_abs (a.y -ℤ b.y))
      (unsigned_abs (a.z -ℤ b.z) * unsigned_abs (a.z -ℤ b.z)) (near_sum t a b e)

  pub near_y : unsigned_abs (a.y -ℤ b.y) < t
  near_y = part_lt (unsigned_abs (a.y -ℤ b.y)) t (unsigned_abs (a.x -ℤ b.x) * unsigned_abs (a.x -ℤ b.x))
      (unsigned_abs (a.z -ℤ b.z) * unsigned_abs (a.z -ℤ b.z)) (omega (arith, near_sum t a b e))

  pub near_z : unsigned_abs (a.z -ℤ b.z) < t
  near_z = part_lt (unsigned_abs (a.z -ℤ b.z)) t (unsigned_abs (a.x -ℤ b.x) * unsigned_abs (a.x -ℤ b.x))
      (unsigned_abs (a.y -ℤ b.y) * unsigned_abs (a.y -ℤ b.y)) (omega (arith, near_sum t a b e))

-- ---- no more numbers than there are
count_rest : (n : ℕ) (xs : List ℕ) → length xs ≡ count n xs + length (filter (λ x. not (eqb x n)) xs)
count_rest n [] = refl
count_rest n (x ∷ xs) = rest_counted (eqb x n) (count_rest n xs)
  where
    rest_counted : (b : Bool) → length xs ≡ count n xs + length (filter (λ x. not (eqb x n)) xs)
        → suc (length xs) ≡ cond b 1 0 + count n xs + length (cond (not b) (x ∷ filter (λ x. not (eqb x n)) xs)
        (filter (λ x. not (eqb x n)) xs))
    rest_counted true r = omega (arith, r)
    rest_counted false r = omega (arith, r)

no_numbers : (xs : List ℕ) → ((q : ℕ) → count q xs ≡ 0) → length xs ≡ 0
no_numbers [] h = refl
no_numbers (x ∷ xs) h = absurd (let e = h x in let e' = rw (eq-eqb x x refl) at e in omega (arith, e'))

pub few_numbers : (n : ℕ) (xs : List ℕ) → ((q : ℕ) → count q xs ≤ 1) → ((q : ℕ) → n ≤ q → count q xs ≡ 0) → length xs ≤ n
few_numbers zero xs once above = omega (arith, no_numbers xs (λ q. above q (omega arith)))
few_numbers (suc n) xs once above =
    let left : (q : ℕ) → count q (filter (λ x. not (eqb x n)) xs)
    ≡ cond (not (eqb q n)) (count q xs) 0 = λ q. count-filter (λ x. not (eqb x n)) q xs in
    omega (
      arith,
      count_rest n xs,
      once n,
      few_numbers n (filter (λ x. not (eqb x n)) xs)
          (λ q. omega (arith, left q, some (not (eqb q n)) (count q xs), once q))
          (λ q l. left q ∙ none q (cases_eq q n) l (λ m. above q m)),
    )
  where
    some : (b : Bool) (m : ℕ) → cond b m 0 ≤ m
    some true m = omega arith
    some false m = omega arith

    none : (q : ℕ) → ((q ≡ n) ⊎ (q ≢ n)) → n ≤ q → (suc n ≤ q → count q xs ≡ 0) → cond (not (eqb q n)) (count q xs) 0 ≡ 0
    none q (inl e) l h = rw (eq-eqb q n e) refl
    none q (inr ne) l h = rw (ne_eqb q n ne) (h (omega (arith, l, ne)))
