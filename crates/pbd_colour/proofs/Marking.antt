-- Marks on numbers and on blocks of them, and the sweep over the marked ones.
use Rattle.std.proofs.Common.{◌≡◌, ℕ, zero, suc, ◌+◌, ◌-◌, ◌/◌, ◌<◌, ◌≤◌, ◌&&◌, ◌||◌, Bool, true, false, eqb, ltb, List, [], ◌∷◌, set}
use Rattle.std.proofs.Common.{length, replicate, refl, sym, ap, ◌∙◌, subst, arith, inl, inr}
use Rattle.std.proofs.lemmas.Bool.{cases_eq, cases_lt, lt-ltb, ne_eqb, or_cases, false≢true, or_right, or_left}
use Rattle.std.proofs.lemmas.Bool.Decides.{nat_tests}
use Rattle.std.proofs.lemmas.List.{get_or-set_same, get_or-set_other, get_or_past, length-set, length-replicate, get_or-replicate}
use Rattle.std.specs.List.{list_any}
use Rattle.pbd_chain.specs.Linked.{chain_at}
use Rattle.pbd_world.specs.Room.{Roomed}
use Rattle.pbd_world.specs.Colours.{pair_at, live_at}
use Rattle.pbd_colour.specs.Mended.{is_later, meets}
use Rattle.pbd_colour.specs.Marked.{AreAsMany, AreBlocked, AreUnmarked}
use Rattle.pbd_colour.specs.Swept.{IsSwept}
use Rattle.pbd_colour.proofs.Sweeping.{IsSwept-more_unmarked}
use Rattle.std.proofs.Math.Bool.{or-false}

module _ {marks blocks : List Bool} (h : AreBlocked marks blocks) where
  pub AreBlocked-more : (k : ℕ) (b : Bool) → k < length marks
      → AreBlocked (set marks k (live_at marks k || b)) (set blocks (k / 256) (live_at blocks (k / 256) || b))
  AreBlocked-more k b l =
      let lb : k / 256 < length blocks = omega (arith, h.count, l) in
      let same = get_or-set_same blocks (k / 256) (live_at blocks (k / 256) || b) false lb in
      let told_at : live_at (set marks k (live_at marks k || b)) k ≡ true
      → live_at (set blocks (k / 256) (live_at blocks (k / 256) || b)) (k / 256) ≡ true =
      λ e. same ∙ elim (or_cases (live_at marks k) b (sym (get_or-set_same marks k (live_at marks k || b) false l) ∙ e)) [
        | inl m ↦ or_left (live_at blocks (k / 256)) b (h.told k m)
        | inr m ↦ or_right (live_at blocks (k / 256)) b m
      ] in
      record {
        count = length-set blocks (k / 256) (live_at blocks (k / 256) || b) ∙ h.count
            ∙ ap (λ (n : ℕ). n / 256 + 1) (sym (length-set marks k (live_at marks k || b)));
        told = λ j e. elim (cases_eq j k) [
          | inl s ↦ ap (λ (n : ℕ). live_at (set blocks (k / 256) (live_at blocks (k / 256) || b)) (n / 256)) s
              ∙ told_at (ap (live_at (set marks k (live_at marks k || b))) (sym s) ∙ e)
          | inr ne ↦ (let was = h.told j (sym (get_or-set_other marks k j (live_at marks k || b) false ne) ∙ e) in
              elim (cases_eq (j / 256) (k / 256)) [
                | inl s ↦ ap (live_at (set blocks (k / 256) (live_at blocks (k / 256) || b))) s ∙ same
                    ∙ or_left (live_at blocks (k / 256)) b (ap (live_at blocks) (sym s) ∙ was)
                | inr nb ↦ get_or-set_other blocks (k / 256) (j / 256) (live_at blocks (k / 256) || b) false nb ∙ was
              ])
        ];
      }

  pub AreBlocked-less : (k : ℕ) → AreBlocked (set marks k false) blocks
  AreBlocked-less k = record {
    count = h.count ∙ ap (λ (n : ℕ). n / 256 + 1) (sym (length-set marks k false));
    told = λ j e. elim (cases_eq j k) [
      | inl s ↦ absurd (elim (cases_lt k (length marks)) [
        | inl l ↦ false≢true (sym (get_or-set_same marks k false false l) ∙ ap (live_at (set marks k false)) (sym s) ∙ e)
        | inr past ↦ false≢true (sym (get_or_past (set marks k false) k false (omega (arith, length-set marks k false, past)))
            ∙ ap (live_at (set marks k false)) (sym s) ∙ e)
      ])
      | inr ne ↦ h.told j (sym (get_or-set_other marks k j false false ne) ∙ e)
    ];
  }

-- marks with a room
abbrev pub marks_in : ℕ → List Bool → Roomed Bool
marks_in room marks = record { entries = marks; room = room }

pub none_blocked : (marks blocks : List Bool) → length blocks ≡ length marks / 256 + 1 → ((k : ℕ) → live_at marks k ≡ false)
    → AreBlocked marks blocks
none_blocked marks blocks count none = record { count = count; told = λ k e. absurd (false≢true (sym (none k) ∙ e)) }

pub all_unmarked : (n : ℕ) (marks : List Bool) → marks ≡ replicate n false → (k : ℕ) → live_at marks k ≡ false
all_unmarked n marks e k = ap (λ (bs : List Bool). live_at bs k) e ∙ elim (cases_lt k n) [
  | inl l ↦ get_or-replicate n k false false l
  | inr past ↦ get_or_past (replicate n false) k false (omega (arith, length-replicate n false, past))
]

-- where all of n pairs are live, the live ones are those before n
pub before_live : (n k : ℕ) (live : List Bool) → live ≡ replicate n true → ltb k n ≡ live_at live k
before_live n k live e = elim (cases_lt k n) [
  | inl l ↦ lt-ltb k n l ∙ sym (get_or-replicate n k true false l)
  | inr past ↦ (let no : ltb k n ≡ false = grind (arith, nat_tests) in
      no ∙ sym (get_or_past (replicate n true) k false (omega (arith, length-replicate n true, past))))
] ∙ ap (λ (bs : List Bool). live_at bs k) (sym e)

pub unmarked_all : (marks : List Bool) → AreUnmarked marks 0 (length marks) → (k : ℕ) → live_at marks k ≡ false
unmarked_all marks h k = elim (cases_lt k (length marks)) [ inl l ↦ h k (omega arith) l | inr past ↦ get_or_past marks k false past ]

-- ---- what a pair meets comes later
later_none : (i k : ℕ) → k ≤ i → (xs : List ℕ) → list_any (is_later i k) xs ≡ false
later_none i k le [] = refl
later_none i k le (x ∷ xs) = elim (cases_eq (x / 2) k) [
  | inl e ↦ (let no : ltb i (x / 2) ≡ false = grind (arith, nat_tests) in rw no (skip (eqb (x / 2) k) (later_none i k le xs)))
  | inr ne ↦ rw (ne_eqb (x / 2) k ne) (later_none i k le xs)
]
  where
    skip : (a : Bool) → list_any (is_later i k) xs ≡ false → ((a && false) || list_any (is_later i k) xs) ≡ false
    skip true h = h
    skip false h = h

pub meets_later : (pairs : List (ℕ × ℕ)) (chains : List (List ℕ)) (i : ℕ) (old new : List Bool)
    → ((k : ℕ) → live_at new k ≡ (live_at old k || meets pairs chains i k)) → (k : ℕ) → k ≤ i → live_at new k ≡ live_at old k
meets_later pairs chains i old new told k le = told k
    ∙ ap (λ (b : Bool). live_at old k || b) (rw (
      later_none i k le (chain_at chains (pair_at pairs i).0),
      later_none i k le (chain_at chains (pair_at pairs i).1),
    ) refl)
    ∙ or-false (live_at old k)

-- ---- the sweep
module _ (pairs : List (ℕ × ℕ)) (live : List Bool) (cs : List ℕ) where
  pub IsSwept-skip : (marks : List Bool) (p n : ℕ) → IsSwept pairs live cs marks p → p + n ≤ length pairs → AreUnmarked marks p (p + n)
      → IsSwept pairs live cs marks (p + n)
  IsSwept-skip marks p zero h l none = let e : p ≡ p + zero = omega arith in subst (IsSwept pairs live cs marks) e h
  IsSwept-skip marks p (suc n) h l none =
      let e : p + n + 1 ≡ p + suc n = omega arith in
      subst (IsSwept pairs live cs marks) e
      (IsSwept-more_unmarked pairs live (IsSwept-skip marks p n h (omega (arith, l)) (λ k a b. none k a (omega (arith, b))))
      (omega (arith, l)) (none (p + n) (omega arith) (omega arith)))

  pub IsSwept-to : (marks : List Bool) (p q : ℕ) → IsSwept pairs live cs marks p → p ≤ q → q ≤ length pairs → AreUnmarked marks p q
      → IsSwept pairs live cs marks q
  IsSwept-to marks p q h le l none =
      let e : p + (q - p) ≡ q = omega (arith, le) in
      subst (IsSwept pairs live cs marks) e (IsSwept-skip marks p (q - p) h (omega (arith, e, l)) (λ k a b. none k a (omega (arith, b, e))))

  -- the mark of a pair that was looked at is taken away
  pub IsSwept-unmark : (marks : List Bool) (i : ℕ) → IsSwept pairs live cs marks (i + 1) → IsSwept pairs live cs (set marks i false) (i + 1)
  IsSwept-unmark marks i h = record {
    done = h.done;
    rest = λ k l m a u. h.rest k l m a (sym (get_or-set_other marks i k false false (omega (arith, l))) ∙ u);
  }

-- no number before the next is marked, where none was before i
pub unmarked_next : (marks met : List Bool) (i next : ℕ) → i < length met → AreUnmarked marks 0 i
    → ((k : ℕ) → k ≤ i → live_at met k ≡ live_at marks k) → AreUnmarked (set met i false) (i + 1) next
    → AreUnmarked (set met i false) 0 next
unmarked_next marks met i next li before same after k l m = elim (cases_eq k i) [
  | inl e ↦ ap (live_at (set met i false)) e ∙ get_or-set_same met i false false li
  | inr ne ↦ elim (cases_lt k i) [
    | inl below ↦ get_or-set_other met i k false false ne ∙ same k (omega (arith, below)) ∙ before k l below
    | inr above ↦ after k (omega (arith, above, ne)) m
  ]
]

-- the sweep comes to pair i
pub record IsSweeping (pairs : List (ℕ × ℕ)) (live : List Bool) (cs : List ℕ) (marks : List Bool) (i : ℕ) : Type 0 where
  pub within : i ≤ length pairs
  pub swept : IsSwept pairs live cs marks i
  pub unmarked : AreUnmarked marks 0 i

module _ (pairs : List (ℕ × ℕ)) (live : List Bool) where
  pub IsSweeping-begun : (cs : List ℕ) (marks : List Bool) (next : ℕ) → IsSwept pairs live cs marks 0 → next ≤ length pairs
      → AreUnmarked marks 0 next → IsSweeping pairs live cs marks next
  IsSweeping-begun cs marks next h le none =
      record { within = le; swept = IsSwept-to pairs live cs marks 0 next h (omega arith) le none; unmarked = none }

  -- pair i was looked at, its mark was taken away, and the next marked one was found
  pub IsSweeping-on : {cs new : List ℕ} {marks met less : List Bool} {i next : ℕ} → IsSweeping pairs live cs marks i → less ≡ set met i false
      → i < length met → IsSwept pairs live new met (i + 1) → ((k : ℕ) → k ≤ i → live_at met k ≡ live_at marks k) → i + 1 ≤ next
      → next ≤ length pairs → AreUnmarked less (i + 1) next → IsSweeping pairs live new less next
  IsSweeping-on {new = new} {marks = marks} {met = met} {i = i} {next = next} h e li swept same above le none =
      let after = subst (λ (ms : List Bool). AreUnmarked ms (i + 1) next) e none in
      subst (λ (ms : List Bool). IsSweeping pairs live new ms next) (sym e) (record {
        within = le;
        swept = IsSwept-to pairs live new (set met i false) (i + 1) next (IsSwept-unmark pairs live new met i swept) above le after;
        unmarked = unmarked_next marks met i next li h.unmarked same after;
      })

-- as many marks
pub as_many : {marks : Roomed Bool} → AreAsMany marks marks
as_many = record { count = refl; room = refl }

pub as_many_then : {marks next last : Roomed Bool} → AreAsMany marks next → AreAsMany next last → AreAsMany marks last
as_many_then a b = record { count = b.count ∙ a.count; room = b.room ∙ a.room }

pub as_many_as : {marks next last : Roomed Bool} → AreAsMany marks next → last ≡ next → AreAsMany marks last
as_many_as {marks} a e = subst (AreAsMany marks) (sym e) a

pub as_many_with : {marks next : Roomed Bool} (k : ℕ) (flag : Bool) → next ≡ marks_in marks.room (set marks.entries k flag)
    → AreAsMany marks next
as_many_with {marks} k flag e = as_many_as (record { count = length-set marks.entries k flag; room = refl }) e
