-- The sweep that mends colours after pairs were dropped.
use Rattle.std.proofs.Common.{◌≡◌, ℕ, ◌+◌, ◌<◌, ◌≤◌, ◌&&◌, Bool, true, false, eqb, List, get_or, set, length, refl, sym, ap, ◌∙◌, arith}
use Rattle.std.proofs.Common.{inl, inr}
use Rattle.std.proofs.lemmas.Bool.{cases_eq, cases_Bool, false≢true}
use Rattle.std.proofs.lemmas.List.{get_or-set_same, get_or-set_other}
use Rattle.pbd_world.specs.Colours.{pair_at, live_at, share, some_below, least_free, colour}
use Rattle.pbd_colour.specs.Swept.{ArePainted, holds, IsSwept}
use Rattle.pbd_world.proofs.GreedyLemmas.{colour_is, least_free-agree, some_below-agree}

module _ (pairs : List (ℕ × ℕ)) (live : List Bool) where
  -- what is the least colour by what is held now is the colour
  pub next_local : (cs : List ℕ) (p : ℕ) → ((i : ℕ) → i < p → live_at live i ≡ true → get_or cs i 0 ≡ colour pairs live i)
      → least_free (λ d. some_below (holds pairs live cs p d) p) ≡ colour pairs live p
  next_local cs p done = least_free-agree _ _ (λ d _. some_below-agree _ _ p
      (λ j l. alike_if (live_at live j) (share (pair_at pairs j) (pair_at pairs p)) d (done j l))) ∙ sym (colour_is pairs live p)
    where
      alike_if : {x y : ℕ} (a s : Bool) (d : ℕ) → (a ≡ true → x ≡ y) → ((a && s) && eqb x d) ≡ ((a && s) && eqb y d)
      alike_if true s d e = ap (λ (n : ℕ). s && eqb n d) (e refl)
      alike_if false s d e = refl

  module _ {cs : List ℕ} {marked : List Bool} {p : ℕ} (h : IsSwept pairs live cs marked p) where
    more_done : (live_at live p ≡ true → get_or cs p 0 ≡ colour pairs live p) → (i : ℕ) → i < p + 1 → live_at live i ≡ true
        → get_or cs i 0 ≡ colour pairs live i
    more_done here i l a = elim (cases_eq i p) [
      | inl e ↦ (let at : live_at live p ≡ true = ap (live_at live) (sym e) ∙ a in
          ap (λ (n : ℕ). get_or cs n 0) e ∙ here at ∙ ap (colour pairs live) (sym e))
      | inr ne ↦ h.done i (omega arith) a
    ]

    -- pair p isn't live
    pub IsSwept-more_dead : live_at live p ≡ false → IsSwept pairs live cs marked (p + 1)
    IsSwept-more_dead dead = record {
      done = more_done (λ a. absurd (false≢true (sym dead ∙ a)));
      rest = λ i l m a u. h.rest i (omega arith) m a u;
    }

    -- pair p is live and not marked: nothing is looked at
    pub IsSwept-more_unmarked : p < length pairs → get_or marked p false ≡ false → IsSwept pairs live cs marked (p + 1)
    IsSwept-more_unmarked within unmarked = record {
      done = more_done (λ a. h.rest p (omega arith) within a unmarked ∙ next_local cs p h.done);
      rest = λ i l m a u. h.rest i (omega arith) m a u;
    }

    -- pair p is marked, and its colour is right already
    pub IsSwept-more_same : get_or cs p 0 ≡ least_free (λ d. some_below (holds pairs live cs p d) p) → IsSwept pairs live cs marked (p + 1)
    IsSwept-more_same e = record {
      done = more_done (λ a. e ∙ next_local cs p h.done);
      rest = λ i l m a u. h.rest i (omega arith) m a u;
    }

    -- pair p gets another colour, and its later live neighbours are marked
    pub IsSwept-more_changed : (c : ℕ) (marks : List Bool) → p < length cs → c ≡ least_free (λ d. some_below (holds pairs live cs p d) p)
        → ((i : ℕ) → p < i → i < length pairs → live_at live i ≡ true → get_or marks i false ≡ false
        → (get_or marked i false ≡ false) × ((live_at live p && share (pair_at pairs p) (pair_at pairs i)) ≡ false))
        → IsSwept pairs live (set cs p c) marks (p + 1)
    IsSwept-more_changed c marks within e unmarked = record {
      done = λ i l a. elim (cases_eq i p) [
        | inl same ↦ (let x : get_or (set cs p c) p 0 ≡ c = get_or-set_same cs p c 0 within in
            ap (λ (n : ℕ). get_or (set cs p c) n 0) same ∙ x ∙ e ∙ next_local cs p h.done ∙ ap (colour pairs live) (sym same))
        | inr ne ↦ get_or-set_other cs p i c 0 ne ∙ h.done i (omega arith) a
      ];
      rest = λ i l m a u. let k = unmarked i (omega arith) m a u in
          get_or-set_other cs p i c 0 (omega arith) ∙ h.rest i (omega arith) m a k.0
          ∙ least_free-agree _ _ (λ d _. some_below-agree _ _ i (λ j lj. sym (elim (cases_eq j p) [
            | inl same ↦ rw (same, k.1) refl
            | inr ne ↦ ap (λ (x : ℕ). (live_at live j && share (pair_at pairs j) (pair_at pairs i)) && eqb x d)
                (get_or-set_other cs p j c 0 ne)
          ])));
    }

  -- at the end all live pairs have their colours
  pub IsSwept-all : (cs : List ℕ) (marked : List Bool) (n : ℕ) → IsSwept pairs live cs marked n → length pairs ≤ n → (i : ℕ)
      → i < length pairs → live_at live i ≡ true → get_or cs i 0 ≡ colour pairs live i
  IsSwept-all cs marked n h l i m a = h.done i (omega arith) a

-- after the taking out: where no earlier dropped pair shares a particle with a live pair, its colour is right by what is held
pub IsSwept-none : (pairs : List (ℕ × ℕ)) (live0 live : List Bool) (cs : List ℕ) (marked : List Bool)
    → ArePainted pairs live0 cs
    → ((i : ℕ) → live_at live i ≡ true → live_at live0 i ≡ true)
    → ((i : ℕ) → i < length pairs → live_at live i ≡ true → get_or marked i false ≡ false → (j : ℕ) → j < i → live_at live0 j ≡ true
    → live_at live j ≡ false → share (pair_at pairs j) (pair_at pairs i) ≡ false)
    → IsSwept pairs live cs marked 0
IsSwept-none pairs live0 live cs marked coloured fewer unmarked = record {
  done = λ i l a. absurd (omega arith);
  rest = λ i l m a u. coloured i m (fewer i a) ∙ colour_is pairs live0 i ∙ least_free-agree _ _ (λ d _. some_below-agree _ _ i (λ j lj.
      elim (cases_Bool (live_at live j)) [
        | inl alive ↦ rw (alive, fewer j alive) (ap (λ (x : ℕ). share (pair_at pairs j) (pair_at pairs i) && eqb x d)
            (sym (coloured j (omega arith) (fewer j alive))))
        | inr dead ↦ elim (cases_Bool (live_at live0 j)) [
          | inl was ↦ rw (dead, was, unmarked i m a u j lj was dead) refl
          | inr never ↦ rw (dead, never) refl
        ]
      ]));
}
