-- The walk to the first line that is a word.
use Rattle.std.proofs.Common.{◌≡◌, ◌∙◌, sym, ap, refl, ℕ, suc, ◌+◌, ◌≤◌, true, false, List, [], ◌∷◌, ◌++◌, length, take, drop, Option}
use Rattle.std.proofs.Common.{Some, None, arith, inl, inr, ◌⊎◌}
use Rattle.std.specs.Prelude.{position, nat_lt}
use Rattle.std.specs.List.{position_or_len}
use Rattle.std.specs.Prelude.{flat_map, option_map}
use Rattle.std.specs.List.{join_with_byte}
use Rattle.std.proofs.lemmas.List.{length-drop, length-take, length-append, take-append-drop, take_at, drop_at, append_assoc, append-nil}
use Rattle.std.proofs.lemmas.List.Splits.{join_with_byte-slice_split}
use Rattle.pbd_script.specs.Lines.{pieces}
use Rattle.pbd_script.proofs.LineLemmas.{first_at, none_at}
use Rattle.pbd_outcome.specs.Split.{is_line, split_at}
use Rattle.std.proofs.lemmas.Bool.{lt-ltb, le-ltb}

-- ---- the split

pub split_here : (d : List ℕ) (b p : List ℕ) (ps : List (List ℕ)) → pieces b ≡ p ∷ ps → is_line d p ≡ true
    → split_at d b ≡ Some ([], join_with_byte 10 ps)
unfolding split_at
split_here d b p ps parts is =
    let test : nat_lt 0 (length (p ∷ ps)) ≡ true = lt-ltb 0 (length (p ∷ ps)) (omega arith) in
    rw (parts, is, test) refl

pub split_last : (d : List ℕ) (b p : List ℕ) → pieces b ≡ p ∷ [] → is_line d p ≡ false → split_at d b ≡ None
unfolding split_at
split_last d b p parts is = rw (parts, is) refl

pub inspect : (o : Option ℕ) → (o ≡ None) ⊎ ((i : ℕ) × (o ≡ Some i))
inspect None = inl refl
inspect (Some i) = inr (i, refl)

later : (d : List ℕ) (p : List ℕ) (q : List (List ℕ)) → is_line d p ≡ false
    → position_or_len (is_line d) (p ∷ q) ≡ suc (position_or_len (is_line d) q)
later d p q is = rw is (omega arith)

later_some : (d : List ℕ) (p : List ℕ) (q : List (List ℕ)) (i : ℕ) → is_line d p ≡ false → position (is_line d) q ≡ Some i
    → position (is_line d) (p ∷ q) ≡ Some (suc i)
later_some d p q i is some =
    let at = first_at (is_line d) q i some in
    let more : position_or_len (is_line d) (p ∷ q) ≡ suc i = later d p q is ∙ ap suc at.is in
    let test : nat_lt (position_or_len (is_line d) (p ∷ q)) (length (p ∷ q))
    ≡ true = rw more (lt-ltb (suc i) (length (p ∷ q)) (omega (arith, at.within))) in
    let found : position (is_line d) (p ∷ q) ≡ Some (position_or_len (is_line d) (p ∷ q)) = rw test refl in
    found ∙ ap (λ n. Some n) more

later_none : (d : List ℕ) (p : List ℕ) (q : List (List ℕ)) → is_line d p ≡ false → position (is_line d) q ≡ None
    → position (is_line d) (p ∷ q) ≡ None
later_none d p q is none =
    let all = none_at (is_line d) q none in
    let more = later d p q is in
    let test : nat_lt (position_or_len (is_line d) (p ∷ q)) (length (p ∷ q))
    ≡ false = rw more (le-ltb (suc (position_or_len (is_line d) q)) (length (p ∷ q)) (omega (arith, all))) in
    rw test refl

-- the halves at a place among the pieces
halves_at : List (List ℕ) → Option ℕ → Option (List ℕ × List ℕ)
halves_at ps o = option_map (λ i. (flat_map (λ piece. piece ++ 10 ∷ []) (take i ps), join_with_byte 10 (drop (i + 1) ps))) o

split_is : (d : List ℕ) (b : List ℕ) → split_at d b ≡ halves_at (pieces b) (position (is_line d) (pieces b))
unfolding split_at halves_at
split_is d b = refl

halves_later : (p : List ℕ) (q : List (List ℕ)) (i : ℕ) → halves_at (p ∷ q) (Some (suc i))
    ≡ option_map (λ h. (p ++ 10 ∷ h.0, h.1)) (halves_at q (Some i))
unfolding halves_at
halves_later p q i =
    let e : suc i + 1 ≡ suc (i + 1) = omega arith in
    rw e (ap (λ (t : List ℕ). Some (t, join_with_byte 10 (drop (i + 1) q)))
    (append_assoc p (10 ∷ []) (flat_map (λ piece. piece ++ 10 ∷ []) (take i q))))

halves_none : (p : List ℕ) (q : List (List ℕ)) → halves_at (p ∷ q) None ≡ option_map (λ h. (p ++ 10 ∷ h.0, h.1)) (halves_at q None)
unfolding halves_at
halves_none p q = refl

pub split_on : (d : List ℕ) (b p r : List ℕ) → pieces b ≡ p ∷ pieces r → is_line d p ≡ false
    → split_at d b ≡ option_map (λ h. (p ++ 10 ∷ h.0, h.1)) (split_at d r)
split_on d b p r parts is = elim (inspect (position (is_line d) (pieces r))) [
  | inl none ↦ split_is d b ∙ ap (λ ps. halves_at ps (position (is_line d) ps)) parts
      ∙ ap (halves_at (p ∷ pieces r)) (later_none d p (pieces r) is none) ∙ halves_none p (pieces r)
      ∙ ap (λ o. option_map (λ h. (p ++ 10 ∷ h.0, h.1)) (halves_at (pieces r) o)) (sym none)
      ∙ ap (λ t. option_map (λ h. (p ++ 10 ∷ h.0, h.1)) t) (sym (split_is d r))
  | inr found ↦ split_is d b ∙ ap (λ ps. halves_at ps (position (is_line d) ps)) parts
      ∙ ap (halves_at (p ∷ pieces r)) (later_some d p (pieces r) found.0 is found.1) ∙ halves_later p (pieces r) found.0
      ∙ ap (λ o. option_map (λ h. (p ++ 10 ∷ h.0, h.1)) (halves_at (pieces r) o)) (sym found.1)
      ∙ ap (λ t. option_map (λ h. (p ++ 10 ∷ h.0, h.1)) t) (sym (split_is d r))
]

-- ---- the walk to the divider: what stands before the rest has none

pub split_ends : (d : List ℕ) (input rest piece : List ℕ) (at : ℕ)
    → split_at d input ≡ option_map (λ h. (take at input ++ h.0, h.1)) (split_at d rest) → pieces rest ≡ piece ∷ [] → is_line d piece ≡ true
    → Some (take at input, []) ≡ split_at d input
split_ends d input rest piece at so_far parts is = sym (so_far
    ∙ rw (split_here d rest piece [] parts is) (ap (λ (t : List ℕ). Some (t, [])) (append-nil (take at input))))

pub split_found : (d : List ℕ) (input rest piece next : List ℕ) (at : ℕ)
    → split_at d input ≡ option_map (λ h. (take at input ++ h.0, h.1)) (split_at d rest) → pieces rest ≡ piece ∷ pieces next
    → is_line d piece ≡ true → Some (take at input, next) ≡ split_at d input
split_found d input rest piece next at so_far parts is =
    sym (so_far ∙ rw (split_here d rest piece (pieces next) parts is, join_with_byte-slice_split 10 next)
    (ap (λ (t : List ℕ). Some (t, next)) (append-nil (take at input))))

pub next_short : (input rest piece next : List ℕ) (at : ℕ) → rest ≡ drop at input → rest ≡ piece ++ 10 ∷ next → length next ≤ length input
next_short input rest piece next at here parts = omega (
  arith,
  ap length here,
  ap length parts,
  length-drop at input,
  length-append piece (10 ∷ next),
)

pub record Walked (d input next : List ℕ) (at : ℕ) : Type 0 where
  pub rest : next ≡ drop at input
  pub within : at ≤ length input
  pub halves : split_at d input ≡ option_map (λ h. (take at input ++ h.0, h.1)) (split_at d next)

abbrev Halves : Type 0
Halves = List ℕ × List ℕ

composed : (front piece : List ℕ) (o : Option Halves) → option_map {T = Halves} {U = Halves} (λ h. (front ++ h.0, h.1))
    (option_map {T = Halves} {U = Halves} (λ h. (piece ++ 10 ∷ h.0, h.1)) o)
    ≡ option_map {T = Halves} {U = Halves} (λ h. ((front ++ (piece ++ 10 ∷ [])) ++ h.0, h.1)) o
composed front piece None = refl
composed front piece (Some h) = ap (λ (t : List ℕ). Some (t, h.1))
    (ap (λ t. front ++ t) (sym (append_assoc piece (10 ∷ []) h.0)) ∙ sym (append_assoc front (piece ++ 10 ∷ []) h.0))

pub walks : (d : List ℕ) (input rest piece next : List ℕ) (at : ℕ) → rest ≡ drop at input → at ≤ length input
    → split_at d input ≡ option_map (λ h. (take at input ++ h.0, h.1)) (split_at d rest) → pieces rest ≡ piece ∷ pieces next
    → rest ≡ piece ++ 10 ∷ next → is_line d piece ≡ false → Walked d input next (at + (length piece + 1))
walks d input rest piece next at here within so_far parts bytes is =
    let front : List ℕ = take at input ++ (piece ++ 10 ∷ []) in
    let size : length front ≡ at + (length piece + 1) = omega
    (arith, length-append (take at input) (piece ++ 10 ∷ []), length-append piece (10 ∷ []), length-take at input) in
    let whole : input ≡ front ++ next = sym (take-append-drop at input)
    ∙ ap (λ t. take at input ++ t) (sym here ∙ bytes ∙ sym (append_assoc piece (10 ∷ []) next))
    ∙ sym (append_assoc (take at input) (piece ++ 10 ∷ []) next) in
    let taken : take (at + (length piece + 1)) input ≡ front = ap (take (at + (length piece + 1))) whole
    ∙ take_at front next (at + (length piece + 1)) size in
    let left : drop (at + (length piece + 1)) input ≡ next = ap (drop (at + (length piece + 1))) whole
    ∙ drop_at front next (at + (length piece + 1)) size in
    record {
      rest = sym left;
      within = omega (arith, size, ap length whole, length-append front next);
      halves = rw taken (so_far ∙ ap (λ (o : Option Halves). option_map {T = Halves} {U = Halves} (λ h. (take at input ++ h.0, h.1)) o)
          (split_on d rest piece next parts is) ∙ composed (take at input) piece (split_at d next));
    }
