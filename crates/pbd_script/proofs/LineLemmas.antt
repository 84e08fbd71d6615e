-- Pieces between newlines, and words between blanks.
use Rattle.std.proofs.Common.{◌≡◌, ◌≢◌, ◌∙◌, sym, refl, ℕ, suc, ◌+◌, ◌<◌, ◌≤◌, Bool, true, false, not, List, [], ◌∷◌, ◌++◌, length, get_or}
use Rattle.std.proofs.Common.{take, drop, Some, None, arith, inl, inr, zero, add-zero}
use Rattle.std.specs.Prelude.{position, ◌==◌}
use Rattle.std.specs.List.{position_or_len, slice_split, All}
use Rattle.std.proofs.lemmas.Bool.{cases_lt, lt-ltb, not-false, not-true, le-ltb}
use Rattle.std.proofs.lemmas.Bool.Decides.{nat_tests}
use Rattle.std.proofs.lemmas.List.{take_all, drop_more, drop_all, get_or-drop, get_or-take, length-drop, length-take}
use Rattle.std.proofs.lemmas.List.Splits.{slice_split_first, slice_split_none}
use Rattle.std.proofs.lemmas.List.Sums.{split_at_first, passes_at_first, fails_before_first}
use Rattle.pbd_script.specs.Lines.{words, is_blank, from_word, first_word, behind_word}

-- where the first element that passes is
pub record FirstAt {X : Type 0} (p : X → Bool) (xs : List X) (i : ℕ) : Type 0 where
  pub is : position_or_len p xs ≡ i
  pub within : i < length xs

pub first_at : {X : Type 0} (p : X → Bool) (xs : List X) (i : ℕ) → position p xs ≡ Some i → FirstAt p xs i
first_at p xs i some = elim (cases_lt (position_or_len p xs) (length xs)) [
  | inl lt ↦ (let e : position p xs ≡ Some (position_or_len p xs) = rw (lt-ltb _ _ lt) refl in
      let same : position_or_len p xs ≡ i = cc in record { is = same; within = rw same at lt })
  | inr le ↦ (let e : position p xs ≡ None = rw (le-ltb _ _ le) refl in cc)
]

pub none_at : {X : Type 0} (p : X → Bool) (xs : List X) → position p xs ≡ None → length xs ≤ position_or_len p xs
none_at p xs none = elim (cases_lt (position_or_len p xs) (length xs)) [
  | inl lt ↦ (let e : position p xs ≡ Some (position_or_len p xs) = rw (lt-ltb _ _ lt) refl in cc)
  | inr le ↦ le
]

-- no element passes
pub none_pass : {X : Type 0} (p : X → Bool) (xs : List X) → position p xs ≡ None → All (λ x. p x ≡ false) xs
none_pass p xs none k d within = let all = none_at p xs none in fails_before_first p xs k d (omega (arith, all, within))

pub split_none : {X : Type 0} (p : X → Bool) (xs : List X) → position p xs ≡ None → slice_split p xs ≡ xs ∷ []
split_none p xs none = slice_split_none p xs (none_pass p xs none)

pub split_some : {X : Type 0} (p : X → Bool) (xs : List X) (i : ℕ) (d : X) → position p xs ≡ Some i
    → slice_split p xs ≡ take i xs ∷ slice_split p (drop (i + 1) xs)
split_some p xs i d some =
    let at = first_at p xs i some in
    let lt : position_or_len p xs < length xs = rw at.is (at.within) in
    let e = slice_split_first p xs d lt in rw at.is at e

pub around : {X : Type 0} (p : X → Bool) (xs : List X) (i : ℕ) (d : X) → position p xs ≡ Some i
    → (xs ≡ take i xs ++ get_or xs i d ∷ drop (i + 1) xs) × (p (get_or xs i d) ≡ true)
around p xs i d some =
    let at = first_at p xs i some in
    let lt : position_or_len p xs < length xs = rw at.is (at.within) in
    let e = split_at_first p xs d lt in
    let t = passes_at_first p xs d lt in
    (rw at.is at e, rw at.is at t)

-- ---- lines

other : (b : ℕ) → (b == 10) ≡ false → b ≢ 10
other b differs = grind (arith, nat_tests)

-- no newline stands in a text that has none
pub whole_text : (bytes : List ℕ) → position (λ b. b == 10) bytes ≡ None → All (λ b. b ≢ 10) bytes
whole_text bytes none k d within = other (get_or bytes k d) (none_pass (λ b. b == 10) bytes none k d within)

-- nor before the first one
pub whole_front : (bytes : List ℕ) (i : ℕ) → position (λ b. b == 10) bytes ≡ Some i → All (λ b. b ≢ 10) (take i bytes)
whole_front bytes i some k d within =
    let at = first_at (λ b. b == 10) bytes i some in
    let lt : k < i = omega (arith, within, length-take i bytes) in
    let is : get_or (take i bytes) k d ≡ get_or bytes k d = get_or-take i bytes k d lt in
    rw is (other (get_or bytes k d) (fails_before_first (λ b. b == 10) bytes k d (rw at.is lt)))

-- ---- words

words_blank : (b : ℕ) (xs : List ℕ) → is_blank b ≡ true → words (b ∷ xs) ≡ words xs
words_blank b xs is = rw is refl

skip : (xs : List ℕ) (s : ℕ) → ((k d : ℕ) → k < s → is_blank (get_or xs k d) ≡ true) → words xs ≡ words (drop s xs)
skip xs zero h = refl
skip [] (suc s) h = refl
skip (b ∷ xs) (suc s) h = words_blank b xs (h 0 b (omega arith)) ∙ skip xs s (λ k d lt. h (suc k) d (omega (arith, lt)))

pub words_none : (line : List ℕ) → position (λ b. not (is_blank b)) line ≡ None → words line ≡ []
words_none line none =
    let e = skip line (length line) (λ k d lt. not-false _ (none_pass (λ b. not (is_blank b)) line none k d lt)) in
    e ∙ rw (drop_all (length line) line (omega arith)) refl

to_word : (line : List ℕ) (s : ℕ) → position (λ b. not (is_blank b)) line ≡ Some s → words line ≡ words (drop s line)
to_word line s some =
    let at = first_at (λ b. not (is_blank b)) line s some in
    skip line s (λ k d lt. not-false _ (fails_before_first (λ b. not (is_blank b)) line k d (rw at.is lt)))

nonempty : (xs : List ℕ) → 0 < length xs → not (length xs == 0) ≡ true
nonempty [] lt = absurd (omega arith)
nonempty (x ∷ xs) lt = let e : (length (x ∷ xs) == 0) ≡ false = grind (arith, nat_tests) in rw e refl

pub words_last : (line : List ℕ) (s : ℕ) → position (λ b. not (is_blank b)) line ≡ Some s → position is_blank (drop s line) ≡ None
    → words line ≡ drop s line ∷ []
words_last line s some none =
    let at = first_at (λ b. not (is_blank b)) line s some in
    let lt : 0 < length (drop s line) = omega (arith, length-drop s line, at.within) in
    to_word line s some ∙ rw (split_none is_blank (drop s line) none, nonempty (drop s line) lt) refl

positive : (e : ℕ) (xs : List ℕ) → is_blank (get_or xs 0 0) ≡ false → is_blank (get_or xs e 0) ≡ true → 0 < e
positive zero xs shown blank = cc
positive (suc e) xs shown blank = omega arith

pub words_more : (line : List ℕ) (s e : ℕ) → position (λ b. not (is_blank b)) line ≡ Some s → position is_blank (drop s line) ≡ Some e
    → words line ≡ take e (drop s line) ∷ words (drop e (drop s line))
words_more line s e some end =
    let at = first_at (λ b. not (is_blank b)) line s some in
    let there = first_at is_blank (drop s line) e end in
    let word = around (λ b. not (is_blank b)) line s 0 some in
    let gap = around is_blank (drop s line) e 0 end in
    let front : is_blank (get_or (drop s line) 0 0) ≡ false = rw get_or-drop (rw add-zero (not-true _ word.1)) in
    let pos : 0 < e = positive e (drop s line) front gap.1 in
    let size : 0 < length (take e (drop s line)) = omega (arith, length-take e (drop s line), there.within, pos) in
    let tail : words (drop e (drop s line)) ≡ words (drop (e + 1) (drop s line)) =
    rw (drop_more (drop s line) e 0 there.within) (words_blank (get_or (drop s line) e 0) (drop (e + 1) (drop s line)) gap.1) in
    to_word line s some ∙ rw (split_some is_blank (drop s line) e 0 end, nonempty (take e (drop s line)) size, tail) refl

-- where the first word stands, and what follows it
pub word_last : (line : List ℕ) (s : ℕ) → position (λ b. not (is_blank b)) line ≡ Some s → position is_blank (drop s line) ≡ None
    → (drop s line ≡ first_word line) × ([] ≡ behind_word line)
word_last line s some none =
    let at = first_at (λ b. not (is_blank b)) line s some in
    let from : from_word line ≡ drop s line = rw at.is refl in
    let all : length (drop s line) ≤ position_or_len is_blank (drop s line) = none_at is_blank (drop s line) none in
    rw from (
      sym (take_all (position_or_len is_blank (drop s line)) (drop s line) all),
      sym (drop_all (position_or_len is_blank (drop s line)) (drop s line) all),
    )

pub word_more : (line : List ℕ) (s e : ℕ) → position (λ b. not (is_blank b)) line ≡ Some s → position is_blank (drop s line) ≡ Some e
    → (take e (drop s line) ≡ first_word line) × (drop e (drop s line) ≡ behind_word line)
word_more line s e some end =
    let at = first_at (λ b. not (is_blank b)) line s some in
    let there = first_at is_blank (drop s line) e end in
    let from : from_word line ≡ drop s line = rw at.is refl in
    rw (from, there.is) (refl, refl)
