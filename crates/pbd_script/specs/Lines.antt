-- Lines, words and numbers in a text of bytes.
use Rattle.std.specs.Prelude.{ℕ, ◌+◌, ◌-◌, ◌*◌, ◌^◌, ℤ, pos, neg_ℤ, Bool, ◌&&◌, ◌||◌, not, ◌==◌, nat_le, if◌then◌else◌, List, [], ◌∷◌}
use Rattle.std.specs.Prelude.{length, drop, filter, Option, None, Some}
use Rattle.std.specs.Borrow.{Bor}
use Rattle.std.specs.List.{slice_split, position_or_len, before_first, list_all}
use Rattle.std.specs.Option.{option_map}

-- what stands between newlines: the last piece is empty where the text ends with one
abbrev pub pieces : List ℕ → List (List ℕ)
pieces bytes = slice_split (λ b. b == 10) bytes

-- what is left of a text, seen as a list: nothing once all of it was read
abbrev pub left_of : {A : Type 0} → (List ℕ → List A) → Option (Bor (List ℕ)) → List A
left_of seen None = []
left_of seen (Some bytes) = seen bytes.now

-- a space or a tab
abbrev pub is_blank : ℕ → Bool
is_blank b = b == 32 || b == 9

-- the words of a line: what stands between blanks and isn't empty
abbrev pub words : List ℕ → List (List ℕ)
words line = filter (λ word. not (length word == 0)) (slice_split is_blank line)

-- a line from its first word on
abbrev pub from_word : List ℕ → List ℕ
from_word line = drop (position_or_len (λ b. not (is_blank b)) line) line

-- the first word of a line that has one
abbrev pub first_word : List ℕ → List ℕ
first_word line = before_first is_blank (from_word line)

-- what follows the first word, from the blank at its end on
abbrev pub behind_word : List ℕ → List ℕ
behind_word line = drop (position_or_len is_blank (from_word line)) (from_word line)

abbrev pub is_digit : ℕ → Bool
is_digit b = nat_le 48 b && nat_le b 57

-- the number that digits write: each digit, times ten for each place behind it
abbrev pub value : List ℕ → ℕ
value [] = 0
value (digit ∷ digits) = (digit - 48) * 10 ^ length digits + value digits

-- 1 to 18 digits
abbrev pub is_count : List ℕ → Bool
is_count word = nat_le 1 (length word) && nat_le (length word) 18 && list_all is_digit word

abbrev pub count : List ℕ → Option ℕ
count word = if is_count word then Some (value word) else None

-- a count, or `-` and a count
abbrev pub number : List ℕ → Option ℤ
number [] = None
number (first ∷ rest) =
    if first == 45 then option_map (λ n. neg_ℤ (pos n)) (count rest)
    else option_map (λ n. pos n) (count (first ∷ rest))

-- the count that is the only word
abbrev pub only_count : List (List ℕ) → Option ℕ
only_count [] = None
only_count (word ∷ []) = count word
only_count (word ∷ next ∷ more) = None
