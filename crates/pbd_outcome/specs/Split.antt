-- The two halves of an input, and the scenes of a host.
use Rattle.std.specs.Prelude.{ℕ, ◌+◌, Bool, codes, List, [], ◌∷◌, ◌++◌, take, drop, flat_map, position, bytes_eq, Option, option_map}
use Rattle.std.specs.List.{join_with_byte, slice_split}
use Rattle.std.specs.Str.Lines.{strip_carriage_return}
use Rattle.pbd_script.specs.Lines.{pieces}

-- a line that is this word; it may end with a carriage return
abbrev pub is_line : List ℕ → List ℕ → Bool
is_line word piece = bytes_eq (strip_carriage_return piece) word

-- lines, each with its newline
abbrev pub ended_lines : List (List ℕ) → List ℕ
ended_lines lines = flat_map (λ piece. piece ++ 10 ∷ []) lines

-- what stands before the first line that is this word, and what follows it
unfoldable pub split_at : List ℕ → List ℕ → Option (List ℕ × List ℕ)
split_at word bytes =
    option_map (λ i. (ended_lines (take i (pieces bytes)), join_with_byte 10 (drop (i + 1) (pieces bytes))))
    (position (is_line word) (pieces bytes))

-- the line `%%`
abbrev pub divider : List ℕ
divider = codes "%%"

-- the scene before the first line that is `%%`, and the script after it
abbrev pub split : List ℕ → Option (List ℕ × List ℕ)
split bytes = split_at divider bytes

-- ---- several scenes

-- the bytes of groups of lines, of which all but the last have a line `%%` behind them
abbrev pub texts : List (List (List ℕ)) → List (List ℕ)
texts [] = []
texts (lines ∷ []) = join_with_byte 10 lines ∷ []
texts (lines ∷ next ∷ groups) = ended_lines lines ∷ texts (next ∷ groups)

-- the scenes that lines `%%` separate
unfoldable pub scenes : List ℕ → List (List ℕ)
scenes bytes = texts (slice_split (is_line divider) (pieces bytes))

-- the scenes before the first line that is `%%%`, and the tagged lines after it
abbrev pub host_split : List ℕ → Option (List (List ℕ) × List (List ℕ))
host_split bytes = option_map (λ halves. (scenes halves.0, pieces halves.1)) (split_at (codes "%%%") bytes)
