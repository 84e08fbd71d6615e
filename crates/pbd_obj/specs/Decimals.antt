-- Decimal words, and how many units they are. A metre is 65,536 units.
use Rattle.std.specs.Prelude.{ℕ, ◌+◌, ◌*◌, ◌^◌, nat_le, ℤ, pos, negsuc, neg_ℤ, ◌-ℤ◌, ◌*ℤ◌, Bool, false, ◌&&◌, ◌||◌, ◌==◌, if◌then◌else◌}
use Rattle.std.specs.Prelude.{List, [], ◌∷◌, ◌++◌, length, drop, Option, Some, None}
use Rattle.std.specs.List.{list_all, position_or_len, before_first, after_first}
use Rattle.std.specs.Option.{option_map}
use Rattle.pbd_num.specs.Rounding.{rdiv}
use Rattle.pbd_script.specs.Lines.{is_digit, value, count}
use Rattle.pbd_obj.specs.declared.decimal.Decimal.{Decimal}

-- ---- signs

abbrev pub is_minus : List ℕ → Bool
is_minus [] = false
is_minus (b ∷ rest) = b == 45

-- without the one `+` or `-` that may stand before it
abbrev pub without_sign : List ℕ → List ℕ
without_sign [] = []
without_sign (b ∷ rest) = if b == 43 || b == 45 then rest else b ∷ rest

abbrev pub signed : Bool → ℕ → ℤ
signed minus n = if minus then neg_ℤ (pos n) else pos n

-- ---- parts of a word

-- 1 to `most` digits
abbrev pub short_count : ℕ → List ℕ → Option ℕ
short_count most word = if nat_le (length word) most then count word else None

-- `e` or `E`
abbrev pub is_mark : ℕ → Bool
is_mark b = b == 101 || b == 69

abbrev pub is_point : ℕ → Bool
is_point b = b == 46

-- nothing, or a mark, perhaps a sign, and one or two digits
abbrev pub exponent : List ℕ → Option ℤ
exponent [] = Some (pos 0)
exponent (mark ∷ word) = option_map (λ n. signed (is_minus word) n) (short_count 2 (without_sign word))

-- 1 to 24 digits
abbrev pub are_few_digits : List ℕ → Bool
are_few_digits digits = nat_le 1 (length digits) && nat_le (length digits) 24 && list_all is_digit digits

-- the digits before and behind the point as one number, which ten to the power of the exponent
-- multiplies, less one for each digit behind the point
abbrev pub with_digits : Bool → List ℕ → List ℕ → Option ℤ → Option Decimal
with_digits minus whole fraction exponent =
    if are_few_digits (whole ++ fraction)
    then option_map (λ e. record { minus = minus; digits = value (whole ++ fraction); power = e -ℤ pos (length fraction) }) exponent
    else None

-- the part up to the exponent's mark is split at its first point
abbrev pub split_decimal : Bool → List ℕ → List ℕ → Option Decimal
split_decimal minus mantissa mark = with_digits minus (before_first is_point mantissa) (after_first is_point mantissa) (exponent mark)

-- perhaps a sign, then digits with at most one point, then perhaps an exponent
unfoldable pub decimal : List ℕ → Option Decimal
decimal word =
    let number = without_sign word in
    split_decimal (is_minus word) (before_first is_mark number) (drop (position_or_len is_mark number) number)

-- ---- units

-- n times ten to a power, rounded to the nearest whole number where the power is negative
unfoldable pub scaled : ℤ → ℤ → ℤ
scaled n (pos k) = n *ℤ pos (10 ^ k)
scaled n (negsuc k) = rdiv n (pos (10 ^ (k + 1)))

-- its value times 65,536, rounded to the nearest whole number, halves away from zero
unfoldable pub units : Decimal → ℤ
units d = scaled (signed d.minus (d.digits * 65536)) d.power

unfoldable pub units_of : List ℕ → Option ℤ
units_of word = option_map units (decimal word)
