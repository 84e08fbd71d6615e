-- The three axes of a vector or a sum, each a signed number of one width.
use Rattle.std.proofs.Common.{ℕ, ◌^◌, ◌<◌, ℤ, List, ◌++◌, Fits}
use Rattle.std.specs.Int.{Width, w64, w128, cast_signed, cast_unsigned}
use Rattle.pbd_log.specs.Entries.{number_bytes}
use Rattle.pbd_encoding.specs.Described.{number_from}

-- n bytes hold the numbers of a width, and no others
pub record Hold (w : Width) (n : ℕ) : Type 0 where
  pub fit : (x : ℕ) → x < 256 ^ n → Fits w x
  pub small : (x : ℕ) → Fits w x → x < 256 ^ n

pub eight : Hold w64 8
eight = record { fit = λ x h. record { fits = h }; small = λ x h. h.fits }

pub sixteen : Hold w128 16
sixteen = record { fit = λ x h. record { fits = h }; small = λ x h. h.fits }

-- an axis in n bytes, as two's complement
abbrev pub axis_bytes : Width → ℕ → ℤ → List ℕ
axis_bytes w n z = number_bytes n (cast_unsigned w z)

abbrev pub axes_bytes : Width → ℕ → ℤ → ℤ → ℤ → List ℕ
axes_bytes w n x y z = axis_bytes w n x ++ axis_bytes w n y ++ axis_bytes w n z

-- the axis that n bytes from a place on spell
abbrev pub axis_from : Width → ℕ → List ℕ → ℕ → ℤ
axis_from w n bytes at = cast_signed w (number_from n bytes at)
