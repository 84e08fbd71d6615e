-- Products of numbers of 32 bits.
use Rattle.std.proofs.Common.{◌≡◌, ℕ, ◌*◌, ◌<◌, ◌≤◌, ◌^◌, ℤ, ◌*ℤ◌, unsigned_abs, to_z, of_z, w32, FitsSigned}
use Rattle.std.proofs.lemmas.Int.{to_z-of_z, fits_signed_mul}

-- a product comes to stand in 32 bits as it is
pub product_is : (a b : ℤ) (m n : ℕ) → FitsSigned w32 a → FitsSigned w32 b → unsigned_abs a ≤ m → unsigned_abs b ≤ n → m * n < 2 ^ 31
    → to_z w32 (of_z w32 (to_z w32 (of_z w32 a) *ℤ to_z w32 (of_z w32 b))) ≡ a *ℤ b
product_is a b m n a_fits b_fits a_size b_size short = let product = fits_signed_mul w32 a b m n a_size b_size short in simp to_z-of_z
