-- The shares of ends with unequal weights.
use Rattle.std.specs.Prelude.{◌≡◌, ℕ, ◌+◌, ◌*◌, ◌<◌, ◌≤◌, ◌^◌, ℤ, pos, ◌≤ℤ◌, unsigned_abs, List, length}
use Rattle.pbd_num.specs.declared.Vec3.{Vec3}
use Rattle.pbd_num.specs.declared.row.Row.{Row}
use Rattle.pbd_num.specs.PairMove.{shares}
use Rattle.pbd_num.specs.Rows.{vector_of}
use Rattle.pbd_num.specs.Vectors.{Within, zero_vector}
use Rattle.pbd_store.specs.Pairs.{row_in}
use Rattle.pbd_pair.specs.Laid.{number_in}
use Rattle.pbd_pair.specs.Chunks.{IsGuess}
use Rattle.pbd_pair.specs.declared.uneven.Portion.{Portion}
use Rattle.pbd_pair.specs.declared.uneven.Portions.{Portions}

-- ---- one bond

-- a stiffness in 0..=256, 0 where both ends are held, two weights in 0..=65,535, and a guess in 0..=2^30
pub record IsShareable (k first second guess : ℤ) : Type 0 where
  pub k_low : pos 0 ≤ℤ k
  pub k_high : k ≤ℤ pos 256
  pub first_low : pos 0 ≤ℤ first
  pub first_high : first ≤ℤ pos 65535
  pub second_low : pos 0 ≤ℤ second
  pub second_high : second ≤ℤ pos 65535
  pub guessed : IsGuess guess
  pub held : unsigned_abs first + unsigned_abs second ≡ 0 → k ≡ pos 0

-- a stiffness in 0..=256, the weight of the first end and that of both, which is 1 to 131,070, and a guess of at most 2^30
pub record IsPortion (p : Portion) : Type 0 where
  pub k : p.k ≤ 256
  pub first : p.first ≤ p.total
  pub some : 0 < p.total
  pub total : p.total ≤ 131070
  pub guess : p.guess ≤ 2 ^ 30

-- the same of a bond with this stiffness and these weights
pub record IsPortionOf (stiffness weight other : ℤ) (p : Portion) : Type 0 where
  pub k : pos p.k ≡ stiffness
  pub first : pos p.first ≡ weight
  pub total : 0 < unsigned_abs weight + unsigned_abs other → p.total ≡ unsigned_abs weight + unsigned_abs other

-- what a share leaves of `pulled` * `first` / (256 * `total`), and a half, all of it times 256 * `total`
abbrev pub Leaves : Portion → ℕ → ℕ → ℕ → Type 0
Leaves p pulled share left = left + share * (256 * p.total) ≡ pulled * p.first + 128 * p.total

-- a row is the share of a correction that stiffness k / 256 and weight w out of `total` give: none where that is 0
pub record IsShare (s : Vec3) (k w : ℤ) (total : ℕ) (row : Row) : Type 0 where
  pub flag : row.flag ≡ pos 0
  pub size : Within (2 ^ 16) (vector_of row)
  pub value : 0 < total → vector_of row ≡ shares s k w total
  pub none : total ≡ 0 → vector_of row ≡ zero_vector

-- ---- many

-- columns of one length, at most 128
pub record AreShareable (p : Portions) : Type 0 where
  pub few : length p.first.now ≤ 128
  pub second_long : length p.second.now ≡ length p.first.now
  pub stiffness_long : length p.stiffness.now ≡ length p.first.now
  pub guess_long : length p.guess.now ≡ length p.first.now
  pub each : (j : ℕ) → j < length p.first.now
      → IsShareable (number_in p.stiffness.now j) (number_in p.first.now j) (number_in p.second.now j) (number_in p.guess.now j)

-- the weight of both ends
abbrev pub total_in : Portions → ℕ → ℕ
total_in p j = unsigned_abs (number_in p.first.now j) + unsigned_abs (number_in p.second.now j)

-- rows are the shares of the first ends and of the second ends
pub record AreSharedOut (p : Portions) (corrections firsts seconds : List Row) : Type 0 where
  pub back_long : length firsts ≡ 128
  pub forth_long : length seconds ≡ 128
  pub back : (j : ℕ) → j < length p.first.now → IsShare (vector_of (row_in corrections j)) (number_in p.stiffness.now j)
      (number_in p.first.now j) (total_in p j) (row_in firsts j)
  pub forth : (j : ℕ) → j < length p.first.now → IsShare (vector_of (row_in corrections j)) (number_in p.stiffness.now j)
      (number_in p.second.now j) (total_in p j) (row_in seconds j)
