-- What is known of places of which a reach was taken.
use Rattle.std.specs.Prelude.{ℕ, ◌*◌, ◌<◌, ◌≤◌, ℤ, unsigned_abs, List}
use Rattle.pbd_num.specs.declared.Vec3.{Vec3}
use Rattle.pbd_num.specs.Vectors.{plus}
use Rattle.pbd_store.specs.Gathering.{index_at}
use Rattle.pbd_store.specs.declared.reach.Reach.{Reach}

-- where no number of the reach is above twice the limit, the place is within the limit
pub record Covers (reach : Reach) (limit : ℤ) (place : Vec3) : Type 0 where
  pub x : reach.x ≤ 2 * unsigned_abs limit → unsigned_abs place.x ≤ unsigned_abs limit
  pub y : reach.y ≤ 2 * unsigned_abs limit → unsigned_abs place.y ≤ unsigned_abs limit
  pub z : reach.z ≤ 2 * unsigned_abs limit → unsigned_abs place.z ≤ unsigned_abs limit

-- the same of where the ends of n pairs are moved, from the places that `at` gives
pub record CoversEnds (n : ℕ) (first second : List ℕ) (f s : ℕ → Vec3) (reach : Reach) (limit : ℤ) (at : ℕ → Vec3) : Type 0 where
  pub firsts : (j : ℕ) → j < n → Covers reach limit (plus (at (index_at first j)) (f j))
  pub seconds : (j : ℕ) → j < n → Covers reach limit (plus (at (index_at second j)) (s j))
