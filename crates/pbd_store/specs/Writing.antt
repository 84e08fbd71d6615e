-- Places of a list that are written together.
use Rattle.std.specs.Prelude.{◌≡◌, ℕ, ◌+◌, ◌<◌, List, length, Bool, IsTrue}
use Rattle.pbd_num.specs.declared.Vec3.{Vec3}
use Rattle.pbd_lanes.specs.Lane.{is_set}
use Rattle.pbd_store.specs.Listed.{place_at}

-- each of the n places from `start` on whose lane is set is that of its lane, and nothing else has changed
pub record WrittenWhere (n start : ℕ) (set : List Bool) (values : ℕ → Vec3) (old new : List Vec3) : Type 0 where
  pub whole : length new ≡ length old
  pub lanes : (j : ℕ) → j < n → IsTrue (is_set set j) → place_at new (start + j) ≡ values j
  pub others : (i : ℕ) → ((j : ℕ) → j < n → IsTrue (is_set set j) → start + j ≡ i → ⊥) → place_at new i ≡ place_at old i
