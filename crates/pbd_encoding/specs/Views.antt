-- The bytes of a state, with how many particles and links it tells of.
use Rattle.std.specs.Prelude.{◌≡◌, ℕ, List, length}
use Rattle.pbd_encoding.specs.declared.form.Counts.{Counts}
use Rattle.pbd_encoding.specs.Encoding.{state_size}
use Rattle.pbd_encoding.specs.Form.{AreCounts}

-- so many bytes as the state of a scene has
pub record IsLong (counts : Counts) (bytes : List ℕ) : Type 0 where
  pub few : AreCounts counts
  pub long : length bytes ≡ state_size counts.particles counts.links

-- the bytes of a state of so many particles and links
pub record Viewed : Type 0 where
  pub text : List ℕ
  pub particles : ℕ
  pub links : ℕ
