-- Where bytes go wrong that haven't the form of a state.
use Rattle.std.specs.Prelude.{ℕ, ◌≤◌, ◌+◌, ◌*◌, nat_le, nat_lt, ◌==◌, Bool, not, ◌&&◌, List, length, take, slice_index, min, Option, Some}
use Rattle.std.specs.Prelude.{None, Result, Ok, Err, if◌then◌else◌}
use Rattle.pbd_sound.specs.Soundness.{first_where}
use Rattle.pbd_encoding.specs.declared.form.StateFault.{StateFault}
use Rattle.pbd_encoding.specs.declared.form.Counts.{Counts}
use Rattle.pbd_encoding.specs.Encoding.{state_size}
use Rattle.pbd_encoding.specs.Described.{contacts_at}

-- so few particles and links as a scene has
pub record AreCounts (counts : Counts) : Type 0 where
  pub particles : counts.particles ≤ 65536
  pub links : counts.links ≤ 524288

-- nothing, or a fault
abbrev pub Formed : Type 0
Formed = Result (Unit {0}) StateFault

abbrev pub fault_at : ℕ → StateFault
fault_at k = record { offset = k }

-- byte k can't stand in a state: it isn't the header's, or it is a flag that is neither 0 nor 1
abbrev pub is_foreign : List ℕ → ℕ → ℕ → ℕ → ℕ → Bool
is_foreign header n m k byte =
    if nat_lt k 96 then not (byte == slice_index header k)
    else (nat_le (128 + 48 * n) k && nat_lt k (contacts_at n m) && nat_lt 1 byte)

abbrev pub form_of : ℕ → ℕ → Option ℕ → Formed
form_of len size (Some k) = Err (fault_at k)
form_of len size None = if len == size then Ok tt else Err (fault_at (min len size))

-- the first byte that can't stand where it does, else where bytes are missing or too many
unfoldable pub form_checked : List ℕ → ℕ → ℕ → List ℕ → Formed
form_checked header n m bytes =
    form_of (length bytes) (state_size n m) (first_where 0 (is_foreign header n m) (take (state_size n m) bytes))
