-- The fields of a state by their numbers, as they are written one after the other.
use Rattle.std.specs.Prelude.{ℕ, zero, suc, ◌+◌, ◌-◌, ◌*◌, nat_lt, List, [], ◌++◌, length, if◌then◌else◌}
use Rattle.pbd_world.specs.Bonds.{link_at}
use Rattle.pbd_world.specs.Particles.{particle_at}
use Rattle.pbd_world.specs.World.{World}
use Rattle.pbd_encoding.specs.Encoding.{head_bytes, at_bytes, before_bytes, held_bytes, live_bytes, first_totals_bytes, last_totals_bytes}

-- how many there are: the head, a place, a place before and a flag of each particle, a flag of each link, and two of totals
abbrev pub fields_of : ℕ → ℕ → ℕ
fields_of n m = 3 * n + m + 3

unfoldable pub field_bytes : List ℕ → World → ℕ → List ℕ
field_bytes scene w k =
    let n = length w.particles in
    let m = length w.links in
    if nat_lt k 1 then head_bytes scene w
    else (if nat_lt k (n + 1) then at_bytes (particle_at w.particles (k - 1))
    else (if nat_lt k (2 * n + 1) then before_bytes (particle_at w.particles (k - (n + 1)))
    else (if nat_lt k (3 * n + 1) then held_bytes (particle_at w.particles (k - (2 * n + 1)))
    else (if nat_lt k (3 * n + m + 1) then live_bytes (link_at w.links (k - (3 * n + 1)))
    else (if nat_lt k (3 * n + m + 2) then first_totals_bytes w.contacts w.totals
    else last_totals_bytes w.totals)))))

-- the first k fields
unfoldable pub fields_bytes : List ℕ → World → ℕ → List ℕ
fields_bytes scene w zero = []
fields_bytes scene w (suc k) = fields_bytes scene w k ++ field_bytes scene w k
