-- What bonds move their ends by, wherever that leads.
use Rattle.std.specs.Prelude.{ℕ, zero, suc, ℤ, pos, int_le, Bool, ◌&&◌, if◌then◌else◌, List}
use Rattle.pbd_num.specs.declared.Vec3.{Vec3}
use Rattle.pbd_num.specs.Vectors.{plus, minus, length_of, is_within, zero_vector}
use Rattle.pbd_num.specs.PairMove.{pair_moves}
use Rattle.pbd_world.specs.declared.parts.Particle.{Particle}
use Rattle.pbd_world.specs.declared.bond.Bond.{Bond}
use Rattle.pbd_world.specs.declared.bond.End.{End}
use Rattle.pbd_world.specs.Ledger.{Ledger, Entry, booked}
use Rattle.pbd_world.specs.Particles.{particle_at}
use Rattle.pbd_world.specs.Bonds.{end_of, entries_of, class_of}
use Rattle.pbd_pair.specs.Bonds.{shift_by}

-- the moves of two ends of these weights by a bond, with that way from the second to the first: none where it is slack
unfoldable pub moves_by : Vec3 → ℤ → ℤ → Bond → Vec3 × Vec3
moves_by way first second bond = if bond.contact && int_le bond.rest (pos (length_of way))
    then (zero_vector, zero_vector)
    else pair_moves way zero_vector bond.rest bond.k first second

-- the same of two ends
abbrev pub moves_of : End → End → Bond → Vec3 × Vec3
moves_of p q bond = moves_by (minus p.at q.at) p.weight q.weight bond

-- the same of a bond's two particles of a list
abbrev pub moves_at : List Particle → Bond → Vec3 × Vec3
moves_at ps bond = moves_of (end_of (particle_at ps bond.a)) (end_of (particle_at ps bond.b)) bond

-- both ends of a bond of a list are within the limit once they have moved
abbrev pub stay_at : ℤ → List Particle → Bond → Bool
stay_at limit ps bond = is_within limit (plus (particle_at ps bond.a).at (moves_at ps bond).0)
    && is_within limit (plus (particle_at ps bond.b).at (moves_at ps bond).1)

-- the entries of a bond of a list
abbrev pub entries_at : List Particle → Bond → List Entry
entries_at ps bond = entries_of (particle_at ps bond.a).held (particle_at ps bond.b).held (class_of bond)
    (shift_by (end_of (particle_at ps bond.a)) (end_of (particle_at ps bond.b)) (moves_at ps bond).0 (moves_at ps bond).1)

-- the ledger with the entries of the first n bonds
abbrev pub settled : (ℕ → List Entry) → ℕ → Ledger → Ledger
settled entries zero t = t
settled entries (suc n) t = booked (settled entries n t) (entries n)

-- what the first n of some moves come to together
abbrev pub moved_below : (ℕ → Vec3) → ℕ → Vec3
moved_below move zero = zero_vector
moved_below move (suc n) = plus (moved_below move n) (move n)
