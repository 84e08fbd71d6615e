-- The bonds of a list, and their ranges.
use Rattle.std.specs.Prelude.{◌≢◌, ℕ, ◌<◌, ◌≤◌, ◌^◌, ℤ, pos, ◌≤ℤ◌, ◌*ℤ◌, length, unsigned_abs}
use Rattle.pbd_num.specs.declared.Vec3.{Vec3}
use Rattle.pbd_num.specs.Vectors.{Within, plus}
use Rattle.pbd_world.specs.declared.bond.Bond.{Bond}
use Rattle.pbd_world.specs.declared.bond.End.{End}
use Rattle.pbd_world.specs.declared.bond.Shift.{Shift}
use Rattle.pbd_world.specs.declared.bond.Correction.{Correction}
use Rattle.pbd_world.specs.declared.bond.Correction.TheVariants.{Slack, Leaves, Moves}
use Rattle.pbd_world.specs.Bonds.{link_bond, contact_bond}
use Rattle.pbd_pair.specs.declared.bonds.Bonds.{Bonds}
use Rattle.pbd_pair.specs.declared.bonds.Bonds.TheVariants.{Links, Contacts, LaidLinks, LaidContacts}

-- bond n
abbrev pub bond_of : Bonds → ℕ → Bond
bond_of (Links links) n = link_bond links.now n
bond_of (Contacts pairs thickness) n = contact_bond thickness pairs.now n
bond_of (LaidLinks links laid) n = link_bond links.now n
bond_of (LaidContacts pairs thickness laid) n = contact_bond thickness pairs.now n

-- how many bonds there are
abbrev pub bond_count : Bonds → ℕ
bond_count (Links links) = length links.now
bond_count (Contacts pairs thickness) = length pairs.now
bond_count (LaidLinks links laid) = length links.now
bond_count (LaidContacts pairs thickness laid) = length pairs.now

-- a limit in 0..=2^29
pub record IsBound (limit : ℤ) : Type 0 where
  pub low : pos 0 ≤ℤ limit
  pub high : limit ≤ℤ pos (2 ^ 29)
  pub size : unsigned_abs limit ≤ 2 ^ 29

-- a rest length in 0..=4*limit, and a stiffness in 0..=256
pub record HasPull (limit : ℤ) (b : Bond) : Type 0 where
  pub rest_low : pos 0 ≤ℤ b.rest
  pub rest_high : b.rest ≤ℤ (pos 4 *ℤ limit)
  pub k_low : pos 0 ≤ℤ b.k
  pub k_high : b.k ≤ℤ pos 256

-- two different ones of n particles, pulled to a distance
pub record IsBond (limit : ℤ) (n : ℕ) (b : Bond) : Type 0 where
  pub first : b.a < n
  pub second : b.b < n
  pub different : b.a ≢ b.b
  pub pulled : HasPull limit b

-- an end within the limit, of a weight in 0..=65,535
pub record IsEnd (limit : ℤ) (e : End) : Type 0 where
  pub at : Within (unsigned_abs limit) e.at
  pub low : pos 0 ≤ℤ e.weight
  pub high : e.weight ≤ℤ pos 65535

-- two moves, and the places to which they lead
abbrev pub shift_by : End → End → Vec3 → Vec3 → Shift
shift_by p q first second = record { first = plus p.at first; second = plus q.at second; first_move = first; second_move = second }

-- the new places are within the limit, and the moves short
pub record IsSoundShift (limit : ℤ) (s : Shift) : Type 0 where
  pub first : Within (unsigned_abs limit) s.first
  pub second : Within (unsigned_abs limit) s.second
  pub first_move : Within (2 ^ 31) s.first_move
  pub second_move : Within (2 ^ 31) s.second_move

abbrev pub IsSound : ℤ → Correction → Type 0
IsSound limit Slack = Unit {0}
IsSound limit Leaves = Unit {0}
IsSound limit (Moves s) = IsSoundShift limit s
