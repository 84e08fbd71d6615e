-- Two ends of a bond, before and after it is projected once.
use Rattle.std.specs.Prelude.{◌≡◌, ℕ, ◌+◌, ◌/◌, ◌≤◌, pos, ◌<ℤ◌, ◌⊎◌}
use Rattle.pbd_num.specs.Vectors.{minus, length_of}
use Rattle.pbd_world.specs.declared.bond.End.{End}
use Rattle.pbd_world.specs.declared.bond.Shift.{Shift}

-- how far two ends are apart, rounded down
abbrev pub distance : End → End → ℕ
distance p q = length_of (minus p.at q.at)

abbrev pub distance_after : Shift → ℕ
distance_after s = length_of (minus s.first s.second)

-- one end is held, and the other is free
abbrev pub IsOneHeld : End → End → Type 0
IsOneHeld p q = ((p.weight ≡ pos 0) × (pos 0 <ℤ q.weight)) ⊎ ((q.weight ≡ pos 0) × (pos 0 <ℤ p.weight))

-- two free ends of one weight
abbrev pub AreEqual : End → End → Type 0
AreEqual p q = (p.weight ≡ q.weight) × (pos 0 <ℤ p.weight)

-- a length is as long as another but for `slack` units, and what a length `before` that was rounded down adds
pub record IsAbout (slack rest before now : ℕ) : Type 0 where
  pub low : rest ≤ now + slack
  pub high : now ≤ rest + rest / before + slack
