-- Whether an example meets what a projector asks, as tests that compute.
use Rattle.std.specs.Prelude.{ℕ, ℤ, pos, ◌*ℤ◌, int_le, nat_le, nat_lt, ◌==◌, Bool, true, not, ◌&&◌, List, [], ◌∷◌}
use Rattle.std.specs.List.{list_all}
use Rattle.pbd_num.specs.Vectors.{is_within}
use Rattle.pbd_world.specs.declared.parts.Particle.{Particle}
use Rattle.pbd_world.specs.declared.bond.Bond.{Bond}
use Rattle.pbd_pair.specs.declared.bonds.Bonds.{Bonds}
use Rattle.pbd_pair.specs.Bonds.{bond_of, bond_count}

-- a place within the limit, and a weight in 1..=65,535
abbrev pub is_placed : ℤ → Particle → Bool
is_placed limit p = is_within limit p.at && (nat_le 1 p.weight && nat_le p.weight 65535)

abbrev pub has_pull : ℤ → Bond → Bool
has_pull limit b = int_le (pos 0) b.rest && (int_le b.rest (pos 4 *ℤ limit) && (int_le (pos 0) b.k && int_le b.k (pos 256)))

-- a bond of two different ones of n particles
abbrev pub is_bond : ℤ → ℕ → Bond → Bool
is_bond limit n b = nat_lt b.a n && (nat_lt b.b n && (not (b.a == b.b) && has_pull limit b))

abbrev pub share_none : Bond → Bond → Bool
share_none b c = not (b.a == c.a) && (not (b.a == c.b) && (not (b.b == c.a) && not (b.b == c.b)))

-- the numbers name bonds, no two with a common particle
abbrev pub is_batch : ℤ → ℕ → Bonds → List ℕ → Bool
is_batch limit n bonds [] = true
is_batch limit n bonds (x ∷ xs) =
    nat_lt x (bond_count bonds)
    && (is_bond limit n (bond_of bonds x)
    && (list_all (λ y. share_none (bond_of bonds x) (bond_of bonds y)) xs
    && is_batch limit n bonds xs))
