-- The near pairs that a filter keeps.
use Rattle.std.specs.Prelude.{ℕ, ◌*◌, ◌^◌, ◌<◌, nat_lt, ◌&&◌, Bool, ℤ, unsigned_abs, List, length, filter, slice_index_or}
use Rattle.pbd_num.specs.declared.Vec3.{Vec3}
use Rattle.pbd_num.specs.Vectors.{Within, zero_vector, minus, squared_length}
use Rattle.pbd_world.specs.Contacts.{all_pairs}

abbrev pub place_at : List Vec3 → ℕ → Vec3
place_at places i = slice_index_or places i zero_vector

-- each place is in range
abbrev pub AllInside : List Vec3 → Type 0
AllInside places = (i : ℕ) → i < length places → Within (2 ^ 29) (place_at places i)

-- two places are less than the thickness apart
abbrev pub is_near : ℤ → Vec3 → Vec3 → Bool
is_near thickness a b = nat_lt (squared_length (minus a b)) (unsigned_abs thickness * unsigned_abs thickness)

-- all pairs i < j of which the places are near and that the test keeps, in order
abbrev pub near_pairs : List Vec3 → ℤ → (ℕ → ℕ → Bool) → List (ℕ × ℕ)
near_pairs places thickness test =
    filter (λ pair. is_near thickness (place_at places pair.0) (place_at places pair.1) && test pair.0 pair.1)
    (all_pairs (length places))
