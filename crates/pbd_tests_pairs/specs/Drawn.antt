-- What tests ask of the particles, bonds, pairs and shapes that they draw, as tests that compute.
use Rattle.std.specs.Prelude.{ℕ, ◌^◌, ℤ, pos, nat_le, nat_lt, ◌==◌, ◌&&◌, not, Bool, true, false, List, [], ◌∷◌, length}
use Rattle.std.specs.List.{list_all}
use Rattle.pbd_world.specs.declared.parts.Particle.{Particle}
use Rattle.pbd_world.specs.declared.parts.ShapeLists.{ShapeLists}
use Rattle.pbd_world.specs.Shapes.{are_valid_shapes}
use Rattle.pbd_world.specs.Valid.{is_limit, are_valid_particles}
use Rattle.pbd_store.specs.declared.pairs.Pairs.{Pairs}
use Rattle.pbd_pair.specs.declared.bonds.Bonds.{Bonds}
use Rattle.pbd_pair.specs.declared.bonds.Bonds.TheVariants.{Links, Contacts, LaidLinks, LaidContacts}
use Rattle.pbd_pair.specs.Examples.{is_placed, is_batch}

-- no number stands twice
abbrev pub are_different : List ℕ → Bool
are_different [] = true
are_different (x ∷ xs) = list_all (λ y. not (x == y)) xs && are_different xs

-- no number is in both lists
abbrev pub share_none : List ℕ → List ℕ → Bool
share_none xs ys = list_all (λ x. list_all (λ y. not (x == y)) ys) xs

-- at most 128 pairs of n particles
abbrev pub are_pairs : ℕ → Pairs → Bool
are_pairs n pairs =
    nat_le (length pairs.first.now) 128
    && length pairs.second.now == length pairs.first.now
    && list_all (λ i. nat_lt i n) pairs.first.now
    && list_all (λ i. nat_lt i n) pairs.second.now

-- no particle is an end twice
abbrev pub are_apart : Pairs → Bool
are_apart pairs =
    are_different pairs.first.now
    && are_different pairs.second.now
    && share_none pairs.first.now pairs.second.now

-- particles within a limit, and at most 128 pairs of them, where no particle is an end twice
abbrev pub may_part : ℤ → List Particle → Pairs → Bool
may_part limit particles pairs =
    is_limit limit
    && are_valid_particles limit particles
    && are_pairs (length particles) pairs
    && are_apart pairs

-- particles within the greatest limit, and shapes that may push them
abbrev pub may_push : List Particle → ShapeLists → Bool
may_push particles lists = are_valid_particles (pos (2 ^ 29)) particles && are_valid_shapes (pos (2 ^ 29)) lists

-- bonds that come without columns
abbrev pub are_plain : Bonds → Bool
are_plain (Links links) = true
are_plain (Contacts pairs thickness) = true
are_plain (LaidLinks links laid) = false
are_plain (LaidContacts pairs thickness laid) = false

-- 2 to 65,536 particles within the greatest limit, and a batch of bonds of them that come without columns
abbrev pub may_project : List Particle → Bonds → List ℕ → Bool
may_project particles bonds batch =
    nat_le 2 (length particles)
    && nat_le (length particles) 65536
    && list_all (is_placed (pos (2 ^ 29))) particles
    && is_batch (pos (2 ^ 29)) (length particles) bonds batch
    && are_plain bonds
