-- What tests ask of the work that they do.
use Rattle.std.specs.Prelude.{ℕ, pos, ◌^◌, ◌==◌, ◌&&◌, Bool, List, length}
use Rattle.std.specs.List.{list_all}
use Rattle.pbd_world.specs.declared.parts.Particle.{Particle}
use Rattle.pbd_pair.specs.declared.bonds.Bonds.{Bonds}
use Rattle.pbd_pair.specs.Examples.{is_placed, is_batch}

-- six particles within 2^29, and a batch of bonds of them
abbrev pub may_stand : List Particle → Bonds → List ℕ → Bool
may_stand particles bonds batch =
    length particles == 6 && (list_all (is_placed (pos (2 ^ 29))) particles && is_batch (pos (2 ^ 29)) 6 bonds batch)
