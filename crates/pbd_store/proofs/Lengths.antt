-- How many rows the columns of a list have.
use Rattle.std.proofs.Common.{◌≡◌, ℕ, ◌+◌, ◌≤◌, List, length, Bool, arith}
use Rattle.std.proofs.lemmas.List.FromFn.{length-map-range_with_len}
use Rattle.pbd_num.specs.declared.Vec3.{Vec3}
use Rattle.pbd_world.specs.declared.parts.Particle.{Particle}
use Rattle.pbd_store.specs.Listed.{listed, row, ArePadded}
use Rattle.pbd_store.proofs.Listing.{count_is}

module _ {n spare : ℕ} {at before : List Vec3} {weight : List ℕ} {held : List Bool} (h : ArePadded n spare at before weight held)
    {ps : List Particle} (e : listed n at before weight held ≡ ps) where
  -- those of a block
  pub rows_from : {A : Type 0} (xs : List A) (start : ℕ) → length xs ≡ n + spare → start ≤ length ps → start + spare ≤ length xs
  rows_from xs start long le = omega (arith, long, le, count_is h e)

-- a list has as many particles as its columns are told to have
pub listed_length : (n : ℕ) (at before : List Vec3) (weight : List ℕ) (held : List Bool) → length (listed n at before weight held) ≡ n
listed_length n at before weight held = length-map-range_with_len (row at before weight held) 0 n
