-- The numbers of the links that tear, of those with a tear length, and of those that are gone.
use Rattle.std.specs.Prelude.{ℕ, ◌<◌, ◌≤◌, ◌^◌, pos, int_lt, unsigned_abs, List, length, filter, not, slice_index}
use Rattle.std.specs.List.{range_with_len}
use Rattle.std.specs.List.Sorted.{IsStrictlyIncreasing}
use Rattle.pbd_world.specs.declared.parts.Particle.{Particle}
use Rattle.pbd_world.specs.declared.parts.Link.{Link}
use Rattle.pbd_world.specs.Bonds.{link_at}
use Rattle.pbd_world.specs.Step.{is_torn}

-- the numbers of the links that tear, ascending
unfoldable pub torn_numbers : List Particle → List Link → List ℕ
torn_numbers ps links = filter (λ i. is_torn ps (link_at links i)) (range_with_len 0 (length links))

-- the numbers of the links with a tear length, ascending: no other link ever tears
unfoldable pub numbers_with_tear_length : List Link → List ℕ
numbers_with_tear_length links = filter (λ i. int_lt (pos 0) (link_at links i).tear) (range_with_len 0 (length links))

-- the numbers of the links that are live no longer, ascending
unfoldable pub gone_numbers : List Link → List ℕ
gone_numbers links = filter (λ i. not (link_at links i).live) (range_with_len 0 (length links))

-- numbers below n that ascend
pub record AscendTo (n : ℕ) (numbers : List ℕ) : Type 0 where
  pub rising : IsStrictlyIncreasing numbers
  pub within : (k : ℕ) → k < length numbers → slice_index numbers k < n

-- a link of n particles with a tear length at most 2^31 in size
pub record IsLink (n : ℕ) (link : Link) : Type 0 where
  pub a : link.a < n
  pub b : link.b < n
  pub tear : unsigned_abs link.tear ≤ 2 ^ 31
