-- Where blocks begin and end.
use Rattle.std.proofs.Common.{◌≡◌, ℕ, ◌+◌, ◌-◌, ◌*◌, ◌^◌, ◌<◌, ◌≤◌, min, arith}
use Rattle.std.proofs.Math.Nat.{div-mul-le_self, lt-div-mul-add, mul-le-mul_right}
use Rattle.pbd_store.specs.Blocks.{blocks_of}

-- each block begins before the end of the list
pub block_begins : (block m n : ℕ) → 0 < n → block < blocks_of m n → block * n < m
block_begins block m n some h =
    let more : (block + 1) * n ≤ blocks_of m n * n = mul-le-mul_right {m = block + 1} n (omega arith) in
    omega (arith, div-mul-le_self (m + n - 1) n, more)

-- the blocks hold all particles
pub all_held : (block m n : ℕ) → 0 < n → blocks_of m n ≤ block → m ≤ block * n
all_held block m n some h =
    let fits : blocks_of m n * n ≤ block * n = mul-le-mul_right {m = blocks_of m n} n h in
    omega (arith, lt-div-mul-add {a = m + n - 1} {b = n} some, fits)

pub next_start : (block n : ℕ) → (block + 1) * n ≡ block * n + n
next_start block n = omega arith

-- what a block books, after all before it
pub room_more : (n s next len lanes : ℕ) → s < len → next ≡ s + lanes
    → n + min s len * 2 ^ 31 + (min (s + lanes) len - s) * 2 ^ 31 ≤ n + min next len * 2 ^ 31
room_more n s next len lanes h e = omega arith

pub room_whole : (n s len : ℕ) → n + min s len * 2 ^ 31 ≤ n + len * 2 ^ 31
room_whole n s len = omega arith
