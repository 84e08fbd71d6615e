-- How many pieces hold so many items.
use Rattle.std.proofs.Common.{◌≡◌, ap, Bool, ℕ, zero, suc, ◌+◌, ◌-◌, ◌*◌, ◌/◌, ◌<◌, ◌≤◌, arith}
use Rattle.std.specs.Prelude.{nat_lt, cond}
use Rattle.std.proofs.Math.Nat.{div-mul-le_self, lt-div-mul-add, mul-le-mul_left, zero-div}
use Rattle.std.proofs.lemmas.Bool.{lt-ltb}
use Rattle.std.proofs.lemmas.Nat.{div_below, le-div}
use Rattle.pbd_world.specs.Work.{pieces_of}

pub pieces_hold : (m n : ℕ) → 0 < n → m ≤ pieces_of m n * n
pieces_hold m n some = omega (arith, some, lt-div-mul-add {a = m + n - 1} {b = n} some)

-- no fewer hold them
pub pieces_least : (m n k : ℕ) → 0 < n → m ≤ k * n → pieces_of m n ≤ k
pieces_least m n k some h = let below : pieces_of m n < k + 1 = div_below (m + n - 1) n (k + 1) some (omega (arith, some, h)) in
    omega (arith, below)

-- longer pieces are no more
pub pieces_fewer : (m n o : ℕ) → 0 < n → n ≤ o → pieces_of m o ≤ pieces_of m n
pieces_fewer m n o some h = pieces_least m o (pieces_of m n) (omega (arith, some, h))
    (omega (arith, pieces_hold m n some, mul-le-mul_left {m = n} {n = o} (pieces_of m n) h))

pub pieces_each : (m n : ℕ) → 0 < n → pieces_of m n ≤ m
pieces_each m n some = pieces_least m n m some (omega (arith, mul-le-mul_left {m = 1} {n = n} m (omega (arith, some))))

-- one item takes one piece at most, also where a piece has no length
pub pieces_one : (n : ℕ) → pieces_of 1 n ≤ 1
pieces_one zero = rw (zero-div 0) (omega arith)
pieces_one (suc n) = pieces_least 1 (suc n) 1 (omega arith) (omega arith)

-- one where there is an item, and none else
abbrev pub some_of : ℕ → ℕ
some_of m = cond (nat_lt 0 m) 1 0

some_there : (m : ℕ) → some_of (suc m) ≡ 1
some_there m = ap (λ (b : Bool). cond {A = ℕ} b 1 0) (lt-ltb 0 (suc m) (omega arith))

-- pieces of twice the length are at most half as many, one aside
pub pieces_half : (m n : ℕ) → 0 < n → 2 * pieces_of m (2 * n) ≤ pieces_of m n + some_of m
pieces_half zero n some = omega (arith, pieces_each 0 (2 * n) (omega (arith, some)))
pieces_half (suc m) n some =
    let k : ℕ = pieces_of (suc m) n in
    let fits : suc m ≤ k * n = pieces_hold (suc m) n some in
    let wide : k * n ≤ (2 * ((k + 1) / 2)) * n = mul_right k (2 * ((k + 1) / 2)) n (omega arith) in
    let least : pieces_of (suc m) (2 * n) ≤ (k + 1) / 2 = pieces_least (suc m) (2 * n) ((k + 1) / 2) (omega (arith, some))
    (omega (arith, fits, wide)) in
    omega (arith, least, some_there m)
  where
    mul_right : (a b c : ℕ) → a ≤ b → a * c ≤ b * c
    mul_right a b c h = omega (arith, mul-le-mul_left {m = a} {n = b} c h)

-- as many as there are whole pieces, and one more
pub pieces_some : (m n : ℕ) → 0 < n → pieces_of m n ≤ m / n + some_of m
pieces_some zero n some = omega (arith, pieces_each 0 n some)
pieces_some (suc m) n some = omega (
  arith,
  some_there m,
  pieces_least (suc m) n (suc m / n + 1) some (omega (arith, lt-div-mul-add {a = suc m} {b = n} some)),
)

-- whole pieces of two parts are pieces of both together
pub whole_pieces : (m k n : ℕ) → 0 < n → m / n + k / n ≤ (m + k) / n
whole_pieces m k n some = le-div (m / n + k / n) (m + k) n some (omega (arith, div-mul-le_self m n, div-mul-le_self k n))
