-- Numbers in their ranges fit the bytes that are written of them.
use Rattle.std.proofs.Common.{ℕ, ◌<◌, ◌≤◌, ◌^◌, Bool, ◌&&◌, List, [], ◌∷◌, length, arith, ℤ, pos, unsigned_abs}
use Rattle.std.specs.Prelude.{IsTrue, FitsSigned, nat_le}
use Rattle.std.specs.Int.{w64, w128}
use Rattle.std.specs.List.{AllByRecursion, list_all}
use Rattle.std.proofs.lemmas.Int.{fits_signed_from_abs}
use Rattle.std.proofs.lemmas.Bool.{and_parts, leb-true}
use Rattle.pbd_num.specs.declared.Vec3.{Vec3}
use Rattle.pbd_num.specs.Vectors.{Within, is_within}
use Rattle.pbd_num.proofs.Ranges.{within_facts}
use Rattle.pbd_num.proofs.Sizes.{fits, size_at_most}
use Rattle.pbd_world.specs.Ledger.{Sum, SumWithin, SumFits}
use Rattle.pbd_world.specs.Valid.{is_between}
use Rattle.pbd_world.proofs.KeptLemmas.{IsLimit}
use Rattle.pbd_world.proofs.ValidLinks.{between_facts}
use Rattle.pbd_log.specs.Entries.{VectorFits}
use Rattle.pbd_encoding.proofs.Texts.{AreFew}

pub vector_fits : (v : Vec3) (b : ℕ) → b < 2 ^ 63 → Within b v → VectorFits v
vector_fits v b lt h = (fits v.x (omega (arith, lt, h.x)), fits v.y (omega (arith, lt, h.y)), fits v.z (omega (arith, lt, h.z)))

wide_fits : (z : ℤ) → unsigned_abs z ≤ 2 ^ 99 → FitsSigned w128 z
wide_fits z h = fits_signed_from_abs w128 z (omega (arith, h))

pub sum_fits : (s : Sum) → SumWithin (2 ^ 99) s → SumFits s
sum_fits s h = record { x = wide_fits s.x h.x; y = wide_fits s.y h.y; z = wide_fits s.z h.z }

pub inside_fits : (limit : ℤ) (v : Vec3) → IsLimit limit → IsTrue (is_within limit v) → VectorFits v
inside_fits limit v lim h =
    let w = (within_facts limit v lim.low).0 h in
    vector_fits v (unsigned_abs limit) (omega (arith, lim.high)) w

pub between_fits : (high : ℕ) (z : ℤ) → high < 2 ^ 63 → IsTrue (is_between (pos 0) (pos high) z) → FitsSigned w64 z
between_fits high z lt h =
    let f = (between_facts (pos 0) (pos high) z).0 h in
    fits z (omega (arith, lt, size_at_most z high f.0 f.1))

-- what a test of each item says of it
each_from : {A : Type 0} (test : A → Bool) (Fit : A → Type 0) (xs : List A) → ((x : A) → IsTrue (test x) → Fit x)
    → IsTrue (list_all test xs)
    → AllByRecursion Fit xs
each_from test Fit [] so h = tt
each_from test Fit (x ∷ xs) so h = let p = and_parts (test x) (list_all test xs) h in (so x p.0, each_from test Fit xs so p.1)

-- items of which each is tested, and no more than four bytes can count
pub few_from : {A : Type 0} (n : ℕ) (test : A → Bool) (Fit : A → Type 0) (xs : List A) → n < 2 ^ 32 → ((x : A) → IsTrue (test x) → Fit x)
    → IsTrue (nat_le (length xs) n && list_all test xs)
    → AreFew Fit xs
few_from n test Fit xs few so h =
    let p = and_parts (nat_le (length xs) n) (list_all test xs) h in
    record { few = omega (arith, few, leb-true (length xs) n p.0); each = each_from test Fit xs so p.1 }
