-- How many bytes each part of a state has.
use Rattle.std.proofs.Common.{◌≡◌, refl, ℕ, ◌+◌, ◌*◌, Bool, ℤ, List, [], ◌∷◌, ◌++◌, length, arith}
use Rattle.std.specs.Int.{Width, w128, cast_unsigned}
use Rattle.std.specs.List.{flat_map}
use Rattle.std.proofs.Math.Nat.{suc-mul}
use Rattle.std.proofs.lemmas.List.{length-append}
use Rattle.pbd_world.specs.Ledger.{Sum, Ledger}
use Rattle.pbd_world.specs.World.{World}
use Rattle.pbd_log.specs.Entries.{number_bytes, vector_bytes}
use Rattle.pbd_encoding.specs.Encoding.{wide_bytes, sum_bytes, name, header_bytes, header_of, head_bytes, flag_bytes, first_totals_bytes}
use Rattle.pbd_encoding.specs.Encoding.{last_totals_bytes}
use Rattle.pbd_encoding.proofs.Axes.{axis_bytes, axes_bytes}
use Rattle.pbd_log.proofs.Fields.{length-number, length-vector}

-- two parts, one after the other
pub two_long : (a b : List ℕ) (m n : ℕ) → length a ≡ m → length b ≡ n → length (a ++ b) ≡ m + n
two_long a b m n ea eb = omega (arith, length-append a b, ea, eb)

axes_long : (w : Width) (n : ℕ) (x y z : ℤ) → length (axes_bytes w n x y z) ≡ 3 * n
axes_long w n x y z =
    let first_two = two_long (axis_bytes w n x) (axis_bytes w n y) n n (length-number n (cast_unsigned w x)) (length-number n (cast_unsigned w y)) in
    omega (
      arith,
      two_long (axis_bytes w n x ++ axis_bytes w n y) (axis_bytes w n z) (n + n) n first_two (length-number n (cast_unsigned w z)),
    )

pub sum_long : (s : Sum) → length (sum_bytes s) ≡ 48
unfolding sum_bytes wide_bytes
sum_long s = axes_long w128 16 s.x s.y s.z

pub flag_long : (flag : Bool) → length (flag_bytes flag) ≡ 1
flag_long flag = refl

pub header_long : (scene : List ℕ) (n m : ℕ) (opening : Sum) → length scene ≡ 32 → length (header_bytes scene n m opening) ≡ 96
unfolding header_bytes
header_long scene n m opening e =
    let a = name ++ scene in
    let b = a ++ number_bytes 4 n in
    let c = b ++ number_bytes 4 m in
    two_long c (sum_bytes opening) 48 48
    (two_long b (number_bytes 4 m) 44 4
    (two_long a (number_bytes 4 n) 40 4 (two_long name scene 8 32 refl e) (length-number 4 n)) (length-number 4 m))
    (sum_long opening)

pub head_long : (scene : List ℕ) (w : World) → length scene ≡ 32 → length (head_bytes scene w) ≡ 128
unfolding head_bytes
head_long scene w e =
    let h = header_of scene w in
    let s = number_bytes 8 w.steps in
    let front = two_long h s 96 8 (header_long scene (length w.particles) (length w.links) w.opening e) (length-number 8 w.steps) in
    two_long (h ++ s) (vector_bytes w.gravity) 104 24 front (length-vector w.gravity)

pub first_totals_long : (contacts : ℕ) (t : Ledger) → length (first_totals_bytes contacts t) ≡ 148
unfolding first_totals_bytes
first_totals_long contacts t =
    let c = number_bytes 4 contacts in
    let g = sum_bytes t.gravity in
    let d = sum_bytes t.damping in
    two_long (c ++ g ++ d) (sum_bytes t.link) 100 48
    (two_long (c ++ g) d 52 48 (two_long c g 4 48 (length-number 4 contacts) (sum_long t.gravity)) (sum_long t.damping))
    (sum_long t.link)

pub last_totals_long : (t : Ledger) → length (last_totals_bytes t) ≡ 144
unfolding last_totals_bytes
last_totals_long t =
    let c = sum_bytes t.contact in
    let s = sum_bytes t.shape in
    two_long (c ++ s) (sum_bytes t.pin) 96 48 (two_long c s 48 48 (sum_long t.contact) (sum_long t.shape)) (sum_long t.pin)

-- as many bytes for each item
pub each_long : {A : Type 0} (f : A → List ℕ) (size : ℕ) (xs : List A) → ((x : A) → length (f x) ≡ size)
    → length (flat_map f xs) ≡ length xs * size
each_long f size [] long = let none : 0 ≡ 0 * size = omega arith in none
each_long f size (x ∷ xs) long =
    let more : length (x ∷ xs) * size ≡ length xs * size + size = suc-mul (length xs) size in
    omega (arith, length-append (f x) (flat_map f xs), long x, each_long f size xs long, more)

-- the items behind n bytes
pub longer_by_each : {A : Type 0} (a : List ℕ) (f : A → List ℕ) (n size : ℕ) (xs : List A) → length a ≡ n
    → ((x : A) → length (f x) ≡ size) → length (a ++ flat_map f xs) ≡ n + length xs * size
longer_by_each a f n size xs e long = two_long a (flat_map f xs) n (length xs * size) e (each_long f size xs long)
