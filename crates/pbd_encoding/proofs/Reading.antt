-- A number or a flag that is read where it stands is what was written there.
use Rattle.std.proofs.Common.{◌≡◌, refl, sym, ap, ◌∙◌, ℕ, zero, suc, ◌+◌, ◌^◌, ◌<◌, ◌≤◌, ◌==◌, Bool, true, false, ℤ, List, [], ◌∷◌, ◌++◌}
use Rattle.std.proofs.Common.{◌*◌, length, drop, Some, arith, if◌then◌else◌}
use Rattle.std.specs.Prelude.{FitsSigned, nat_lt, slice_index}
use Rattle.std.specs.Int.{Width, cast_signed, cast_unsigned}
use Rattle.std.proofs.lemmas.Bool.{le-ltb}
use Rattle.std.proofs.lemmas.List.{drop-drop, drop_more, get_or-drop, length-drop}
use Rattle.std.proofs.Math.Facts.{of_z-to_z, to_z-of_z, Fits-of_z}
use Rattle.byteorder.specs.Endian.{big_number}
use Rattle.byteorder.specs.Numbers.{big_from-lt, big_number-reads_back}
use Rattle.pbd_num.specs.declared.Vec3.{Vec3}
use Rattle.pbd_world.specs.Ledger.{Sum, SumFits}
use Rattle.pbd_log.specs.Entries.{number_bytes, signed_bytes, vector_bytes, VectorFits}
use Rattle.pbd_log.specs.Laws.{IsBytes}
use Rattle.pbd_log.specs.Reading.{number_at}
use Rattle.pbd_log.proofs.Numbers.{IsBytes-drop}
use Rattle.pbd_log.proofs.Fields.{number_field, length-number}
use Rattle.pbd_encoding.specs.Described.{number_from, vector_from, sum_from}
use Rattle.pbd_encoding.specs.Encoding.{wide_bytes, sum_bytes, flag_bytes}
use Rattle.pbd_encoding.proofs.Axes.{Hold, eight, sixteen, axis_bytes, axes_bytes, axis_from}
use Rattle.pbd_encoding.proofs.Lengths.{two_long}
use Rattle.pbd_encoding.proofs.Standing.{Stands, both_stand, first_stands, second_stands}

-- ---- numbers

is_read : (n : ℕ) (bytes : List ℕ) → n ≤ length bytes → number_at n bytes ≡ Some (big_number n bytes, drop n bytes)
unfolding number_at
is_read n bytes le = rw (le-ltb (length bytes) n le) refl

pub number_stands : (n : ℕ) (bytes : List ℕ) (at : ℕ) → IsBytes bytes → at + n ≤ length bytes
    → Stands bytes at (number_bytes n (number_from n bytes at))
unfolding number_from
number_stands n bytes at fits long =
    let text = number_bytes n (number_from n bytes at) in
    let rest = drop at bytes in
    let read = is_read n rest (omega (arith, long, length-drop at bytes)) in
    let t = ((number_field n).takes rest (big_number n rest) (drop n rest) (IsBytes-drop at bytes fits) read).0 in
    let ends : at + n ≡ at + length text = omega (arith, length-number n (number_from n bytes at)) in
    t.parts ∙ ap (λ (more : List ℕ). text ++ more) (drop-drop n at bytes ∙ ap (λ (m : ℕ). drop m bytes) ends)

number_small : (n : ℕ) (bytes : List ℕ) (at : ℕ) → IsBytes bytes → number_from n bytes at < 256 ^ n
unfolding number_from
number_small n bytes at fits = big_from-lt 0 n (drop at bytes) (IsBytes-drop at bytes fits)

pub number_back : (n x : ℕ) (bytes : List ℕ) (at : ℕ) → Stands bytes at (number_bytes n x) → x < 256 ^ n → number_from n bytes at ≡ x
unfolding number_bytes number_from
number_back n x bytes at h lt = ap (big_number n) h ∙ big_number-reads_back n x _ lt

-- ---- axes, vectors and sums

axis_stands : {w : Width} {n : ℕ} → Hold w n → (bytes : List ℕ) (at : ℕ) → IsBytes bytes → at + n ≤ length bytes
    → Stands bytes at (axis_bytes w n (axis_from w n bytes at))
axis_stands {w} {n} hold bytes at fits long =
    rw (of_z-to_z (hold.fit (number_from n bytes at) (number_small n bytes at fits))) (number_stands n bytes at fits long)

axis_back : {w : Width} {n : ℕ} → Hold w n → (z : ℤ) (bytes : List ℕ) (at : ℕ) → Stands bytes at (axis_bytes w n z) → FitsSigned w z
    → axis_from w n bytes at ≡ z
axis_back {w} {n} hold z bytes at h fits =
    ap (cast_signed w) (number_back n (cast_unsigned w z) bytes at h (hold.small (cast_unsigned w z) (Fits-of_z fits))) ∙ to_z-of_z fits

two_axes_long : (w : Width) (n : ℕ) (x y : ℤ) → length (axis_bytes w n x ++ axis_bytes w n y) ≡ 2 * n
two_axes_long w n x y = omega (
  arith,
  two_long (axis_bytes w n x) (axis_bytes w n y) n n (length-number n (cast_unsigned w x)) (length-number n (cast_unsigned w y)),
)

axes_stand : {w : Width} {n : ℕ} → Hold w n → (bytes : List ℕ) (at : ℕ) → IsBytes bytes → at + 3 * n ≤ length bytes
    → Stands bytes at (axes_bytes w n (axis_from w n bytes at) (axis_from w n bytes (at + n)) (axis_from w n bytes (at + 2 * n)))
axes_stand {w} {n} hold bytes at fits long =
    let x = axis_from w n bytes at in
    let y = axis_from w n bytes (at + n) in
    both_stand bytes at (axis_bytes w n x ++ axis_bytes w n y) _ (2 * n) (two_axes_long w n x y)
    (both_stand bytes at (axis_bytes w n x) (axis_bytes w n y) n (length-number n (cast_unsigned w x))
    (axis_stands hold bytes at fits (omega (arith, long)))
    (axis_stands hold bytes (at + n) fits (omega (arith, long))))
    (axis_stands hold bytes (at + 2 * n) fits (omega (arith, long)))

axes_back : {w : Width} {n : ℕ} → Hold w n → (x y z : ℤ) (bytes : List ℕ) (at : ℕ) → Stands bytes at (axes_bytes w n x y z)
    → FitsSigned w x → FitsSigned w y → FitsSigned w z
    → (axis_from w n bytes at ≡ x) × (axis_from w n bytes (at + n) ≡ y) × (axis_from w n bytes (at + 2 * n) ≡ z)
axes_back {w} {n} hold x y z bytes at h fx fy fz =
    let a = axis_bytes w n x in let b = axis_bytes w n y in let c = axis_bytes w n z in
    let both = first_stands bytes at (a ++ b) c h in (
      axis_back hold x bytes at (first_stands bytes at a b both) fx,
      axis_back hold y bytes (at + n) (second_stands bytes at a b n (length-number n (cast_unsigned w x)) both) fy,
      axis_back hold z bytes (at + 2 * n) (second_stands bytes at (a ++ b) c (2 * n) (two_axes_long w n x y) h) fz,
    )

pub vector_stands : (bytes : List ℕ) (at : ℕ) → IsBytes bytes → at + 24 ≤ length bytes
    → Stands bytes at (vector_bytes (vector_from bytes at))
unfolding vector_bytes signed_bytes vector_from
vector_stands bytes at fits long = axes_stand eight bytes at fits long

pub vector_back : (v : Vec3) (bytes : List ℕ) (at : ℕ) → Stands bytes at (vector_bytes v) → VectorFits v → vector_from bytes at ≡ v
unfolding vector_bytes signed_bytes vector_from
vector_back v bytes at h fits =
    let e = axes_back eight v.x v.y v.z bytes at h fits.0 fits.1 fits.2 in
    λ i. record { x = e.0 i; y = e.1 i; z = e.2 i }

pub sum_stands : (bytes : List ℕ) (at : ℕ) → IsBytes bytes → at + 48 ≤ length bytes → Stands bytes at (sum_bytes (sum_from bytes at))
unfolding sum_bytes wide_bytes sum_from
sum_stands bytes at fits long = axes_stand sixteen bytes at fits long

pub sum_back : (s : Sum) (bytes : List ℕ) (at : ℕ) → Stands bytes at (sum_bytes s) → SumFits s → sum_from bytes at ≡ s
unfolding sum_bytes wide_bytes sum_from
sum_back s bytes at h fits =
    let e = axes_back sixteen s.x s.y s.z bytes at h fits.x fits.y fits.z in
    λ i. record { x = e.0 i; y = e.1 i; z = e.2 i }

-- ---- flags

-- a flag's byte, and the flag that it tells
pub flag_byte : (bytes : List ℕ) (at : ℕ) (flag : Bool) → Stands bytes at (flag_bytes flag) → slice_index bytes at ≡ (if flag then 1 else 0)
flag_byte bytes at flag h =
    let e : at + 0 ≡ at = omega arith in
    sym (ap (λ (i : ℕ). slice_index bytes i) e) ∙ sym (get_or-drop at bytes 0 0) ∙ ap (λ (t : List ℕ). slice_index t 0) h

is_set : (b : ℕ) (flag : Bool) → b ≡ (if flag then 1 else 0) → (b == 1) ≡ flag
is_set b true e = ap (λ (k : ℕ). k == 1) e
is_set b false e = ap (λ (k : ℕ). k == 1) e

pub flag_back : (bytes : List ℕ) (at : ℕ) (flag : Bool) → Stands bytes at (flag_bytes flag) → (slice_index bytes at == 1) ≡ flag
flag_back bytes at flag h = is_set (slice_index bytes at) flag (flag_byte bytes at flag h)

is_small : (b : ℕ) (flag : Bool) → b ≡ (if flag then 1 else 0) → nat_lt 1 b ≡ false
is_small b true e = ap (λ (k : ℕ). nat_lt 1 k) e
is_small b false e = ap (λ (k : ℕ). nat_lt 1 k) e

pub flag_small : (bytes : List ℕ) (at : ℕ) (flag : Bool) → Stands bytes at (flag_bytes flag) → nat_lt 1 (slice_index bytes at) ≡ false
flag_small bytes at flag h = is_small (slice_index bytes at) flag (flag_byte bytes at flag h)

flag_is : (b : ℕ) → b ≤ 1 → flag_bytes (b == 1) ≡ b ∷ []
flag_is zero h = refl
flag_is (suc zero) h = refl
flag_is (suc (suc b)) h = absurd (omega (arith, h))

pub flag_stands : (bytes : List ℕ) (at : ℕ) → at < length bytes → slice_index bytes at ≤ 1
    → Stands bytes at (flag_bytes (slice_index bytes at == 1))
flag_stands bytes at within small =
    drop_more bytes at 0 within ∙ sym (ap (λ (t : List ℕ). t ++ drop (at + 1) bytes) (flag_is (slice_index bytes at) small))
