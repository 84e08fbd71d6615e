-- Texts that tell what they spell, whatever follows them.
use Rattle.std.proofs.Common.{◌≡◌, refl, sym, ap, ◌∙◌, ℕ, ◌^◌, ◌<◌, ℤ, List, [], ◌∷◌, ◌++◌, length, drop, map, append_assoc, arith}
use Rattle.std.specs.Prelude.{FitsSigned, slice_index}
use Rattle.std.specs.Int.{Width, w64, cast_signed, cast_unsigned}
use Rattle.std.specs.List.{flat_map, AllByRecursion}
use Rattle.std.proofs.lemmas.List.{drop_at, map-id}
use Rattle.std.proofs.Math.Facts.{to_z-of_z, Fits-of_z}
use Rattle.byteorder.specs.Endian.{big_number}
use Rattle.byteorder.specs.Numbers.{big_number-reads_back}
use Rattle.pbd_num.specs.declared.Vec3.{Vec3}
use Rattle.pbd_world.specs.Ledger.{Sum, SumFits}
use Rattle.pbd_log.specs.Entries.{number_bytes, signed_bytes, vector_bytes, VectorFits}
use Rattle.pbd_encoding.specs.Encoding.{wide_bytes, sum_bytes}
use Rattle.pbd_encoding.specs.Scene.{listed}
use Rattle.pbd_encoding.proofs.Axes.{Hold, eight, sixteen, axis_bytes}
use Rattle.pbd_log.proofs.Fields.{length-number}

-- where two texts go on as one, P holds, and so what follows is the same
pub record Tells (a b : List ℕ) (P : Type 0) : Type 0 where
  pub reads : (r s : List ℕ) → a ++ r ≡ b ++ s → P × (r ≡ s)

-- one text after another: what the first tells helps to read the second
pub then_tells : {a b c d : List ℕ} {P Q : Type 0} → Tells a b P → (P → Tells c d Q) → Tells (a ++ c) (b ++ d) (P × Q)
then_tells {a} {b} {c} {d} first second = record {
  reads = λ r s h.
      let p = first.reads (c ++ r) (d ++ s) (sym (append_assoc a c r) ∙ h ∙ append_assoc b d s) in
      let q = (second p.0).reads r s p.1 in
      ((p.0, q.0), q.1);
}

pub both_tell : {a b c d : List ℕ} {P Q : Type 0} → Tells a b P → Tells c d Q → Tells (a ++ c) (b ++ d) (P × Q)
both_tell first second = then_tells first (λ p. second)

-- what follows from what is told is told
pub tells_so : {a b : List ℕ} {P Q : Type 0} → Tells a b P → (P → Q) → Tells a b Q
tells_so tells so = record { reads = λ r s h. let p = tells.reads r s h in (so p.0, p.1) }

-- what is told where nothing follows, and behind a text that tells its own whatever follows it
pub told_alone : {a b : List ℕ} {P : Type 0} → Tells a b P → a ≡ b → P
told_alone tells e = (tells.reads [] [] (ap (λ (t : List ℕ). t ++ []) e)).0

pub told_last : {a b c d : List ℕ} {P Q : Type 0} → Tells a b P → (c ≡ d → Q) → a ++ c ≡ b ++ d → P × Q
told_last {a} {b} {c} {d} first last e = let p = first.reads c d e in (p.0, last p.1)

-- ---- numbers

pub number_tells : (n x y : ℕ) → x < 256 ^ n → y < 256 ^ n → Tells (number_bytes n x) (number_bytes n y) (x ≡ y)
unfolding number_bytes
number_tells n x y hx hy = record {
  reads = λ r s h. (
    sym (big_number-reads_back n x r hx) ∙ ap (big_number n) h ∙ big_number-reads_back n y s hy,
    sym (drop_at (number_bytes n x) r n (length-number n x)) ∙ ap (λ (t : List ℕ). drop n t) h
        ∙ drop_at (number_bytes n y) s n (length-number n y),
  );
}

pub byte_tells : (x y : ℕ) → Tells (x ∷ []) (y ∷ []) (x ≡ y)
byte_tells x y = record { reads = λ r s h. (ap (λ (t : List ℕ). slice_index t 0) h, ap (λ (t : List ℕ). drop 1 t) h) }

axis_tells : {w : Width} {n : ℕ} → Hold w n → (y z : ℤ) → FitsSigned w y → FitsSigned w z
    → Tells (axis_bytes w n y) (axis_bytes w n z) (y ≡ z)
axis_tells {w} {n} hold y z fy fz =
    let small_y = hold.small (cast_unsigned w y) (Fits-of_z fy) in
    let small_z = hold.small (cast_unsigned w z) (Fits-of_z fz) in
    tells_so (number_tells n (cast_unsigned w y) (cast_unsigned w z) small_y small_z)
    (λ e. sym (to_z-of_z fy) ∙ ap (cast_signed w) e ∙ to_z-of_z fz)

pub signed_tells : (y z : ℤ) → FitsSigned w64 y → FitsSigned w64 z → Tells (signed_bytes y) (signed_bytes z) (y ≡ z)
unfolding signed_bytes
signed_tells y z fy fz = axis_tells eight y z fy fz

-- ---- vectors and sums

pub vector_tells : (u v : Vec3) → VectorFits u → VectorFits v → Tells (vector_bytes u) (vector_bytes v) (u ≡ v)
unfolding vector_bytes
vector_tells u v fu fv =
    let x = signed_tells u.x v.x fu.0 fv.0 in
    let y = signed_tells u.y v.y fu.1 fv.1 in
    let z = signed_tells u.z v.z fu.2 fv.2 in
    tells_so (both_tell (both_tell x y) z) (λ e i. record { x = e.0.0 i; y = e.0.1 i; z = e.1 i })

pub sum_tells : (s t : Sum) → SumFits s → SumFits t → Tells (sum_bytes s) (sum_bytes t) (s ≡ t)
unfolding sum_bytes wide_bytes
sum_tells s t fs ft =
    let x = axis_tells sixteen s.x t.x fs.x ft.x in
    let y = axis_tells sixteen s.y t.y fs.y ft.y in
    let z = axis_tells sixteen s.z t.z fs.z ft.z in
    tells_so (both_tell (both_tell x y) z) (λ e i. record { x = e.0.0 i; y = e.0.1 i; z = e.1 i })

-- ---- lists

-- the text of an item tells its image under `seen`
abbrev pub EachTells : {A B : Type 0} → (A → List ℕ) → (A → B) → (A → Type 0) → Type 0
EachTells {A} {B} text seen Fit = (x y : A) → Fit x → Fit y → Tells (text x) (text y) (seen x ≡ seen y)

each_tell : {A B : Type 0} (text : A → List ℕ) (seen : A → B) (Fit : A → Type 0) (xs ys : List A) → EachTells text seen Fit
    → AllByRecursion Fit xs → AllByRecursion Fit ys → length xs ≡ length ys
    → Tells (flat_map text xs) (flat_map text ys) (map seen xs ≡ map seen ys)
each_tell text seen Fit [] [] each fx fy e = record { reads = λ r s h. (refl, h) }
each_tell text seen Fit [] (y ∷ ys) each fx fy e = absurd (omega (arith, e))
each_tell text seen Fit (x ∷ xs) [] each fx fy e = absurd (omega (arith, e))
each_tell text seen Fit (x ∷ xs) (y ∷ ys) each fx fy e =
    tells_so (both_tell (each x y fx.0 fy.0) (each_tell text seen Fit xs ys each fx.1 fy.1 (omega (arith, e)))) (λ p i. p.0 i ∷ p.1 i)

-- so many items as four bytes can count, each of which fits
pub record AreFew {A : Type 0} (Fit : A → Type 0) (xs : List A) : Type 0 where
  pub few : length xs < 2 ^ 32
  pub each : AllByRecursion Fit xs

pub list_tells : {A B : Type 0} (text : A → List ℕ) (seen : A → B) (Fit : A → Type 0) (xs ys : List A) → EachTells text seen Fit
    → AreFew Fit xs → AreFew Fit ys → Tells (listed text xs) (listed text ys) (map seen xs ≡ map seen ys)
list_tells text seen Fit xs ys each fx fy =
    let number = number_tells 4 (length xs) (length ys) (omega (arith, fx.few)) (omega (arith, fy.few)) in
    tells_so (then_tells number (λ e. each_tell text seen Fit xs ys each fx.each fy.each e)) (λ p. p.1)

-- items of which each is told in full
pub items_tell : {A : Type 0} (text : A → List ℕ) (Fit : A → Type 0) (xs ys : List A) → EachTells text (λ (x : A). x) Fit
    → AreFew Fit xs → AreFew Fit ys → Tells (listed text xs) (listed text ys) (xs ≡ ys)
items_tell {A} text Fit xs ys each fx fy =
    tells_so (list_tells text (λ (x : A). x) Fit xs ys each fx fy) (λ e. sym (map-id xs) ∙ e ∙ map-id ys)
