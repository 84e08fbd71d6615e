-- A field that is read is the field that was written, and what was written is read again.
use Rattle.std.proofs.Common.{◌≡◌, ◌∙◌, sym, ap, subst, refl, ℕ, ◌^◌, ◌<◌, ◌≤◌, Bool, true, false, cond, ltb, ℤ, List, [], ◌∷◌, ◌++◌}
use Rattle.std.proofs.Common.{length, take, drop, Option, Some, None, append_assoc, append-nil, arith}
use Rattle.std.specs.Prelude.{FitsSigned}
use Rattle.std.specs.Int.{w64, cast_unsigned}
use Rattle.std.proofs.lemmas.Bool.{ltb-false, le-ltb}
use Rattle.std.proofs.lemmas.List.{drop_at, take-append-drop, length-append, length-take}
use Rattle.std.proofs.lemmas.List.Concat.{flat_map-cons}
use Rattle.std.proofs.Math.Facts.{of_z-to_z, to_z-of_z, sfits_to_z, Fits-of_z}
use Rattle.std.proofs.Common.{Fits}
use Rattle.byteorder.specs.Endian.{big_number, big_bytes}
use Rattle.byteorder.specs.Numbers.{big_from-take, big_from-lt, length-bytes_high_first, big_number-reads_back}
use Rattle.pbd_num.specs.declared.Vec3.{Vec3}
use Rattle.pbd_log.specs.Laws.{IsBytes}
use Rattle.pbd_log.specs.Entries.{number_bytes, signed_bytes, vector_bytes, axes_bytes, VectorFits, AreAxes}
use Rattle.pbd_log.specs.Reading.{◌>>=◌, number_at, signed_at, byte_at, vector_at, axes_at}
use Rattle.pbd_log.proofs.Numbers.{IsBytes-drop, IsBytes-take, IsBytes-rest, number_back}

-- how long fields are
pub length-number : (n x : ℕ) → length (number_bytes n x) ≡ n
unfolding number_bytes
length-number n x = length-bytes_high_first n x

pub length-signed : (z : ℤ) → length (signed_bytes z) ≡ 8
unfolding signed_bytes
length-signed z = length-number 8 (cast_unsigned w64 z)

pub length-vector : (v : Vec3) → length (vector_bytes v) ≡ 24
unfolding vector_bytes
length-vector v = omega (
  arith,
  length-append (signed_bytes v.x ++ signed_bytes v.y) (signed_bytes v.z),
  length-append (signed_bytes v.x) (signed_bytes v.y),
  length-signed v.x,
  length-signed v.y,
  length-signed v.z,
)

-- what a reader took from the front
pub record Takes (bytes text rest : List ℕ) : Type 0 where
  pub parts : bytes ≡ text ++ rest
  pub rest_fits : IsBytes rest

pub takes_then : (a x b y c : List ℕ) → Takes a x b → Takes b y c → Takes a (x ++ y) c
takes_then a x b y c p q = record {
  parts = p.parts ∙ ap (λ (t : List ℕ). x ++ t) q.parts ∙ sym (append_assoc x y c);
  rest_fits = q.rest_fits;
}

-- a reader of what has this spelling, and is fit to be spelled
pub record IsField {X : Type 0} (at : List ℕ → Option (X × List ℕ)) (spell : X → List ℕ) (Fits : X → Type 0) : Type 0 where
  pub takes : (bytes : List ℕ) (x : X) (rest : List ℕ) → IsBytes bytes → at bytes ≡ Some (x, rest) → Takes bytes (spell x) rest × Fits x
  pub again : (x : X) (rest : List ℕ) → Fits x → at (spell x ++ rest) ≡ Some (x, rest)

-- the value of a step that did not fail
pub bind_some : {A B : Type 0} (o : Option A) (f : A → Option B) (y : B) → (o >>= f) ≡ Some y → (x : A) × (o ≡ Some x) × (f x ≡ Some y)
bind_some (Some x) f y e = (x, refl, e)
bind_some None f y e = absurd cc

-- tests that did not fail
pub guard_none : {A : Type 0} (b : Bool) (o : Option A) (y : A) → cond b None o ≡ Some y → (b ≡ false) × (o ≡ Some y)
guard_none true o y e = absurd cc
guard_none false o y e = (refl, e)

pub guard_some : {A : Type 0} (b : Bool) (o : Option A) (y : A) → cond b o None ≡ Some y → (b ≡ true) × (o ≡ Some y)
guard_some true o y e = (refl, e)
guard_some false o y e = absurd cc

pub some_is : {A : Type 0} (x y : A) → (let some : A → Option A = λ a. Some a in some x ≡ some y) → x ≡ y
some_is x y e = cc

-- a step that took its field
pub step_takes : {X B : Type 0} (at : List ℕ → Option (X × List ℕ)) (spell : X → List ℕ) (Fits : X → Type 0) (field : IsField at spell Fits)
    (bytes : List ℕ) (f : X × List ℕ → Option B) (y : B) → IsBytes bytes → (at bytes >>= f) ≡ Some y
    → (x : X × List ℕ) × Takes bytes (spell x.0) x.1 × Fits x.0 × (f x ≡ Some y)
step_takes at spell Fits field bytes f y fits e =
    let b = bind_some (at bytes) f y e in
    let t = field.takes bytes b.0.0 b.0.1 fits b.1 in
    (b.0, t.0, t.1, b.2)

-- ---- numbers

number_takes : (n : ℕ) (bytes : List ℕ) (x : ℕ) (rest : List ℕ) → IsBytes bytes → number_at n bytes ≡ Some (x, rest)
    → Takes bytes (number_bytes n x) rest × (x < 256 ^ n)
unfolding number_at number_bytes
number_takes n bytes x rest fits e =
    let g = guard_none (ltb (length bytes) n) (Some (big_number n bytes, drop n bytes)) (x, rest) e in
    let long : n ≤ length bytes = ltb-false _ _ g.0 in
    let p = some_is (big_number n bytes, drop n bytes) (x, rest) g.1 in
    let x-is : big_number n bytes ≡ x = ap (λ (p : ℕ × List ℕ). p.0) p in
    let rest-is : drop n bytes ≡ rest = ap (λ (p : ℕ × List ℕ). p.1) p in
    let lt : big_number n bytes < 256 ^ n = big_from-lt 0 n bytes fits in
    let same : big_number n (take n bytes) ≡ big_number n bytes = big_from-take 0 n n bytes (omega arith) in
    let back : big_bytes n (big_number n (take n bytes)) ≡ take n bytes =
    number_back n (take n bytes) (IsBytes-take n bytes fits) (omega (arith, length-take n bytes)) in
    let front : big_bytes n (big_number n bytes) ≡ take n bytes = ap (λ (v : ℕ). big_bytes n v) (sym same) ∙ back in
    let parts : bytes ≡ big_bytes n (big_number n bytes) ++ drop n bytes = sym (take-append-drop n bytes)
    ∙ ap (λ (t : List ℕ). t ++ drop n bytes) (sym front) in
    subst (λ (q : ℕ × List ℕ). Takes bytes (big_bytes n q.0) q.1 × (q.0 < 256 ^ n)) p
    (record { parts = parts; rest_fits = IsBytes-drop n bytes fits }, lt)

number_again : (n x : ℕ) (rest : List ℕ) → x < 256 ^ n → number_at n (number_bytes n x ++ rest) ≡ Some (x, rest)
unfolding number_at number_bytes
number_again n x rest lt =
    let len : length (big_bytes n x) ≡ n = length-bytes_high_first n x in
    let long : ltb (length (big_bytes n x ++ rest)) n ≡ false = le-ltb _ _ (omega (arith, length-append (big_bytes n x) rest)) in
    rw (long, drop_at (big_bytes n x) rest n len, big_number-reads_back n x rest lt) refl

pub number_field : (n : ℕ) → IsField (number_at n) (number_bytes n) (λ x. x < 256 ^ n)
number_field n = record { takes = number_takes n; again = number_again n }

-- ---- signed numbers

signed_takes : (bytes : List ℕ) (z : ℤ) (rest : List ℕ) → IsBytes bytes → signed_at bytes ≡ Some (z, rest)
    → Takes bytes (signed_bytes z) rest × FitsSigned w64 z
unfolding signed_at signed_bytes
signed_takes bytes z rest fits e =
    let a = step_takes (number_at 8) (number_bytes 8) (λ x. x < 256 ^ 8) (number_field 8) bytes _ (z, rest) fits e in
    let f : Fits w64 a.0.0 = record { fits = a.2 } in
    subst (λ (q : ℤ × List ℕ). Takes bytes (number_bytes 8 (cast_unsigned w64 q.0)) q.1 × FitsSigned w64 q.0) (some_is _ _ a.3)
    (rw (of_z-to_z f) a.1, sfits_to_z f)

signed_again : (z : ℤ) (rest : List ℕ) → FitsSigned w64 z → signed_at (signed_bytes z ++ rest) ≡ Some (z, rest)
unfolding signed_at signed_bytes
signed_again z rest fits =
    let f : Fits w64 (cast_unsigned w64 z) = Fits-of_z fits in
    rw (number_again 8 (cast_unsigned w64 z) rest f.fits, to_z-of_z fits) refl

pub signed_field : IsField signed_at signed_bytes (FitsSigned w64)
signed_field = record { takes = signed_takes; again = signed_again }

pub regroup3 : (a b c d : List ℕ) → (a ++ b ++ c) ++ d ≡ a ++ (b ++ (c ++ d))
regroup3 a b c d = append_assoc (a ++ b) c d ∙ append_assoc a b (c ++ d)

-- three numbers one behind another, and what is made of them
abbrev three_at : {X : Type 0} → (ℤ → ℤ → ℤ → X) → List ℕ → Option (X × List ℕ)
three_at make bytes = do
  x ← signed_at bytes
  y ← signed_at x.1
  z ← signed_at y.1
  Some (make x.0 y.0 z.0, z.1)

record AreThree {X : Type 0} (make : ℤ → ℤ → ℤ → X) (bytes : List ℕ) (made : X) (rest : List ℕ) : Type 0 where
  x : ℤ
  y : ℤ
  z : ℤ
  is : make x y z ≡ made
  takes : Takes bytes (signed_bytes x ++ signed_bytes y ++ signed_bytes z) rest
  fits : FitsSigned w64 x × FitsSigned w64 y × FitsSigned w64 z

three_taken : {X : Type 0} (make : ℤ → ℤ → ℤ → X) (bytes : List ℕ) (made : X) (rest : List ℕ) → IsBytes bytes
    → three_at make bytes ≡ Some (made, rest) → AreThree make bytes made rest
three_taken {X} make bytes made rest fits e =
    let a = step_takes signed_at signed_bytes (FitsSigned w64) signed_field bytes _ (made, rest) fits e in
    let b = step_takes signed_at signed_bytes (FitsSigned w64) signed_field a.0.1 _ (made, rest) a.1.rest_fits a.3 in
    let c = step_takes signed_at signed_bytes (FitsSigned w64) signed_field b.0.1 _ (made, rest) b.1.rest_fits b.3 in
    let t = takes_then bytes (signed_bytes a.0.0 ++ signed_bytes b.0.0) b.0.1 (signed_bytes c.0.0) c.0.1
    (takes_then bytes (signed_bytes a.0.0) a.0.1 (signed_bytes b.0.0) b.0.1 a.1 b.1) c.1 in
    subst (λ (q : X × List ℕ). AreThree make bytes q.0 q.1) (some_is _ _ c.3)
    (record { x = a.0.0; y = b.0.0; z = c.0.0; is = refl; takes = t; fits = (a.2, b.2, c.2) })

vector_takes : (bytes : List ℕ) (v : Vec3) (rest : List ℕ) → IsBytes bytes → vector_at bytes ≡ Some (v, rest)
    → Takes bytes (vector_bytes v) rest × VectorFits v
unfolding vector_at vector_bytes
vector_takes bytes v rest fits e =
    let make : ℤ → ℤ → ℤ → Vec3 = λ x y z. record { x = x; y = y; z = z } in
    let read = three_taken make bytes v rest fits e in
    subst (λ (u : Vec3). Takes bytes (vector_bytes u) rest × VectorFits u) read.is (read.takes, read.fits)

vector_again : (v : Vec3) (rest : List ℕ) → VectorFits v → vector_at (vector_bytes v ++ rest) ≡ Some (v, rest)
unfolding vector_at vector_bytes
vector_again v rest fits =
    rw (
      regroup3 (signed_bytes v.x) (signed_bytes v.y) (signed_bytes v.z) rest,
      signed_again v.x (signed_bytes v.y ++ (signed_bytes v.z ++ rest)) fits.0,
      signed_again v.y (signed_bytes v.z ++ rest) fits.1,
      signed_again v.z rest fits.2,
    ) refl

pub vector_field : IsField vector_at vector_bytes VectorFits
vector_field = record { takes = vector_takes; again = vector_again }

three : (x y z : ℤ) → axes_bytes (x ∷ y ∷ z ∷ []) ≡ signed_bytes x ++ signed_bytes y ++ signed_bytes z
unfolding axes_bytes
three x y z = rw (flat_map-cons, flat_map-cons, flat_map-cons)
    (ap (λ (t : List ℕ). signed_bytes x ++ (signed_bytes y ++ t)) (append-nil (signed_bytes z))
    ∙ sym (append_assoc (signed_bytes x) (signed_bytes y) (signed_bytes z)))

axes_takes : (bytes : List ℕ) (zs : List ℤ) (rest : List ℕ) → IsBytes bytes → axes_at bytes ≡ Some (zs, rest)
    → Takes bytes (axes_bytes zs) rest × AreAxes zs
unfolding axes_at
axes_takes bytes zs rest fits e =
    let make : ℤ → ℤ → ℤ → List ℤ = λ x y z. x ∷ y ∷ z ∷ [] in
    let read = three_taken make bytes zs rest fits e in
    subst (λ (us : List ℤ). Takes bytes (axes_bytes us) rest × AreAxes us) read.is
    (rw (three read.x read.y read.z) read.takes, (refl, (read.fits.0, (read.fits.1, (read.fits.2, tt)))))

axes_again : (zs : List ℤ) (rest : List ℕ) → AreAxes zs → axes_at (axes_bytes zs ++ rest) ≡ Some (zs, rest)
unfolding axes_at
axes_again [] rest fits = absurd (omega (arith, fits.0))
axes_again (x ∷ []) rest fits = absurd (omega (arith, fits.0))
axes_again (x ∷ y ∷ []) rest fits = absurd (omega (arith, fits.0))
axes_again (x ∷ y ∷ z ∷ []) rest fits =
    let each = fits.1 in
    let behind_first = each.1 in
    let behind_second = behind_first.1 in
    rw (
      three x y z,
      regroup3 (signed_bytes x) (signed_bytes y) (signed_bytes z) rest,
      signed_again x (signed_bytes y ++ (signed_bytes z ++ rest)) each.0,
      signed_again y (signed_bytes z ++ rest) behind_first.0,
      signed_again z rest behind_second.0,
    ) refl
axes_again (x ∷ y ∷ z ∷ w ∷ zs) rest fits = absurd (omega (arith, fits.0))

pub axes_field : IsField axes_at axes_bytes AreAxes
axes_field = record { takes = axes_takes; again = axes_again }

byte_takes : (bytes : List ℕ) (b : ℕ) (rest : List ℕ) → IsBytes bytes → byte_at bytes ≡ Some (b, rest)
    → Takes bytes (b ∷ []) rest × (b < 256)
byte_takes [] b rest fits e = absurd cc
byte_takes (a ∷ bytes) b rest fits e =
    subst (λ (q : ℕ × List ℕ). Takes (a ∷ bytes) (q.0 ∷ []) q.1 × (q.0 < 256)) (some_is (a, bytes) (b, rest) e)
    (record { parts = refl; rest_fits = IsBytes-rest a bytes fits }, fits 0)

pub byte_field : IsField byte_at (λ b. b ∷ []) (λ b. b < 256)
byte_field = record { takes = byte_takes; again = λ b rest fits. refl }
