-- MoveSums of moves, and what they add to the ledger.
use Rattle.std.proofs.Common.{◌≡◌, ℕ, zero, suc, ◌+◌, ◌<◌, ◌^◌, ℤ, pos, neg_ℤ, ◌+ℤ◌, ◌-ℤ◌, List, refl, ap, ◌∙◌}
use Rattle.std.proofs.Common.{arith}
use Rattle.std.proofs.lemmas.Int.{ints}
use Rattle.pbd_num.specs.declared.Vec3.{Vec3}
use Rattle.pbd_num.specs.Vectors.{Within, plus, minus, opposite, zero_vector}
use Rattle.pbd_num.proofs.Ranges.{wider}
use Rattle.pbd_num.proofs.VectorSizes.{plus_within, minus_within}
use Rattle.pbd_world.specs.declared.totals.Class.{Class}
use Rattle.pbd_world.specs.declared.totals.Class.TheVariants as classes
use Rattle.pbd_world.specs.Ledger.{Sum, Ledger, Entry, sum_plus, added, booked}
use Rattle.pbd_pair.specs.Moves.{settled, moved_below}
use Rattle.std.proofs.Math.IntN.{+ℤ_assoc}

sum_then : (s : Sum) (v w : Vec3) → sum_plus (sum_plus s v) w ≡ sum_plus s (plus v w)
sum_then s v w = λ i. record { x = +ℤ_assoc s.x v.x w.x i; y = +ℤ_assoc s.y v.y w.y i; z = +ℤ_assoc s.z v.z w.z i }

-- two moves of one class
pub both_added : (t : Ledger) (class : Class) (v w : Vec3) → added (added t class v) class w ≡ added t class (plus v w)
both_added t classes.Gravity v w = ap (λ (s : Sum). record t { gravity = s }) (sum_then t.gravity v w)
both_added t classes.Damping v w = ap (λ (s : Sum). record t { damping = s }) (sum_then t.damping v w)
both_added t classes.Link v w = ap (λ (s : Sum). record t { link = s }) (sum_then t.link v w)
both_added t classes.Contact v w = ap (λ (s : Sum). record t { contact = s }) (sum_then t.contact v w)
both_added t classes.Pin v w = ap (λ (s : Sum). record t { pin = s }) (sum_then t.pin v w)
both_added t classes.Shape v w = ap (λ (s : Sum). record t { shape = s }) (sum_then t.shape v w)

pub plus_opposite : (s v : Vec3) → plus s (plus (opposite v) v) ≡ s
plus_opposite s v = λ i. record { x = back s.x v.x i; y = back s.y v.y i; z = back s.z v.z i } where
  back : (a b : ℤ) → a +ℤ (neg_ℤ b +ℤ b) ≡ a
  back a b = omega (arith, ints)

pub first_alone : (s v : Vec3) → plus s (plus v zero_vector) ≡ plus s v
first_alone s v = λ i. record { x = back s.x v.x i; y = back s.y v.y i; z = back s.z v.z i } where
  back : (a b : ℤ) → a +ℤ (b +ℤ pos 0) ≡ a +ℤ b
  back a b = omega (arith, ints)

pub second_alone : (s v : Vec3) → plus s (plus zero_vector v) ≡ plus s v
second_alone s v = λ i. record { x = back s.x v.x i; y = back s.y v.y i; z = back s.z v.z i } where
  back : (a b : ℤ) → a +ℤ (pos 0 +ℤ b) ≡ a +ℤ b
  back a b = omega (arith, ints)

pub both_none : (s : Vec3) → plus s (plus zero_vector zero_vector) ≡ s
both_none s = λ i. record { x = back s.x i; y = back s.y i; z = back s.z i } where
  back : (a : ℤ) → a +ℤ (pos 0 +ℤ pos 0) ≡ a
  back a = omega (arith, ints)

pub minus_turned : (v w : Vec3) → minus v w ≡ plus (opposite w) v
minus_turned v w = λ i. record { x = turn v.x w.x i; y = turn v.y w.y i; z = turn v.z w.z i } where
  turn : (a b : ℤ) → a -ℤ b ≡ neg_ℤ b +ℤ a
  turn a b = omega (arith, ints)

-- what two ends move more is at most 2^23 an axis where each of them moves by at most 2^22
pub both_within : {back forth : Vec3} (sum : Vec3) (n : ℕ) → Within n sum → Within (2 ^ 22) back → Within (2 ^ 22) forth
    → Within (n + 2 ^ 23) (plus sum (minus forth back))
both_within {back} {forth} sum n h b f = wider _ (n + (2 ^ 22 + 2 ^ 22)) (n + 2 ^ 23) (omega arith) (plus_within sum (minus forth back) n
    (2 ^ 22 + 2 ^ 22) h (minus_within forth back (2 ^ 22) (2 ^ 22) f b))

-- equal entries, and equal moves, one by one
pub settled_same : (e f : ℕ → List Entry) (n : ℕ) (t : Ledger) → ((k : ℕ) → k < n → (u : Ledger) → booked u (e k) ≡ booked u (f k))
    → settled e n t ≡ settled f n t
settled_same e f zero t h = refl
settled_same e f (suc n) t h =
    ap (λ (u : Ledger). booked u (e n)) (settled_same e f n t (λ k p u. h k (omega arith) u)) ∙ h n (omega arith) (settled f n t)

pub moved_same : (m k : ℕ → Vec3) (n : ℕ) → ((j : ℕ) → j < n → m j ≡ k j) → moved_below m n ≡ moved_below k n
moved_same m k zero e = refl
moved_same m k (suc n) e =
    let before = moved_same m k n (λ j p. e j (omega arith)) in
    let here = e n (omega arith) in
    λ i. plus (before i) (here i)

-- free ends alone
pub moved_nothing : (v : ℕ → Vec3) (n : ℕ) → moved_below (λ j. plus (opposite (v j)) (v j)) n ≡ zero_vector
moved_nothing v zero = refl
moved_nothing v (suc n) = plus_opposite (moved_below (λ j. plus (opposite (v j)) (v j)) n) (v n) ∙ moved_nothing v n
