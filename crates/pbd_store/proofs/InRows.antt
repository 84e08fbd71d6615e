-- Places in halves, and the list that they are.
use Rattle.std.proofs.Common.{◌≡◌, ℕ, ℤ, ◌+◌, ◌*◌, ◌/◌, ◌%◌, ◌<◌, ◌≤◌, ◌^◌, ◌+ℤ◌, ◌-ℤ◌, ◌<ℤ◌, ◌≤ℤ◌, pos, negsuc, unsigned_abs, zero, suc}
use Rattle.std.proofs.Common.{List, [], ◌∷◌, ◌++◌, length, get_or, slice_set, replicate, refl, sym, ◌∙◌, ap, subst, arith, inl, inr}
use Rattle.std.proofs.Common.{w32, w64, FitsSigned}
use Rattle.std.proofs.lemmas.Bool.{cases_lt}
use Rattle.std.proofs.lemmas.Int.{ints}
use Rattle.std.proofs.lemmas.List.{get_or-set_same, get_or-set_other, get_or_past, length-map, length-set, length-replicate}
use Rattle.std.proofs.lemmas.List.{replicate-append-replicate}
use Rattle.std.proofs.lemmas.List.FromFn.{get_or-map-range_with_len, length-map-range_with_len}
use Rattle.pbd_num.proofs.Sizes.{fits}
use Rattle.pbd_num.specs.declared.Vec3.{Vec3}
use Rattle.pbd_num.specs.Vectors.{Within, zero_vector}
use Rattle.pbd_lanes.specs.Lane.{lanes_of}
use Rattle.pbd_store.specs.declared.rows.High.{High}
use Rattle.pbd_store.specs.declared.rows.Place.{Place}
use Rattle.pbd_store.specs.InRows.{row_of, place_in_row, places_in, row_at, place_in, no_high, high_at, axis_of, place_by, places_by, AreFlat}
use Rattle.pbd_store.specs.Listed.{place_at}
use Rattle.pbd_store.proofs.Listing.{any_default, padded_past, written}

-- ---- halves

-- an axis within 2^30 has no high half, and is its low one
high_none : (low : ℤ) (high : ℕ) → unsigned_abs (axis_of low high) ≤ 2 ^ 30 → high ≡ 0
unfolding axis_of
high_none (pos n) high h = omega arith
high_none (negsuc n) high h = omega arith

axis_alone : (low : ℤ) → axis_of low 0 ≡ low
unfolding axis_of
axis_alone (pos n) = ap (λ (m : ℕ). pos m) (omega arith)
axis_alone (negsuc n) = ap (λ (m : ℕ). negsuc m) (omega arith)

pub none_high : (v : Vec3) (h : High) → Within (2 ^ 30) (place_by v h) → h ≡ no_high
none_high v h w = λ t. record { x = high_none v.x h.x w.x t; y = high_none v.y h.y w.y t; z = high_none v.z h.z w.z t }

pub place_alone : (v : Vec3) → place_by v no_high ≡ v
place_alone v = λ t. record { x = axis_alone v.x t; y = axis_alone v.y t; z = axis_alone v.z t }

pub low_alone : (v : Vec3) (h : High) → Within (2 ^ 30) (place_by v h) → place_by v h ≡ v
low_alone v h w = ap (place_by v) (none_high v h w) ∙ place_alone v

-- what an axis below 0 is away from -1
pub below_size : (axis : ℤ) → axis <ℤ pos 0 → axis ≡ negsuc (unsigned_abs (negsuc 0 -ℤ axis))
below_size (pos n) h = absurd (omega (arith, ints))
below_size (negsuc n) h = omega (arith, ints)

pub below_fits : (axis : ℤ) → FitsSigned w64 axis → axis <ℤ pos 0 → FitsSigned w64 (negsuc 0 -ℤ axis)
below_fits (pos n) f h = absurd (omega (arith, ints))
below_fits (negsuc n) f h = fits (negsuc 0 -ℤ negsuc n) (omega (arith, ints, f.sfits))

-- an axis is that of its halves
pub halves_above : (n : ℕ) → axis_of (pos (n % 2 ^ 31)) (n / 2 ^ 31) ≡ pos n
unfolding axis_of
halves_above n = ap (λ (m : ℕ). pos m) (omega arith)

pub halves_below : (n : ℕ) → axis_of (negsuc (n % 2 ^ 31)) (n / 2 ^ 31) ≡ negsuc n
unfolding axis_of
halves_below n = ap (λ (m : ℕ). negsuc m) (omega arith)

-- the axis of two halves fits 64 bits
pub axis_fits : (low : ℤ) (high : ℕ) → FitsSigned w32 low → high < 2 ^ 32 → FitsSigned w64 (axis_of low high)
unfolding axis_of
axis_fits (pos n) high f h = record { sfits = omega (arith, f.sfits, h) }
axis_fits (negsuc n) high f h = record { sfits = omega (arith, f.sfits, h) }

pub joined_below : (low : ℤ) (high : ℕ) → low <ℤ pos 0 → low -ℤ pos (high * 2147483648) ≡ axis_of low high
unfolding axis_of
joined_below (pos n) high h = absurd (omega (arith, ints))
joined_below (negsuc n) high h = omega (arith, ints)

pub joined_above : (low : ℤ) (high : ℕ) → pos 0 ≤ℤ low → low +ℤ pos (high * 2147483648) ≡ axis_of low high
unfolding axis_of
joined_above (pos n) high h = omega (arith, ints)
joined_above (negsuc n) high h = absurd (omega (arith, ints))

-- ---- lists of halves

pub by_long : (low : List Place) (high : List High) → length (places_by low high) ≡ length low
by_long low high = length-map-range_with_len (λ (k : ℕ). place_by (place_in low k) (high_at high k)) 0 (length low)

pub seen_by : (low : List Place) (high : List High) → length high ≡ length low → (k : ℕ)
    → place_at (places_by low high) k ≡ place_by (place_in low k) (high_at high k)
seen_by low high long k = elim (cases_lt k (length low)) [
  | inl p ↦ get_or-map-range_with_len (λ (i : ℕ). place_by (place_in low i) (high_at high i)) 0 (length low) k k zero_vector p (omega arith)
  | inr q ↦ get_or_past (places_by low high) k zero_vector (omega (arith, by_long low high)) ∙ sym (place_alone zero_vector)
      ∙ sym (λ t. place_by (place_in_row (get_or_past low k (row_of zero_vector) q t)) (get_or_past high k no_high (omega (arith, long)) t))
]

-- the place in a row
pub place_seen : (rows : List Place) (j : ℕ) → place_at (places_in rows) j ≡ place_in rows j
place_seen [] j = refl
place_seen (p ∷ rows) zero = refl
place_seen (p ∷ rows) (suc j) = place_seen rows j

module _ (low : List Place) (high : List High) (long : length high ≡ length low) where
  -- where it is within 2^30, the place that another low row makes of its high half is that of the row
  pub low_seen : (new : List Place) → length new ≡ length low → (k : ℕ) → Within (2 ^ 30) (place_at (places_by low high) k)
      → place_at (places_by new high) k ≡ place_at (places_in new) k
  low_seen new same k w =
      let none = none_high (place_in low k) (high_at high k) (subst (λ (v : Vec3). Within (2 ^ 30) v) (seen_by low high long k) w) in
      seen_by new high (long ∙ sym same) k ∙ ap (place_by (place_in new k)) none ∙ place_alone (place_in new k) ∙ sym (place_seen new k)

  -- what is an index of the places is one of both lists
  pub low_near : {vs : List Vec3} {k : ℕ} → places_by low high ≡ vs → k < length vs → k < length low
  low_near view h = omega (arith, h, ap (λ (us : List Vec3). length us) view, by_long low high)

  pub high_near : {vs : List Vec3} {k : ℕ} → places_by low high ≡ vs → k < length vs → k < length high
  high_near view h = omega (arith, low_near view h, long)

  -- the same of rows that were lent
  pub lent_seen : {vs : List Vec3} {rows : List Place} → places_by low high ≡ vs → rows ≡ low → (k : ℕ) → Within (2 ^ 30) (place_at vs k)
      → place_at (places_in rows) k ≡ place_at vs k
  lent_seen {vs} {rows} view value k w =
      let here : place_at (places_by low high) k ≡ place_at vs k = ap (λ (us : List Vec3). place_at us k) view in
      ap (λ (rs : List Place). place_at (places_in rs) k) value
      ∙ sym (low_seen low refl k (subst (λ (v : Vec3). Within (2 ^ 30) v) (sym here) w)) ∙ here

  -- a place that was read
  pub halves_read : (k : ℕ) (l : Place) (h : High) → l ≡ get_or low k l → h ≡ get_or high k h → k < length low
      → place_by (place_in_row l) h ≡ place_at (places_by low high) k
  halves_read k l h el eh p =
      let low_is = el ∙ any_default low k l (row_of zero_vector) p in
      let high_is = eh ∙ any_default high k h no_high (omega (arith, long)) in
      (λ t. place_by (place_in_row (low_is t)) (high_is t)) ∙ sym (seen_by low high long k)

  -- both halves of a place that are written
  pub halves_set : (i : ℕ) (l : Place) (h : High) → i < length low
      → places_by (slice_set low i l) (slice_set high i h) ≡ slice_set (places_by low high) i (place_by (place_in_row l) h)
  halves_set i l h p =
      let f = λ (k : ℕ). place_by (place_in low k) (high_at high k) in
      let g = λ (k : ℕ). place_by (place_in (slice_set low i l) k) (high_at (slice_set high i h) k) in
      ap (λ (n : ℕ). lanes_of n g) (length-set low i l)
      ∙ written zero_vector (length low) i f g (place_by (place_in_row l) h) p
      (λ t. place_by (place_in_row (get_or-set_same low i l (row_of zero_vector) p t))
      (get_or-set_same high i h no_high (omega (arith, long)) t))
      (λ k d. λ t. place_by (place_in_row (get_or-set_other low i k l (row_of zero_vector) d t)) (get_or-set_other high i k h no_high d t))

-- ---- low rows

-- the row of a place
pub row_seen : (rows : List Place) → AreFlat rows → (j : ℕ) → get_or rows j (row_of zero_vector) ≡ row_of (place_at (places_in rows) j)
row_seen rows flat j = (λ t. record (get_or rows j (row_of zero_vector)) { spare = flat.each j t })
    ∙ ap (λ (v : Vec3). row_of v) (sym (place_seen rows j))

pub rows_long : (old new : List Place) → length (places_in new) ≡ length (places_in old) → length new ≡ length old
rows_long old new e = sym (length-map new (λ (p : Place). place_in_row p)) ∙ e ∙ length-map old (λ (p : Place). place_in_row p)

-- zeros
pub zeros_flat : (m n : ℕ) {low : List Place} → low ≡ replicate m (row_of zero_vector) ++ replicate n (row_of zero_vector)
    → (k : ℕ) → row_at low k ≡ row_of zero_vector
zeros_flat m n e k = ap (λ (rs : List Place). row_at rs k) (e ∙ replicate-append-replicate m n (row_of zero_vector))
    ∙ padded_past (m + n) k (row_of zero_vector)

pub zeros_high : (m n : ℕ) {high : List High} → high ≡ replicate m no_high ++ replicate n no_high → (k : ℕ) → high_at high k ≡ no_high
zeros_high m n e k = ap (λ (hs : List High). high_at hs k) (e ∙ replicate-append-replicate m n no_high) ∙ padded_past (m + n) k no_high

-- the length of a list of zeros
pub zeros_long : {A : Type 0} (m n : ℕ) (entry : A) {xs : List A} → xs ≡ replicate m entry ++ replicate n entry → length xs ≡ m + n
zeros_long {A} m n entry e = ap (λ (ys : List A). length ys) (e ∙ replicate-append-replicate m n entry) ∙ length-replicate (m + n) entry
