-- Particles at the start of a step: sizes on one axis, sums, and one row after another.
use Rattle.std.proofs.Common.{◌≡◌, refl, sym, ap, ◌∙◌, ℕ, zero, suc, ◌+◌, ◌*◌, ◌^◌, ◌<◌, ◌≤◌, Bool, true, false, not, cond, subst, arith, add-one}
use Rattle.std.proofs.Common.{List, length, slice_set, ℤ, pos, ◌+ℤ◌, unsigned_abs, inl, inr}
use Rattle.std.proofs.lemmas.Bool.{cases_lt}
use Rattle.std.proofs.lemmas.List.{get_or-set_same, get_or-set_other, length-set}
use Rattle.pbd_num.specs.declared.Vec3.{Vec3}
use Rattle.pbd_num.specs.Vectors.{Within, plus, zero_vector}
use Rattle.pbd_num.proofs.Ranges.{wider}
use Rattle.pbd_num.proofs.Sizes.{size-add}
use Rattle.pbd_lanes.specs.Lane.{is_set}
use Rattle.pbd_store.specs.declared.rows.High.{High}
use Rattle.pbd_store.specs.declared.rows.Place.{Place}
use Rattle.pbd_store.specs.declared.flight.Forces.{Forces}
use Rattle.pbd_store.specs.declared.fly.FlightSums.{FlightSums}
use Rattle.pbd_store.specs.InRows.{row_of, place_in_row, row_at, place_in, no_high, high_at, place_by, places_by, AreFlat, AreHalves}
use Rattle.pbd_store.specs.Listed.{place_at}
use Rattle.pbd_store.specs.Reaching.{Covers}
use Rattle.pbd_store.specs.Flying.{places_at, losses_at, one_if, sum_below, sums_below, halves_at, WrittenRows, WrittenFirst, AreSummed, are_free}
use Rattle.pbd_store.proofs.InRows.{by_long, seen_by, low_seen, place_seen}
use Rattle.pbd_num.proofs.Below.{split_below}

pub kept_size : (b : Bool) (n r : ℤ) (m : ℕ) → r ≡ cond b n (pos 0) → unsigned_abs n ≤ m → unsigned_abs r ≤ m
kept_size b n r m e h = subst (λ (z : ℤ). unsigned_abs z ≤ m) (sym e) (size_if b)
  where
    size_if : (b : Bool) → unsigned_abs (cond b n (pos 0)) ≤ m
    size_if true = h
    size_if false = omega arith

-- ---- sums

pub sum_none : (f : ℕ → ℤ) → pos 0 ≡ sum_below f 0
unfolding sum_below
sum_none f = refl

pub sum_more : (f : ℕ → ℤ) (j : ℕ) {s n r : ℤ} → r ≡ s +ℤ n → s ≡ sum_below f j → n ≡ f j → r ≡ sum_below f (j + 1)
unfolding sum_below
sum_more f j e so_far one = e ∙ (λ i. so_far i +ℤ one i) ∙ ap (sum_below f) (sym (add-one j))

pub sum_same : (f g : ℕ → ℤ) (n : ℕ) → ((j : ℕ) → j < n → f j ≡ g j) → sum_below f n ≡ sum_below g n
unfolding sum_below
sum_same f g zero h = refl
sum_same f g (suc n) h = λ i. sum_same f g n (λ j lt. h j (omega arith)) i +ℤ h n (omega arith) i

pub sums_same : (f g : ℕ → Vec3) (n : ℕ) → ((j : ℕ) → j < n → f j ≡ g j) → sums_below f n ≡ sums_below g n
sums_same f g n h = λ i. record {
  x = sum_same (λ j. (f j).x) (λ j. (g j).x) n (λ j lt. ap (λ (v : Vec3). v.x) (h j lt)) i;
  y = sum_same (λ j. (f j).y) (λ j. (g j).y) n (λ j lt. ap (λ (v : Vec3). v.y) (h j lt)) i;
  z = sum_same (λ j. (f j).z) (λ j. (g j).z) n (λ j lt. ap (λ (v : Vec3). v.z) (h j lt)) i;
}

-- ---- rows, one after another

one_size : (b : Bool) → unsigned_abs (one_if b) ≤ 1
one_size true = omega arith
one_size false = omega arith

sum_size : (n : ℕ) (a b : ℤ) {r : ℤ} → unsigned_abs a ≤ n * 2 ^ 30 → unsigned_abs b ≤ 2 ^ 30 → r ≡ a +ℤ b
    → unsigned_abs r ≤ (n + 1) * 2 ^ 30
sum_size n a b h k e = subst (λ (z : ℤ). unsigned_abs z ≤ (n + 1) * 2 ^ 30) (sym e) (omega (arith, size-add a b, h, k))

pub summed_none : (forces : Forces) (flies : ℕ → Bool) (at before to : ℕ → Vec3) (sums : FlightSums) → sums.free ≡ pos 0 → sums.lost ≡ zero_vector
    → AreSummed forces 0 flies at before to sums
summed_none forces flies at before to sums free lost = record {
  free = free ∙ sum_none _;
  lost = lost ∙ (λ i. record {
    x = sum_none (λ j. (losses_at forces.damping (flies j) (at j) (before j)).x) i;
    y = sum_none (λ j. (losses_at forces.damping (flies j) (at j) (before j)).y) i;
    z = sum_none (λ j. (losses_at forces.damping (flies j) (at j) (before j)).z) i;
  });
  few = subst (λ (z : ℤ). unsigned_abs z ≤ 0) (sym free) (omega arith);
  small = subst (λ (v : Vec3). Within (0 * 2 ^ 30) v) (sym lost) (record { x = omega arith; y = omega arith; z = omega arith });
  reach = λ j lt. absurd (omega arith);
}

module _ (forces : Forces) (n : ℕ) (flies : ℕ → Bool) (at before to to' : ℕ → Vec3) (sums next : FlightSums)
    (h : AreSummed forces n flies at before to sums)
    (taken : Vec3) (free : next.free ≡ sums.free +ℤ one_if (flies n)) (lost : next.lost ≡ plus sums.lost taken)
    (is : taken ≡ losses_at forces.damping (flies n) (at n) (before n)) (few : Within (2 ^ 30) taken)
    (kept : (v : Vec3) → Covers sums.reach forces.limit v → Covers next.reach forces.limit v) (own : Covers next.reach forces.limit (to' n))
    (same : (j : ℕ) → j < n → to' j ≡ to j) where
  abbrev losses : ℕ → Vec3
  losses j = losses_at forces.damping (flies j) (at j) (before j)

  pub summed_more : AreSummed forces (n + 1) flies at before to' next
  summed_more = record {
    free = sum_more (λ j. one_if (flies j)) n free h.free refl;
    lost = λ i. record {
      x = sum_more (λ j. (losses j).x) n (ap (λ (v : Vec3). v.x) lost) (ap (λ (v : Vec3). v.x) h.lost) (ap (λ (v : Vec3). v.x) is) i;
      y = sum_more (λ j. (losses j).y) n (ap (λ (v : Vec3). v.y) lost) (ap (λ (v : Vec3). v.y) h.lost) (ap (λ (v : Vec3). v.y) is) i;
      z = sum_more (λ j. (losses j).z) n (ap (λ (v : Vec3). v.z) lost) (ap (λ (v : Vec3). v.z) h.lost) (ap (λ (v : Vec3). v.z) is) i;
    };
    few = subst (λ (z : ℤ). unsigned_abs z ≤ n + 1) (sym free) (omega (arith, size-add sums.free (one_if (flies n)), one_size (flies n), h.few));
    small = record {
      x = sum_size n sums.lost.x taken.x h.small.x few.x (ap (λ (v : Vec3). v.x) lost);
      y = sum_size n sums.lost.y taken.y h.small.y few.y (ap (λ (v : Vec3). v.y) lost);
      z = sum_size n sums.lost.z taken.z h.small.z few.z (ap (λ (v : Vec3). v.z) lost);
    };
    reach = λ j lt. elim (split_below j n lt) [
      | inl p ↦ subst (λ (v : Vec3). Covers next.reach forces.limit v) (sym (same j p)) (kept (to j) (h.reach j p))
      | inr e ↦ subst (λ (m : ℕ). Covers next.reach forces.limit (to' m)) (sym e) own
    ];
  }

-- the same of other names
pub summed_as : {forces : Forces} {n m : ℕ} {flies flies' : ℕ → Bool} {at at' before before' to to' : ℕ → Vec3} {sums : FlightSums} → n ≡ m
    → ((j : ℕ) → j < n → flies j ≡ flies' j) → ((j : ℕ) → j < n → at j ≡ at' j) → ((j : ℕ) → j < n → before j ≡ before' j)
    → ((j : ℕ) → j < n → to j ≡ to' j) → AreSummed forces n flies at before to sums → AreSummed forces m flies' at' before' to' sums
summed_as {forces} {n} {m} {flies} {flies'} {at} {at'} {before} {before'} {to} {to'} {sums} e ef ea eb et h =
    subst (λ (k : ℕ). AreSummed forces k flies' at' before' to' sums) e (record {
      free = h.free ∙ sum_same (λ j. one_if (flies j)) (λ j. one_if (flies' j)) n (λ j lt. ap one_if (ef j lt));
      lost = h.lost ∙ sums_same (λ j. losses_at forces.damping (flies j) (at j) (before j))
          (λ j. losses_at forces.damping (flies' j) (at' j) (before' j)) n
          (λ j lt. λ i. losses_at forces.damping (ef j lt i) (ea j lt i) (eb j lt i));
      few = h.few;
      small = h.small;
      reach = λ j lt. subst (λ (v : Vec3). Covers sums.reach forces.limit v) (et j lt) (h.reach j lt);
    })

pub rows_none : (forces : Forces) (held : List Bool) (at : List Place) (high : List High) (before : List Place)
    → WrittenRows forces held 0 at high before at high before
rows_none forces held at high before = record {
  whole = refl;
  whole_high = refl;
  whole_before = refl;
  to = λ j lt. absurd (omega arith);
  flat = λ j lt. absurd (omega arith);
  was = λ j lt. absurd (omega arith);
  still = λ j le. refl;
  still_high = λ j le. refl;
  still_before = λ j le. refl;
}

-- what was written first is still there after a write behind it
row_other : (rows : List Place) (n j : ℕ) (row : Place) → (j ≡ n → ⊥) → row_at (slice_set rows n row) j ≡ row_at rows j
row_other rows n j row = get_or-set_other rows n j row (row_of zero_vector)

row_same : (rows : List Place) (n : ℕ) (row : Place) → n < length rows → row_at (slice_set rows n row) n ≡ row
row_same rows n row = get_or-set_same rows n row (row_of zero_vector)

module _ (forces : Forces) (held : List Bool) (n : ℕ) (at : List Place) (high : List High) (before at' : List Place) (high' : List High)
    (before' : List Place) (h : WrittenRows forces held n at high before at' high' before') (low : Place) (up : High) (old : Place)
    (room : n < length at) (room_high : n < length high) (room_before : n < length before) where
  -- the places of the rows before it stay
  pub halves_other : (j : ℕ) → (j ≡ n → ⊥) → halves_at (slice_set at' n low) (slice_set high' n up) j ≡ halves_at at' high' j
  halves_other j d = λ t. place_by (place_in_row (row_other at' n j low d t)) (get_or-set_other high' n j up no_high d t)

  pub halves_same : halves_at (slice_set at' n low) (slice_set high' n up) n ≡ place_by (place_in_row low) up
  halves_same = λ t. place_by (place_in_row (row_same at' n low (omega (arith, h.whole)) t))
      (get_or-set_same high' n up no_high (omega (arith, h.whole_high)) t)

  pub rows_more : old ≡ row_at at' n → low.spare ≡ pos 0
      → place_by (place_in_row low) up ≡ places_at forces.damping forces.gravity (not (is_set held n)) (place_in at n) (place_in before n)
      → WrittenRows forces held (n + 1) at high before (slice_set at' n low) (slice_set high' n up) (slice_set before' n old)
  rows_more is_old spare is = record {
    whole = length-set at' n low ∙ h.whole;
    whole_high = length-set high' n up ∙ h.whole_high;
    whole_before = length-set before' n old ∙ h.whole_before;
    to = λ j lt. elim (split_below j n lt) [
      | inl p ↦ halves_other j (λ e. absurd (omega arith)) ∙ h.to j p
      | inr e ↦ subst (λ (m : ℕ). halves_at (slice_set at' n low) (slice_set high' n up) m
          ≡ places_at forces.damping forces.gravity (not (is_set held m)) (place_in at m) (place_in before m)) (sym e) (halves_same ∙ is)
    ];
    flat = λ j lt. elim (split_below j n lt) [
      | inl p ↦ ap (λ (r : Place). r.spare) (row_other at' n j low (λ e. absurd (omega arith))) ∙ h.flat j p
      | inr e ↦ subst (λ (m : ℕ). (row_at (slice_set at' n low) m).spare ≡ pos 0) (sym e)
          (ap (λ (r : Place). r.spare) (row_same at' n low (omega (arith, h.whole))) ∙ spare)
    ];
    was = λ j lt. elim (split_below j n lt) [
      | inl p ↦ row_other before' n j old (λ e. absurd (omega arith)) ∙ h.was j p
      | inr e ↦ subst (λ (m : ℕ). row_at (slice_set before' n old) m ≡ row_at at m) (sym e)
          (row_same before' n old (omega (arith, h.whole_before)) ∙ is_old ∙ h.still n (omega arith))
    ];
    still = λ j le. row_other at' n j low (λ e. absurd (omega arith)) ∙ h.still j (omega arith);
    still_high = λ j le. get_or-set_other high' n j up no_high (λ e. absurd (omega arith)) ∙ h.still_high j (omega arith);
    still_before = λ j le. row_other before' n j old (λ e. absurd (omega arith)) ∙ h.still_before j (omega arith);
  }

-- ---- places, from those of the rows

-- the same of lists that are the same
pub written_as : {forces : Forces} {held : List Bool} {n : ℕ} {a b a' b' x y x' y' : List Place} {h h' u u' : List High} → a ≡ x → h ≡ u
    → b ≡ y → x' ≡ a' → u' ≡ h' → y' ≡ b' → WrittenRows forces held n a h b a' h' b' → WrittenRows forces held n x u y x' u' y'
written_as {forces} {held} {n} ea eh eb ea' eh' eb' w =
    coe 0 1 (t. WrittenRows forces held n (ea t) (eh t) (eb t) (sym ea' t) (sym eh' t) (sym eb' t)) w

-- a place within the limit is that of its low row
pub low_place : (low : List Place) (high : List High) → length high ≡ length low → (j : ℕ)
    → Within (2 ^ 29) (place_at (places_by low high) j) → place_in low j ≡ place_at (places_by low high) j
low_place low high long j near = sym (low_seen low high long low refl j (wider _ (2 ^ 29) (2 ^ 30) (omega arith) near) ∙ place_seen low j)

-- rows of which the first n are flat, and the others too
flat_parts : (n : ℕ) (rows : List Place) → ((j : ℕ) → j < n → (row_at rows j).spare ≡ pos 0)
    → ((j : ℕ) → n ≤ j → (row_at rows j).spare ≡ pos 0) → AreFlat rows
flat_parts n rows first others = record {
  each = λ j. elim (cases_lt j n) [
    | inl p ↦ first j p
    | inr q ↦ others j q
  ];
}

-- the first rows of two lists of halves have flown from near places, and the high halves of the places before are still there
pub record HaveFlown (forces : Forces) (held : List Bool) (at : List Place) (high : List High) (before : List Place)
    (high_before : List High) (at' : List Place) (high' : List High) (before' : List Place) : Type 0 where
  pub rows : WrittenRows forces held (length held) at high before at' high' before'
  pub halves : AreHalves at high
  pub halves_before : AreHalves before high_before
  pub near : (j : ℕ) → j < length held → Within (2 ^ 29) (place_at (places_by at high) j)
  pub near_before : (j : ℕ) → j < length held → Within (2 ^ 29) (place_at (places_by before high_before) j)

module _ {forces : Forces} {held : List Bool} {at : List Place} {high : List High} {before : List Place} {high_before : List High}
    {at' : List Place} {high' : List High} {before' : List Place}
    (h : HaveFlown forces held at high before high_before at' high' before') where
  long' : length high' ≡ length at'
  long' = h.rows.whole_high ∙ h.halves.long ∙ sym h.rows.whole

  long_before' : length high_before ≡ length before'
  long_before' = h.halves_before.long ∙ sym h.rows.whole_before

  at_seen : (j : ℕ) → j < length held → place_in at j ≡ place_at (places_by at high) j
  at_seen j lt = low_place at high h.halves.long j (h.near j lt)

  before_seen : (j : ℕ) → j < length held → place_in before j ≡ place_at (places_by before high_before) j
  before_seen j lt = low_place before high_before h.halves_before.long j (h.near_before j lt)

  flown_to : (j : ℕ) → j < length held → place_at (places_by at' high') j ≡ places_at forces.damping forces.gravity (are_free held j)
      (place_at (places_by at high) j) (place_at (places_by before high_before) j)
  flown_to j lt = seen_by at' high' long' j ∙ h.rows.to j lt
      ∙ (λ t. places_at forces.damping forces.gravity (are_free held j) (at_seen j lt t) (before_seen j lt t))

  pub at_written : WrittenFirst (length held) (λ j. places_at forces.damping forces.gravity (are_free held j) (place_at (places_by at high) j)
      (place_at (places_by before high_before) j)) (places_by at high) (places_by at' high')
  at_written = record {
    whole = by_long at' high' ∙ h.rows.whole ∙ sym (by_long at high);
    first = flown_to;
    others = λ j le. seen_by at' high' long' j ∙ (λ t. place_by (place_in_row (h.rows.still j le t)) (h.rows.still_high j le t))
        ∙ sym (seen_by at high h.halves.long j);
  }

  pub before_written : WrittenFirst (length held) (place_at (places_by at high)) (places_by before high_before)
      (places_by before' high_before)
  before_written = record {
    whole = by_long before' high_before ∙ h.rows.whole_before ∙ sym (by_long before high_before);
    first = λ j lt. low_seen before high_before h.halves_before.long before' h.rows.whole_before j
        (wider _ (2 ^ 29) (2 ^ 30) (omega arith) (h.near_before j lt)) ∙ place_seen before' j
        ∙ ap (λ (r : Place). place_in_row r) (h.rows.was j lt) ∙ at_seen j lt;
    others = λ j le. seen_by before' high_before long_before' j
        ∙ ap (λ (r : Place). place_by (place_in_row r) (high_at high_before j)) (h.rows.still_before j le)
        ∙ sym (seen_by before high_before h.halves_before.long j);
  }

  pub at_halves : AreHalves at' high'
  at_halves = record {
    long = long';
    flat = flat_parts (length held) at' h.rows.flat (λ j q. ap (λ (r : Place). r.spare) (h.rows.still j q) ∙ h.halves.flat.each j);
  }

  pub before_halves : AreHalves before' high_before
  before_halves = record {
    long = long_before';
    flat = flat_parts (length held) before' (λ j p. ap (λ (r : Place). r.spare) (h.rows.was j p) ∙ h.halves.flat.each j)
        (λ j q. ap (λ (r : Place). r.spare) (h.rows.still_before j q) ∙ h.halves_before.flat.each j);
  }

  pub places_summed : (sums : FlightSums) → AreSummed forces (length held) (are_free held) (place_in at) (place_in before) (halves_at at' high') sums
      → AreSummed forces (length held) (are_free held) (place_at (places_by at high)) (place_at (places_by before high_before))
      (place_at (places_by at' high')) sums
  places_summed sums s = summed_as refl (λ j lt. refl) at_seen before_seen (λ j lt. sym (seen_by at' high' long' j)) s
