-- Pairs whose ends move one after another.
use Rattle.std.proofs.Common.{◌≡◌, ℕ, ◌+◌, ◌<◌, ◌≤◌, ℤ, pos, ◌≤ℤ◌, List, length, get_or, slice_set, Bool, IsTrue, ◌&&◌}
use Rattle.std.proofs.Common.{refl, sym, ◌∙◌, ap, arith, inl, inr, subst, unsigned_abs, ◌^◌}
use Rattle.std.specs.List.{range_with_len}
use Rattle.std.specs.Prelude.{Result, Ok, Err, MatchResult}
use Rattle.std.proofs.lemmas.Bool.{and_from}
use Rattle.std.proofs.lemmas.List.{get_or-set_same, get_or-set_other, length-set, length-map}
use Rattle.std.proofs.lemmas.Simd.{map-map}
use Rattle.std.proofs.Math.Seq.{map-set_same}
use Rattle.pbd_num.proofs.Ranges.{wider, within_facts}
use Rattle.pbd_num.proofs.Sizes.{size-add}
use Rattle.pbd_num.specs.declared.Vec3.{Vec3}
use Rattle.pbd_num.specs.Vectors.{Within, is_within, plus, zero_vector}
use Rattle.pbd_lanes.specs.Lane.{is_set}
use Rattle.pbd_world.specs.declared.parts.Particle.{Particle}
use Rattle.pbd_world.specs.Particles.{particle_at, no_particle, placed}
use Rattle.pbd_store.specs.Gathering.{index_at}
use Rattle.pbd_store.specs.Listed.{place_at, row, listed, ArePadded}
use Rattle.pbd_store.specs.Moving.{fixed_parts}
use Rattle.pbd_store.specs.declared.pairs.Pairs.{Pairs}
use Rattle.pbd_store.specs.declared.reach.Reach.{Reach}
use Rattle.pbd_store.specs.declared.rows.High.{High}
use Rattle.pbd_store.specs.declared.rows.Place.{Place}
use Rattle.pbd_store.specs.InRows.{place_in_row, places_in, place_by, places_by, high_at, row_of}
use Rattle.pbd_store.specs.Pairs.{ArePairs, PairsApart, EndsChanged, Parted, PlacesParted, EachMoved, LeavesAt, OutsideAt, ends_within, stays}
use Rattle.pbd_store.specs.Reaching.{Covers, CoversEnds}
use Rattle.pbd_store.proofs.InRows.{by_long, seen_by, place_seen, low_seen, rows_long}
use Rattle.pbd_store.proofs.Listing.{shown, listed_long, count_is, row_is}
use Rattle.pbd_num.proofs.Below.{split_below}

pub placed_fixed : (ps : List Particle) (i : ℕ) (v : Vec3) → fixed_parts (placed ps i v) ≡ fixed_parts ps
placed_fixed ps i v = map-set_same {B = Particle} (λ (p : Particle). record p { at = zero_vector }) ps i
    (record (particle_at ps i) { at = v }) no_particle refl

-- nothing yet
pub changed_none : {A : Type 0} (first second : List ℕ) (f s : ℕ → A → A) (d : A) (xs : List A) → EndsChanged 0 first second f s d xs xs
changed_none first second f s d xs = record {
  whole = refl;
  firsts = λ j h. absurd (omega arith);
  seconds = λ j h. absurd (omega arith);
  others = λ i f g. refl;
}

module _ {A : Type 0} (pairs : Pairs) (n : ℕ) (f s : ℕ → A → A) (d : A) (old new : List A) (j : ℕ)
    (h : EndsChanged j pairs.first.now pairs.second.now f s d old new)
    (p : j < n) (are : ArePairs n (length old) pairs) (apart : PairsApart n pairs) where
  abbrev a : ℕ
  a = index_at pairs.first.now j

  abbrev b : ℕ
  b = index_at pairs.second.now j

  -- the ends of the next pair are as they were
  pub first_same : get_or new (index_at pairs.first.now j) d ≡ get_or old (index_at pairs.first.now j) d
  first_same = h.others a (λ k q e. apart.first k j q p e) (λ k q e. apart.across j k p (omega arith) (sym e))

  pub second_same : get_or new (index_at pairs.second.now j) d ≡ get_or old (index_at pairs.second.now j) d
  second_same = h.others b (λ k q e. apart.across k j (omega arith) p e) (λ k q e. apart.second k j q p e)

  pub first_there : index_at pairs.first.now j < length new
  first_there = omega (arith, h.whole, are.first j p)

  pub second_there : index_at pairs.second.now j < length new
  second_there = omega (arith, h.whole, are.second j p)

  module _ (v : A) where
    pub second_after : get_or (slice_set new (index_at pairs.first.now j) v) (index_at pairs.second.now j) d
        ≡ get_or old (index_at pairs.second.now j) d
    second_after = get_or-set_other new a b v d (λ e. apart.across j j p p (sym e)) ∙ second_same

    pub second_left : index_at pairs.second.now j < length (slice_set new (index_at pairs.first.now j) v)
    second_left = omega (arith, length-set new a v, second_there)

    -- one pair more
    pub changed_more : (w : A) → v ≡ f j (get_or old (index_at pairs.first.now j) d)
        → w ≡ s j (get_or old (index_at pairs.second.now j) d)
        → EndsChanged (j + 1) pairs.first.now pairs.second.now f s d old
        (slice_set (slice_set new (index_at pairs.first.now j) v) (index_at pairs.second.now j) w)
    changed_more w ev ew =
        let then = slice_set new a v in
        record {
          whole = length-set then b w ∙ length-set new a v ∙ h.whole;
          firsts = λ k q. elim (split_below k j q) [
            | inl r ↦ get_or-set_other then b (index_at pairs.first.now k) w d (λ e. apart.across k j (omega arith) p e)
                ∙ get_or-set_other new a (index_at pairs.first.now k) v d (λ e. apart.first k j r p e) ∙ h.firsts k r
            | inr e ↦ subst (λ (m : ℕ). get_or (slice_set then b w) (index_at pairs.first.now m) d
                ≡ f m (get_or old (index_at pairs.first.now m) d)) (sym e)
                (get_or-set_other then b a w d (λ e. apart.across j j p p e) ∙ get_or-set_same new a v d first_there ∙ ev)
          ];
          seconds = λ k q. elim (split_below k j q) [
            | inl r ↦ get_or-set_other then b (index_at pairs.second.now k) w d (λ e. apart.second k j r p e)
                ∙ get_or-set_other new a (index_at pairs.second.now k) v d (λ e. apart.across j k p (omega arith) (sym e))
                ∙ h.seconds k r
            | inr e ↦ subst (λ (m : ℕ). get_or (slice_set then b w) (index_at pairs.second.now m) d
                ≡ s m (get_or old (index_at pairs.second.now m) d)) (sym e) (get_or-set_same then b w d second_left ∙ ew)
          ];
          others = λ i nf ns. get_or-set_other then b i w d (λ e. ns j (omega arith) (sym e))
              ∙ get_or-set_other new a i v d (λ e. nf j (omega arith) (sym e))
              ∙ h.others i (λ k q e. nf k (omega arith) e) (λ k q e. ns k (omega arith) e);
        }

-- a particle that is moved
abbrev moved_by : (ℕ → Vec3) → ℕ → Particle → Particle
moved_by f j p = record p { at = plus p.at (f j) }

-- ends that are moved have changed
changed_from : (n : ℕ) (first second : List ℕ) (f s : ℕ → Vec3) (old new : List Particle) → Parted n first second f s old new
    → EndsChanged n first second (moved_by f) (moved_by s) no_particle old new
changed_from n first second f s old new h = record { whole = h.whole; firsts = h.firsts; seconds = h.seconds; others = h.others }

pub parted_from : (n : ℕ) (first second : List ℕ) (f s : ℕ → Vec3) (old new : List Particle)
    → EndsChanged n first second (λ j p. record p { at = plus p.at (f j) }) (λ j p. record p { at = plus p.at (s j) }) no_particle old new
    → Parted n first second f s old new
parted_from n first second f s old new h = record { whole = h.whole; firsts = h.firsts; seconds = h.seconds; others = h.others }

pub parted_none : (first second : List ℕ) (f s : ℕ → Vec3) (ps : List Particle) → Parted 0 first second f s ps ps
parted_none first second f s ps = parted_from 0 first second f s ps ps (changed_none first second (moved_by f) (moved_by s) no_particle ps)

module _ (pairs : Pairs) (n : ℕ) (f s : ℕ → Vec3) (old new : List Particle) (j : ℕ)
    (h : Parted j pairs.first.now pairs.second.now f s old new)
    (p : j < n) (are : ArePairs n (length old) pairs) (apart : PairsApart n pairs) where
  so_far : EndsChanged j pairs.first.now pairs.second.now (moved_by f) (moved_by s) no_particle old new
  so_far = changed_from j pairs.first.now pairs.second.now f s old new h

  -- the ends of the next pair are as they were
  pub first_still : particle_at new (index_at pairs.first.now j) ≡ particle_at old (index_at pairs.first.now j)
  first_still = first_same pairs n (moved_by f) (moved_by s) no_particle old new j so_far p are apart

  pub second_still : particle_at new (index_at pairs.second.now j) ≡ particle_at old (index_at pairs.second.now j)
  second_still = second_same pairs n (moved_by f) (moved_by s) no_particle old new j so_far p are apart

  pub first_room : index_at pairs.first.now j < length new
  first_room = first_there pairs n (moved_by f) (moved_by s) no_particle old new j so_far p are apart

  pub second_room : index_at pairs.second.now j < length new
  second_room = second_there pairs n (moved_by f) (moved_by s) no_particle old new j so_far p are apart

  -- one pair more
  pub parted_more : (v w : Vec3) → v ≡ plus (particle_at old (index_at pairs.first.now j)).at (f j)
      → w ≡ plus (particle_at old (index_at pairs.second.now j)).at (s j) → Parted (j + 1) pairs.first.now pairs.second.now f s old
      (placed (placed new (index_at pairs.first.now j) v) (index_at pairs.second.now j) w)
  parted_more v w ev ew =
      let one = record (particle_at new (index_at pairs.first.now j)) { at = v } in
      let still = second_after pairs n (moved_by f) (moved_by s) no_particle old new j so_far p are apart one in
      parted_from (j + 1) pairs.first.now pairs.second.now f s old
      (placed (placed new (index_at pairs.first.now j) v) (index_at pairs.second.now j) w)
      (changed_more pairs n (moved_by f) (moved_by s) no_particle old new j so_far p are apart one
      (record (particle_at (placed new (index_at pairs.first.now j) v) (index_at pairs.second.now j)) { at = w })
      (λ t. record (first_still t) { at = ev t }) (λ t. record (still t) { at = ew t }))

-- places of pairs of which the first j are pulled, with the reach of the new ones
pub record Pulled (j : ℕ) (first second : List ℕ) (f s : ℕ → Vec3) (reach : Reach) (limit : ℤ) (old new : List Vec3) : Type 0 where
  pub done : PlacesParted j first second f s old new
  pub covered : CoversEnds j first second f s reach limit (place_at old)

pub pulled_none : (first second : List ℕ) (f s : ℕ → Vec3) (reach : Reach) (limit : ℤ) (vs : List Vec3)
    → Pulled 0 first second f s reach limit vs vs
pulled_none first second f s reach limit vs = record {
  done = changed_none first second _ _ zero_vector vs;
  covered = record { firsts = λ k h. absurd (omega arith); seconds = λ k h. absurd (omega arith) };
}

module _ (pairs : Pairs) {n : ℕ} {f s : ℕ → Vec3} {reach : Reach} {limit : ℤ} {old new : List Vec3} (j : ℕ)
    (h : Pulled j pairs.first.now pairs.second.now f s reach limit old new) (p : j < n) (are : ArePairs n (length old) pairs)
    (apart : PairsApart n pairs) where
  abbrev on : (ℕ → Vec3) → ℕ → Vec3 → Vec3
  on g k v = plus v (g k)

  -- the places of the next pair, the second one after a write to the first
  pub first_in : {r : Place} → r ≡ row_of (place_at new (index_at pairs.first.now j))
      → Within (2 ^ 29) (place_at old (index_at pairs.first.now j)) → Within (2 ^ 29) (place_in_row r)
  first_in e w = subst (λ (v : Vec3). Within (2 ^ 29) v)
      (sym (ap (λ (r : Place). place_in_row r) e ∙ first_same pairs n (on f) (on s) zero_vector old new j h.done p are apart)) w

  module _ {then : List Vec3} (v : Vec3) (et : then ≡ slice_set new (index_at pairs.first.now j) v) where
    then_still : place_at then (index_at pairs.second.now j) ≡ place_at old (index_at pairs.second.now j)
    then_still = ap (λ (vs : List Vec3). place_at vs (index_at pairs.second.now j)) et
        ∙ second_after pairs n (on f) (on s) zero_vector old new j h.done p are apart v

    pub second_in : {r : Place} → r ≡ row_of (place_at then (index_at pairs.second.now j))
        → Within (2 ^ 29) (place_at old (index_at pairs.second.now j)) → Within (2 ^ 29) (place_in_row r)
    second_in e w = subst (λ (v : Vec3). Within (2 ^ 29) v) (sym (ap (λ (r : Place). place_in_row r) e ∙ then_still)) w

    pub second_near : index_at pairs.second.now j < length then
    second_near = omega (
      arith,
      second_left pairs n (on f) (on s) zero_vector old new j h.done p are apart v,
      ap (λ (vs : List Vec3). length vs) et,
    )

    -- one pair more
    pub pulled_more : (w : Vec3) (next : List Vec3) (mid after : Reach) → next ≡ slice_set then (index_at pairs.second.now j) w
        → v ≡ plus (place_at new (index_at pairs.first.now j)) (f j) → w ≡ plus (place_at then (index_at pairs.second.now j)) (s j)
        → ((u : Vec3) → Covers reach limit u → Covers mid limit u) → Covers mid limit v
        → ((u : Vec3) → Covers mid limit u → Covers after limit u) → Covers after limit w
        → Pulled (j + 1) pairs.first.now pairs.second.now f s after limit old next
    pulled_more w next mid after en ev ew k o l q =
        let still = first_same pairs n (on f) (on s) zero_vector old new j h.done p are apart in
        let first_is : v ≡ plus (place_at old (index_at pairs.first.now j)) (f j) = ev ∙ (λ t. plus (still t) (f j)) in
        let second_is : w ≡ plus (place_at old (index_at pairs.second.now j)) (s j) = ew ∙ (λ t. plus (then_still t) (s j)) in
        let last : next ≡ slice_set (slice_set new (index_at pairs.first.now j) v) (index_at pairs.second.now j) w
        = en ∙ (λ t. slice_set (et t) (index_at pairs.second.now j) w) in
        record {
          done = subst (λ (vs : List Vec3). PlacesParted (j + 1) pairs.first.now pairs.second.now f s old vs) (sym last)
              (changed_more pairs n (on f) (on s) zero_vector old new j h.done p are apart v w first_is second_is);
          covered = record {
            firsts = λ m r. elim (split_below m j r) [
              | inl i ↦ l _ (k _ (h.covered.firsts m i))
              | inr e ↦ subst (λ (i : ℕ). Covers after limit (plus (place_at old (index_at pairs.first.now i)) (f i))) (sym e)
                  (l _ (subst (λ (u : Vec3). Covers mid limit u) first_is o))
            ];
            seconds = λ m r. elim (split_below m j r) [
              | inl i ↦ l _ (k _ (h.covered.seconds m i))
              | inr e ↦ subst (λ (i : ℕ). Covers after limit (plus (place_at old (index_at pairs.second.now i)) (s i))) (sym e)
                  (subst (λ (u : Vec3). Covers after limit u) second_is q)
            ];
          };
        }

-- what covers where ends are moved covers it for a list that has the same places there
pub covers_as : {n : ℕ} {first second : List ℕ} {f s : ℕ → Vec3} {reach : Reach} {limit : ℤ} {at at' : ℕ → Vec3}
    → ((j : ℕ) → j < n → at (index_at first j) ≡ at' (index_at first j))
    → ((j : ℕ) → j < n → at (index_at second j) ≡ at' (index_at second j))
    → CoversEnds n first second f s reach limit at → CoversEnds n first second f s reach limit at'
covers_as {f = f} {s = s} {reach = reach} {limit = limit} first_same second_same h = record {
  firsts = λ j p. subst (λ (v : Vec3). Covers reach limit (plus v (f j))) (first_same j p) (h.firsts j p);
  seconds = λ j p. subst (λ (v : Vec3). Covers reach limit (plus v (s j))) (second_same j p) (h.seconds j p);
}

-- pairs of particles are pairs of a longer list
pub pairs_longer : {n count more : ℕ} {pairs : Pairs} → count ≤ more → ArePairs n count pairs → ArePairs n more pairs
pairs_longer le are = record {
  few = are.few;
  first_long = are.first_long;
  second_long = are.second_long;
  first = λ j p. omega (arith, are.first j p, le);
  second = λ j p. omega (arith, are.second j p, le);
}

-- pairs of rows are pairs of their places
pub pairs_in_rows : {n : ℕ} {pairs : Pairs} (rows : List Place) → ArePairs n (length rows) pairs
    → ArePairs n (length (places_in rows)) pairs
pairs_in_rows rows are = pairs_longer (omega (arith, length-map rows (λ (p : Place). place_in_row p))) are

-- low rows of which the ends of pairs have moved, as places: the high halves of these ends are 0
module _ (low : List Place) (high : List High) (long : length high ≡ length low) (new : List Place) {n : ℕ} {first second : List ℕ}
    {f s : ℕ → Vec3} (g : PlacesParted n first second f s (places_in low) (places_in new))
    (first_near : (j : ℕ) → j < n → Within (2 ^ 29) (place_at (places_by low high) (index_at first j)))
    (second_near : (j : ℕ) → j < n → Within (2 ^ 29) (place_at (places_by low high) (index_at second j))) where
  same_long : length new ≡ length low
  same_long = rows_long low new g.whole

  -- the place of an end, by its low row
  end_moved : (i : ℕ) (v : Vec3) → Within (2 ^ 29) (place_at (places_by low high) i)
      → place_at (places_in new) i ≡ plus (place_at (places_in low) i) v
      → place_at (places_by new high) i ≡ plus (place_at (places_by low high) i) v
  end_moved i v near e =
      let within = wider _ (2 ^ 29) (2 ^ 30) (omega arith) near in
      low_seen low high long new same_long i within ∙ e ∙ (λ t. plus (sym (low_seen low high long low refl i within) t) v)

  pub halves_parted : PlacesParted n first second f s (places_by low high) (places_by new high)
  halves_parted = record {
    whole = by_long new high ∙ same_long ∙ sym (by_long low high);
    firsts = λ j p. end_moved (index_at first j) (f j) (first_near j p) (g.firsts j p);
    seconds = λ j p. end_moved (index_at second j) (s j) (second_near j p) (g.seconds j p);
    others = λ i nf ns. seen_by new high (long ∙ sym same_long) i
        ∙ ap (λ (v : Vec3). place_by v (high_at high i)) (sym (place_seen new i) ∙ g.others i nf ns ∙ place_seen low i)
        ∙ sym (seen_by low high long i);
  }

-- columns of which the places are those of moved ends
module _ {n spare : ℕ} {at before : List Vec3} {weight : List ℕ} {held : List Bool} (h : ArePadded n spare at before weight held)
    {ps : List Particle} (e : listed n at before weight held ≡ ps) (pairs : Pairs) (m : ℕ) (are : ArePairs m (length ps) pairs)
    (f s : ℕ → Vec3) (moved : List Vec3) (g : PlacesParted m pairs.first.now pairs.second.now f s at moved) where
  beyond : (k : ℕ) → n ≤ k → place_at moved k ≡ place_at at k
  beyond k q = g.others k (λ j p i. absurd (omega (arith, are.first j p, count_is h e, i)))
      (λ j p i. absurd (omega (arith, are.second j p, count_is h e, i)))

  -- a row with another place
  row_now : (k : ℕ) (v : Vec3) → place_at moved k ≡ v
      → row moved before weight held k ≡ record (row at before weight held k) { at = v }
  row_now k v ev = λ t. record { at = ev t; before = place_at before k; weight = get_or weight k 0; held = is_set held k }

  pub moved_padded : ArePadded n spare moved before weight held
  moved_padded = record {
    size = h.size;
    places = g.whole ∙ h.places;
    befores = h.befores;
    weights = h.weights;
    flags = h.flags;
    padding = λ k q. row_now k (place_at at k) (beyond k q) ∙ h.padding k q;
  }

  seen : (k : ℕ) → particle_at (listed n moved before weight held) k ≡ row moved before weight held k
  seen k = shown moved_padded k

  pub moved_parted : Parted m pairs.first.now pairs.second.now f s ps (listed n moved before weight held)
  moved_parted = record {
    whole = listed_long moved_padded ∙ count_is h e;
    firsts = λ j p. seen (index_at pairs.first.now j) ∙ row_now (index_at pairs.first.now j) _ (g.firsts j p)
        ∙ ap (λ (q : Particle). record q { at = plus q.at (f j) }) (sym (row_is h e (index_at pairs.first.now j)));
    seconds = λ j p. seen (index_at pairs.second.now j) ∙ row_now (index_at pairs.second.now j) _ (g.seconds j p)
        ∙ ap (λ (q : Particle). record q { at = plus q.at (s j) }) (sym (row_is h e (index_at pairs.second.now j)));
    others = λ i nf ns. seen i ∙ row_now i (place_at at i) (g.others i nf ns) ∙ sym (row_is h e i);
  }

  pub moved_fixed : fixed_parts (listed n moved before weight held) ≡ fixed_parts ps
  moved_fixed = map-map (λ (p : Particle). record p { at = zero_vector }) (row moved before weight held) (range_with_len 0 n)
      ∙ sym (map-map (λ (p : Particle). record p { at = zero_vector }) (row at before weight held) (range_with_len 0 n))
      ∙ ap (λ (qs : List Particle). fixed_parts qs) e

-- a short way from a place within the range
pub stepped_within : {u v r : Vec3} → Within (2 ^ 29) u → Within (2 ^ 22) v → r ≡ plus u v → Within (2 ^ 30) r
stepped_within {u} {v} hu hv e = subst (λ (r : Vec3). Within (2 ^ 30) r) (sym e)
    (record {
      x = omega (arith, size-add u.x v.x, hu.x, hv.x);
      y = omega (arith, size-add u.y v.y, hu.y, hv.y);
      z = omega (arith, size-add u.z v.z, hu.z, hv.z);
    })

-- two places within the limit pass its test
pub both_stay : (limit : ℤ) (v w : Vec3) → pos 0 ≤ℤ limit → Within (unsigned_abs limit) v → Within (unsigned_abs limit) w
    → IsTrue (is_within limit v && is_within limit w)
both_stay limit v w low hv hw = and_from (is_within limit v) (is_within limit w) ((within_facts limit v low).1 hv)
    ((within_facts limit w low).1 hw)

module _ (n : ℕ) (limit : ℤ) (first second : List ℕ) (f s : ℕ → Vec3) (old new : List Particle)
    (h : Parted n first second f s old new) where
  -- where the ends are afterwards is where the moves lead
  ends_are : (j : ℕ) → j < n → ends_within limit new first second j ≡ stays limit old first second f s j
  ends_are j p = λ t. is_within limit (h.firsts j p t).at && is_within limit (h.seconds j p t).at

  -- which pair is outside afterwards says which leaves
  pub outcome_from : {A : Type 0} (r : Result A ℕ) → MatchResult r (λ _. (j : ℕ) → j < n → IsTrue (ends_within limit new first second j))
      (λ k. OutsideAt k n limit new first second) → MatchResult r (λ _. EachMoved n limit first second f s old new)
      (λ k. LeavesAt k n limit first second f s old)
  outcome_from (Ok x) m = record { parted = h; stay = λ j p. sym (ends_are j p) ∙ m j p }
  outcome_from (Err k) m = record {
    one = m.one;
    before = λ j p. sym (ends_are j (omega (arith, p, m.one))) ∙ m.before j p;
    leaves = sym (ends_are k m.one) ∙ m.leaves;
  }
