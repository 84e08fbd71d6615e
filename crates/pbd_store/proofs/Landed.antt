-- Columns of which the places have flown, and the list of particles that they are.
use Rattle.std.proofs.Common.{◌≡◌, sym, ap, ◌∙◌, ℕ, ◌<◌, ◌≤◌, Bool, not, List, length, map, get_or, arith}
use Rattle.std.specs.Prelude.{IsTrue}
use Rattle.std.proofs.lemmas.List.{length-map, get_or-map}
use Rattle.std.proofs.lemmas.List.FromFn.{fill_by_all}
use Rattle.pbd_num.specs.declared.Vec3.{Vec3}
use Rattle.pbd_num.specs.Vectors.{is_within}
use Rattle.pbd_lanes.specs.Lane.{is_set}
use Rattle.pbd_world.specs.declared.parts.Particle.{Particle}
use Rattle.pbd_world.specs.Particles.{particle_at, no_particle, is_free}
use Rattle.pbd_store.specs.declared.flight.Forces.{Forces}
use Rattle.pbd_store.specs.declared.fly.FlightSums.{FlightSums}
use Rattle.pbd_store.specs.Listed.{place_at, row, listed, ArePadded}
use Rattle.pbd_store.specs.Flying.{places_at, after_flight, stays_in, WrittenFirst, AreSummed, IsOutside, LeavesFirst, are_free}
use Rattle.pbd_store.proofs.Listing.{count_is, row_is, place_is, places_padded}
use Rattle.pbd_store.proofs.Flights.{summed_as}

module _ {n spare : ℕ} {at before : List Vec3} {weight : List ℕ} {held : List Bool} (h : ArePadded n spare at before weight held)
    {ps : List Particle} (e : listed n at before weight held ≡ ps) (forces : Forces) (flags : List Bool) (long : length flags ≡ n)
    (same : (j : ℕ) → j < n → is_set flags j ≡ is_set held j) (at' before' : List Vec3)
    (ea : WrittenFirst (length flags) (λ j. places_at forces.damping forces.gravity (not (is_set flags j)) (place_at at j) (place_at before j))
    at at')
    (eb : WrittenFirst (length flags) (place_at at) before before') where
  row_on : (k : ℕ) → k < n → row at' before' weight held k ≡ after_flight forces (particle_at ps k)
  row_on k lt =
      let there = ea.first k (omega (arith, long))
      ∙ ap (λ (b : Bool). places_at forces.damping forces.gravity (not b) (place_at at k) (place_at before k)) (same k lt) in
      let was = eb.first k (omega (arith, long)) in
      (λ i. record { at = there i; before = was i; weight = get_or weight k 0; held = is_set held k })
      ∙ ap (λ (p : Particle). after_flight forces p) (sym (row_is h e k))

  row_past : (k : ℕ) → n ≤ k → row at' before' weight held k ≡ row at before weight held k
  row_past k le = λ i. record {
    at = ea.others k (omega (arith, long)) i;
    before = eb.others k (omega (arith, long)) i;
    weight = get_or weight k 0;
    held = is_set held k;
  }

  pub flown_padded : ArePadded n spare at' before' weight held
  flown_padded = places_padded h e ea.whole eb.whole row_past

  pub flown_listed : listed n at' before' weight held ≡ map (λ (p : Particle). after_flight forces p) ps
  flown_listed = sym (fill_by_all (row at' before' weight held) (map (λ (p : Particle). after_flight forces p) ps) n no_particle
      (length-map ps (λ (p : Particle). after_flight forces p) ∙ sym (count_is h e))
      (λ k p. get_or-map (λ (p : Particle). after_flight forces p) ps k no_particle no_particle (omega (arith, count_is h e)) ∙ sym (row_on k p)))

  free_is : (j : ℕ) → j < n → not (is_set flags j) ≡ is_free (particle_at ps j)
  free_is j lt = ap (λ (b : Bool). not b) (same j lt) ∙ ap (λ (p : Particle). is_free p) (sym (row_is h e j))

  pub flown_summed : (sums : FlightSums) → AreSummed forces (length flags) (are_free flags) (place_at at) (place_at before) (place_at at') sums
      → AreSummed forces (length ps) (λ i. is_free (particle_at ps i)) (λ i. (particle_at ps i).at) (λ i. (particle_at ps i).before)
      (λ i. (after_flight forces (particle_at ps i)).at) sums
  flown_summed sums s = summed_as (long ∙ count_is h e) (λ j lt. free_is j (omega (arith, long)))
      (λ j lt. sym (place_is h e j)) (λ j lt. ap (λ (p : Particle). p.before) (sym (row_is h e j)))
      (λ j lt. ap (λ (p : Particle). p.at) (row_on j (omega (arith, long)))) s

-- ---- a list of particles that have flown

module _ (forces : Forces) (ps : List Particle) (qs : List Particle) (e : qs ≡ map (λ (p : Particle). after_flight forces p) ps) where
  pub flown_long : length qs ≡ length ps
  flown_long = ap (λ (rs : List Particle). length rs) e ∙ length-map ps (λ (p : Particle). after_flight forces p)

  pub flown_at_is : (i : ℕ) → i < length ps → particle_at qs i ≡ after_flight forces (particle_at ps i)
  flown_at_is i lt = ap (λ (rs : List Particle). particle_at rs i) e
      ∙ get_or-map (λ (p : Particle). after_flight forces p) ps i no_particle no_particle lt

  tested : (i : ℕ) → i < length ps → stays_in forces (particle_at ps i) ≡ is_within forces.limit (particle_at qs i).at
  tested i lt = ap (λ (p : Particle). is_within forces.limit p.at) (sym (flown_at_is i lt))

  pub all_within : ((i : ℕ) → i < length qs → IsTrue (is_within forces.limit (particle_at qs i).at))
      → (i : ℕ) → i < length ps → IsTrue (stays_in forces (particle_at ps i))
  all_within h i lt = tested i lt ∙ h i (omega (arith, flown_long))

  pub one_outside : (i : ℕ) → IsOutside i forces.limit qs → LeavesFirst forces ps i
  one_outside i h =
      let one : i < length ps = omega (arith, h.one, flown_long) in
      record {
        one = one;
        before = λ j lt. tested j (omega arith) ∙ h.before j lt;
        leaves = tested i one ∙ h.leaves;
      }
