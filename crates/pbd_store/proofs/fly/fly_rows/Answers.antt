use Rattle.std.proofs.Common.{refl, sym, ◌∙◌, ◌^◌, ◌<◌, ℕ, not, arith, subst, length, slice_set, to_z, w64}
use Rattle.std.proofs.lemmas.Int.{to_z-of_z}
use Rattle.pbd_num.specs.Vectors.{Within}
use Rattle.pbd_num.proofs.Sizes.{fits}
use Rattle.pbd_lanes.specs.Lane.{is_set}
use Rattle.pbd_num.specs.declared.Vec3.{Vec3}
use Rattle.pbd_store.specs.declared.fly.FlightSums.{FlightSums}
use Rattle.pbd_store.specs.declared.rows.Place.{Place}
use Rattle.pbd_store.specs.InRows.{place_in_row, place_in, row_at}
use Rattle.pbd_store.specs.Reaching.{Covers}
use Rattle.pbd_store.specs.Flying.{halves_at, places_at, losses_at, are_free, WrittenRows, AreSummed}
use Rattle.pbd_store.proofs.Flights.{rows_none, rows_more, halves_other, halves_same, summed_none, summed_more}
use Rattle.pbd_store.proofs.fly.fly_rows.Goals as goal

pub loop-i-init : goal.loop-i-init
loop-i-init c = record {
  count = omega (
    arith,
    c.min-count.ensures,
    c.min-2.ensures,
    c.min.ensures,
    c.requires.at_long,
    c.requires.high_long,
    c.requires.before_long,
  );
  rows = rows_none _ _ _ _ _;
  sums = summed_none _ _ _ _ _ _ refl refl;
}

pub fly_row-row-requires-clause-at : goal.fly_row-row-requires-clause-at
fly_row-row-requires-clause-at c = subst (λ (p : Place). Within (2 ^ 29) (place_in_row p))
    (sym (c.loop-i.invariant.rows.still c.loop-i.i (omega arith))) (c.requires.at c.loop-i.i (omega (arith, c.loop-i.invariant.count)))

pub fly_row-row-requires-clause-before : goal.fly_row-row-requires-clause-before
fly_row-row-requires-clause-before c = subst (λ (p : Place). Within (2 ^ 29) (place_in_row p))
    (sym (c.loop-i.invariant.rows.still_before c.loop-i.i (omega arith)))
    (c.requires.before c.loop-i.i (omega (arith, c.loop-i.invariant.count)))

pub loop-i-preserved : goal.loop-i-preserved
loop-i-preserved c =
    let forces = c.args.flight.forces in
    let held = c.args.flight.held.now in
    let small = c.requires.forces in
    let fd = fits forces.damping (omega (arith, small.damping)) in
    let fx = fits forces.gravity.x (omega (arith, small.gravity.x)) in
    let fy = fits forces.gravity.y (omega (arith, small.gravity.y)) in
    let fz = fits forces.gravity.z (omega (arith, small.gravity.z)) in
    let fl = fits forces.limit (omega (arith, small.high)) in
    let to = simp to_z-of_z at c.fly_row-row.ensures.to in
    let lost = simp to_z-of_z at c.fly_row-row.ensures.lost in
    let kept = simp to_z-of_z at c.with-sums.ensures.kept in
    let own = simp to_z-of_z at c.with-sums.ensures.own in
    let at = c.args.at.now in
    let high = c.args.high.now in
    let was = c.args.before.now in
    let i = c.loop-i.i in
    let inv = c.loop-i.invariant in
    let sums : FlightSums = record { free = to_z w64 c.loop-i.free-bits; lost = c.loop-i.lost; reach = c.loop-i.reach } in
    let here = inv.rows.still i (omega arith) in
    let before = inv.rows.still_before i (omega arith) in
    let flies = not (is_set held i) in
    let low = c.of-to.result.low in
    let up = c.of-to.result.high in
    let is = c.of-to.ensures.place ∙ to
    ∙ (λ t. places_at forces.damping forces.gravity flies (place_in_row (here t)) (place_in_row (before t))) in
    let taken = lost
    ∙ (λ t. losses_at forces.damping flies (place_in_row (here t)) (place_in_row (before t))) in
    let room : i < length at = omega (arith, c.requires.at_long, inv.count) in
    let room_high : i < length high = omega (arith, c.requires.high_long, inv.count) in
    let room_before : i < length was = omega (arith, c.requires.before_long, inv.count) in
    let old = row_at c.loop-i.at i in
    let there = halves_same forces held i at high was c.loop-i.at c.loop-i.high c.loop-i.before inv.rows low up old room room_high room_before in
    let more = summed_more forces i (are_free held) (place_in at) (place_in was) (halves_at c.loop-i.at c.loop-i.high)
    (halves_at (slice_set c.loop-i.at i low) (slice_set c.loop-i.high i up)) sums c.with-sums.result inv.sums
    c.fly_row-row.result.lost c.with-sums.ensures.free c.with-sums.ensures.lost taken
    c.fly_row-row.ensures.lost_size kept
    (subst (λ (v : Vec3). Covers c.with-sums.result.reach forces.limit v) (sym (there ∙ c.of-to.ensures.place)) own)
    (λ j lt. halves_other forces held i at high was c.loop-i.at c.loop-i.high c.loop-i.before inv.rows low up old room room_high
    room_before j (λ e. absurd (omega arith))) in
    let free = fits c.with-sums.result.free (omega (arith, more.few, inv.count, c.requires.few)) in
    record {
      count = inv.count;
      rows = rows_more forces held i at high was c.loop-i.at c.loop-i.high c.loop-i.before inv.rows low up old room room_high room_before
          refl c.of-to.ensures.spare is;
      sums = simp to_z-of_z more;
    }

pub returns-clause-sums : goal.returns-clause-sums
returns-clause-sums c = subst (λ (n : ℕ). AreSummed c.args.flight.forces n (are_free c.args.flight.held.now) (place_in c.args.at.now)
    (place_in c.args.before.now) (halves_at c.loop-i.at c.loop-i.high)
    (record { free = to_z w64 c.loop-i.free-bits; lost = c.loop-i.lost; reach = c.loop-i.reach }))
    (omega (arith, c.loop-i.invariant.count)) c.loop-i.invariant.sums

pub returns-clause-rows : goal.returns-clause-rows
returns-clause-rows c = subst (λ (n : ℕ). WrittenRows c.args.flight.forces c.args.flight.held.now n c.args.at.now c.args.high.now
    c.args.before.now c.loop-i.at c.loop-i.high c.loop-i.before) (omega (arith, c.loop-i.invariant.count)) c.loop-i.invariant.rows
