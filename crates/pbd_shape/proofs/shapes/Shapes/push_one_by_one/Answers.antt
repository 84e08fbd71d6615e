use Rattle.std.proofs.Common.{◌≡◌, refl, sym, ap, ◌∙◌, ℕ, ◌+◌, ◌*◌, ◌^◌, ◌<◌, ◌≤◌, arith, w64, FitsSigned, unsigned_abs, Bool, List, length, get_or}
use Rattle.std.proofs.Common.{true, false, not, cond, slice_set, Err, subst}
use Rattle.std.proofs.lemmas.Int.{to_z-of_z}
use Rattle.std.proofs.lemmas.List.{length-replicate, length-set}
use Rattle.pbd_num.specs.Vectors.{Within, minus}
use Rattle.pbd_world.specs.declared.totals.Class.TheVariants as classes
use Rattle.pbd_world.specs.Ledger.{ledger_of, added}
use Rattle.pbd_world.specs.Particles.{particle_at}
use Rattle.pbd_shape.specs.Valid.{IsLimit, shapes_are}
use Rattle.pbd_shape.specs.Way.{way_of, all_shapes}
use Rattle.pbd_world.proofs.Rooms.{room_at}
use Rattle.pbd_num.proofs.Ranges.{wider}
use Rattle.pbd_store.proofs.Places.{at_of, inside_more, within_at}
use Rattle.pbd_shape.proofs.Steps.{HasParticle, has_particle, are_all, pushing_none, pushing_out, pushing_on, pushing_all, way_is, flagged_length}
use Rattle.pbd_shape.proofs.shapes.Shapes.push_one_by_one.Goals.{After-place-from, In-Some}
use Rattle.pbd_shape.proofs.shapes.Shapes.push_one_by_one.Goals as goal

-- lane j has a particle, whose place and whether it is held the lanes tell
here : (g : _) (c : After-place-from g) → HasParticle g.row.L c.args.loaded.block c.loop-j.j c.args.loaded.store.now.particles
here g c = let span = c.span-span.ensures in has_particle span.first span.count span.within c.loop-j-test.true

place_is : (g : _) (c : After-place-from g) → c.place-from.result ≡ at_of g.row.L c.args.loaded.block c.args.loaded.store.now.particles c.loop-j.j
place_is g c = c.place-from.ensures ∙ c.requires.at _ (here g c).lane

held_is : (g : _) (c : After-place-from g) → get_or c.to_array-held.result c.loop-j.j false
    ≡ (particle_at c.args.loaded.store.now.particles (c.args.loaded.block * g.row.L + c.loop-j.j)).held
held_is g c = ap (λ (bs : List Bool). get_or bs c.loop-j.j false) c.to_array-held.ensures ∙ c.requires.held _ (here g c).lane

-- where it is, and where it comes to
place_within : (g : _) (c : After-place-from g) → Within (unsigned_abs c.args.limit) c.place-from.result
place_within g c = within_at (ap unsigned_abs c.requires.same) (place_is g c) (c.requires.ready.inside.each _ (here g c).within)

next_within : (g : _) (c : In-Some g) → Within (unsigned_abs c.args.limit) c.in-Some.next.at
next_within g c = let f : FitsSigned w64 c.args.limit = c.ranges.limit in simp to_z-of_z at c.in-Some.ensures.within

pub span-span-requires : goal.span-span-requires
span-span-requires g c =
    let ready = c.requires.ready in (omega arith, (ready.lanes_low, (ready.lanes_high, ready.block)))

pub place-from-requires : goal.place-from-requires
place-from-requires g c =
    let span = c.span-span.ensures in
    let size = c.requires.ready.lanes_high in (omega (arith, size), omega (arith, span.count, c.loop-j-test.true))

pub loop-j-init : goal.loop-j-init
loop-j-init g c = record {
  some = pushing_none;
  whole = length-replicate _ _;
  flags = refl;
  inside = λ k h. absurd (omega arith);
  room = λ n h. room_at _ (omega arith) h;
}

pub push_if_free-requires : goal.push_if_free-requires
push_if_free-requires g c =
    let f : FitsSigned w64 c.args.limit = c.ranges.limit in
    record {
      limit = simp to_z-of_z c.requires.limit;
      shapes = shapes_are c.args.loaded.store.now.limit c.args.self (subst IsLimit c.requires.same c.requires.limit) c.requires.ready.valid;
      place = simp to_z-of_z (place_within g (goal.at.push_if_free-requires g c).After-place-from);
    }

pub returns-in_default-clause-outcome : goal.returns-in_default-clause-outcome
returns-in_default-clause-outcome g c =
    let f : FitsSigned w64 c.args.limit = c.ranges.limit in
    let j = c.loop-j.j in
    let ps = c.args.loaded.store.now.particles in
    let lane = (goal.at.returns-in_default-clause-outcome g c).After-place-from in
    let value = simp to_z-of_z at c.in_default.ensures.value in
    pushing_out c.loop-j.invariant.some (here g lane).lane (here g lane).within (way_is (all_shapes c.args.self)
    (particle_at ps (c.args.loaded.block * g.row.L + j)) c.requires.same (held_is g lane) (place_is g lane) value)
    ∙ ap (λ (m : ℕ). Err (m + j)) (sym c.span-span.ensures.first)

pub returns-in_default-clause-room : goal.returns-in_default-clause-room
returns-in_default-clause-room g c =
    let span = c.span-span.ensures in
    λ n h. room_at _ (omega (arith, span.first, span.count, span.within, c.loop-j-test.true)) (c.loop-j.invariant.room n h)

pub minus-requires : goal.minus-requires
minus-requires g c =
    let at = goal.at.minus-requires g c in
    let wide : unsigned_abs c.args.limit ≤ 2 ^ 61 = omega (arith, c.requires.limit.high) in
    record {
      first = wider _ _ (2 ^ 61) wide (next_within g at.In-Some);
      second = wider _ _ (2 ^ 61) wide (place_within g at.After-place-from);
    }

pub book_if-requires-clause-short : goal.book_if-requires-clause-short
book_if-requires-clause-short g c =
    let at = goal.at.book_if-requires-clause-short g c in
    let to = wider _ _ (2 ^ 29) c.requires.limit.high (next_within g at.In-Some) in
    let from = wider _ _ (2 ^ 29) c.requires.limit.high (place_within g at.After-place-from) in
    wider _ (2 ^ 30) (2 ^ 31) (omega arith) (c.minus.ensures.size (2 ^ 29) (2 ^ 29) to from)

pub book_if-requires-clause-room : goal.book_if-requires-clause-room
book_if-requires-clause-room g c =
    let span = c.span-span.ensures in
    room_at (2 ^ 126) (omega (arith, span.count, c.requires.ready.lanes_high, c.loop-j-test.true))
    (c.loop-j.invariant.room (2 ^ 125) c.requires.ready.room)

pub loop-j-preserved : goal.loop-j-preserved
loop-j-preserved g c =
    let f : FitsSigned w64 c.args.limit = c.ranges.limit in
    let inv = c.loop-j.invariant in
    let j = c.loop-j.j in
    let ps = c.args.loaded.store.now.particles in
    let u = ledger_of c.loop-j.totals in
    let next = c.in-Some.next in
    let known = goal.at.loop-j-preserved g c in
    let lane = here g known.After-place-from in
    let held = held_is g known.After-place-from in
    let at = place_is g known.After-place-from in
    let value = simp to_z-of_z at c.in-Some.ensures.value in
    let way = way_is (all_shapes c.args.self) (particle_at ps (c.args.loaded.block * g.row.L + j)) c.requires.same held at value in
    let books = c.book_if.ensures.value ∙ (λ k. cond (not (held k))
    (added u classes.Shape ((c.minus.ensures.value ∙ ap (minus next.at) at) k)) u) in
    let flags = c.touch_if.ensures
    ∙ ap (λ (m : ℕ). cond next.touched (slice_set c.loop-j.touched (m + j) true) c.loop-j.touched) c.span-span.ensures.first in
    let room : j < length c.loop-j.places = omega (arith, inv.whole) in
    record {
      some = pushing_on inv.some lane.lane lane.within (way_of next) _ _ (inv.flags ∙ c.requires.ready.flags) room way books flags;
      whole = length-set c.loop-j.places j next.at ∙ inv.whole;
      flags = ap length c.touch_if.ensures ∙ flagged_length next.touched _ _ ∙ inv.flags;
      inside = inside_more _ c.loop-j.places j next.at room inv.inside
          (within_at (ap unsigned_abs (sym c.requires.same)) refl (next_within g known.In-Some));
      room = λ n h. room_at _ (omega arith) (c.book_if.ensures.room _ (inv.room n h));
    }

pub returns : goal.returns
returns g c =
    let inv = c.loop-j.invariant in
    let span = c.span-span.ensures in
    let done = are_all span.first span.count span.last c.loop-j-test.false c.loop-j.auto.j-end in
    record {
      outcome = pushing_all inv.some (inv.flags ∙ c.requires.ready.flags) done.high done.last;
      inside = λ j h k. inv.inside j (done.each j h k);
      flags = inv.flags;
      room = λ n h. room_at _ (omega (arith, span.first, span.count, span.within, c.loop-j-test.false, c.loop-j.auto.j-end)) (inv.room n h);
    }
