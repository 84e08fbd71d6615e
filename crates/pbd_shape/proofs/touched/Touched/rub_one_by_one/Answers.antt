use Rattle.std.proofs.Common.{◌≡◌, refl, ap, ◌∙◌, ◌+◌, ◌*◌, ◌^◌, ◌<◌, arith, unsigned_abs, Bool, List, length, get_or, false, not}
use Rattle.std.proofs.Common.{◌&&◌, cond}
use Rattle.std.proofs.lemmas.Int.{to_z-of_z}
use Rattle.std.proofs.lemmas.List.{length-replicate, length-set}
use Rattle.pbd_num.specs.declared.Vec3.{Vec3}
use Rattle.pbd_num.specs.Vectors.{Within, zero_vector, plus, minus}
use Rattle.pbd_world.specs.declared.totals.Class.TheVariants as classes
use Rattle.pbd_world.specs.Ledger.{ledger_of, added}
use Rattle.pbd_world.specs.Particles.{particle_at}
use Rattle.pbd_world.specs.Shapes.{rubbed_away}
use Rattle.pbd_world.proofs.Rooms.{room_at}
use Rattle.pbd_num.proofs.Ranges.{wider}
use Rattle.pbd_store.proofs.Places.{inside_more, within_at}
use Rattle.pbd_shape.proofs.Steps.{HasParticle, has_particle, are_all, rubbing_none, rubbing_on, rubbing_all, loss_of, loss_within}
use Rattle.pbd_shape.proofs.Steps.{part_low, part_high}
use Rattle.pbd_shape.proofs.touched.Touched.rub_one_by_one.Goals.{After-place}
use Rattle.pbd_shape.proofs.touched.Touched.rub_one_by_one.Goals as goal
use Rattle.pbd_world.proofs.WholeLemmas.{limit_high}

-- lane j has a particle
here : (g : _) (c : After-place g) → HasParticle g.row.L c.args.loaded.block c.loop-j.j c.args.loaded.store.now.particles
here g c = let span = c.span-span.ensures in has_particle span.first span.count span.within c.loop-j-test.true

-- its place, and the place before, are in the range of the greater limit
at_within : (g : _) (c : After-place g) → Within (2 ^ 29) c.place.result
at_within g c = wider _ _ (2 ^ 29) (limit_high c.args.loaded.store.now.limit c.requires.limit)
    (within_at refl (c.place.ensures ∙ c.requires.at _ (here g c).lane) (c.requires.ready.within.at _ (here g c).within))

before_within : (g : _) (c : After-place g) → Within (2 ^ 29) c.place-before.result
before_within g c = wider _ _ (2 ^ 29) (limit_high c.args.loaded.store.now.limit c.requires.limit)
    (within_at refl (c.place-before.ensures ∙ c.requires.before _ (here g c).lane) (c.requires.ready.within.before _ (here g c).within))

pub span-span-requires : goal.span-span-requires
span-span-requires g c =
    let ready = c.requires.ready in (omega arith, (ready.lanes_low, (ready.lanes_high, ready.block)))

pub place-requires : goal.place-requires
place-requires g c = (omega (arith, c.requires.ready.lanes_high), omega (arith, c.span-span.ensures.count, c.loop-j-test.true))

pub place-before-requires : goal.place-before-requires
place-before-requires g c = (omega (arith, c.requires.ready.lanes_high), omega (arith, c.span-span.ensures.count, c.loop-j-test.true))

pub loop-j-init : goal.loop-j-init
loop-j-init g c =
    let f = c.ranges.friction in
    record {
      some = simp to_z-of_z rubbing_none;
      whole = length-replicate _ _;
      within = λ k h. absurd (omega arith);
      room = λ n h. room_at _ (omega arith) h;
    }

pub is_rubbed-rubs-requires : goal.is_rubbed-rubs-requires
is_rubbed-rubs-requires g c =
    let span = c.span-span.ensures in
    omega (arith, span.within, c.requires.ready.flags, c.loop-j-test.true)

pub minus-requires : goal.minus-requires
minus-requires g c =
    let lane = (goal.at.minus-requires g c).After-place in
    record {
      first = wider _ (2 ^ 29) (2 ^ 61) (omega arith) (at_within g lane);
      second = wider _ (2 ^ 29) (2 ^ 61) (omega arith) (before_within g lane);
    }

pub lost_if-loss-requires : goal.lost_if-loss-requires
lost_if-loss-requires g c =
    let f = c.ranges.friction in
    let lane = (goal.at.lost_if-loss-requires g c).After-place in
    record {
      friction = simp to_z-of_z c.requires.ready.valid_friction;
      velocity = c.minus.ensures.size (2 ^ 29) (2 ^ 29) (at_within g lane) (before_within g lane);
    }

pub opposite-requires : goal.opposite-requires
opposite-requires g c = wider _ (2 ^ 30) (2 ^ 61) (omega arith) c.lost_if-loss.ensures.size

pub book_if-requires : goal.book_if-requires
book_if-requires g c =
    let span = c.span-span.ensures in
    record {
      room = room_at (2 ^ 126) (omega (arith, span.count, c.requires.ready.lanes_high, c.loop-j-test.true))
          (c.loop-j.invariant.room (2 ^ 125) c.requires.ready.room);
      short = wider _ (2 ^ 30) (2 ^ 31) (omega arith) (c.opposite.ensures.size (2 ^ 30) c.lost_if-loss.ensures.size);
    }

pub plus-requires : goal.plus-requires
plus-requires g c =
    record {
      first = wider _ (2 ^ 29) (2 ^ 61) (omega arith) (before_within g (goal.at.plus-requires g c).After-place);
      second = wider _ (2 ^ 30) (2 ^ 61) (omega arith) c.lost_if-loss.ensures.size;
    }

pub loop-j-preserved : goal.loop-j-preserved
loop-j-preserved g c =
    let f = c.ranges.friction in
    let inv = c.loop-j.invariant in
    let friction = c.args.friction in
    let j = c.loop-j.j in
    let ps = c.args.loaded.store.now.particles in
    let ts = c.args.self.now in
    let i = c.args.loaded.block * g.row.L + j in
    let p = particle_at ps i in
    let u = ledger_of c.loop-j.totals in
    let span = c.span-span.ensures in
    let made = c.is_rubbed-rubs.result in
    let loss = c.lost_if-loss.result in
    let here = here g (goal.at.loop-j-preserved g c).After-place in
    let held = ap (λ (bs : List Bool). get_or bs j false) c.to_array-held.ensures ∙ c.requires.held _ here.lane in
    let before = c.place-before.ensures ∙ c.requires.before _ here.lane in
    let at = c.place.ensures ∙ c.requires.at _ here.lane in
    let makes : made ≡ (not p.held && get_or ts i false) = c.is_rubbed-rubs.ensures
    ∙ (λ k. not (held k) && get_or ts (span.first k + j) false) in
    let told = simp to_z-of_z at c.lost_if-loss.ensures.value in
    let velocity = c.minus.ensures.value ∙ (λ k. minus (at k) (before k)) in
    let loses : loss ≡ loss_of friction made p.before p.at = told
    ∙ ap (λ (v : Vec3). cond made (rubbed_away friction v) zero_vector) velocity in
    let comes : c.plus.result ≡ plus p.before loss = c.plus.ensures.value ∙ ap (λ (v : Vec3). plus v loss) before in
    let books = c.book_if.ensures.value ∙ ap (λ (v : Vec3). cond made (added u classes.Shape v) u) c.opposite.ensures.value in
    let room : j < length c.loop-j.places = omega (arith, inv.whole) in
    let some = simp to_z-of_z at inv.some in
    let stays = within_at refl (comes ∙ ap (plus p.before) loses)
    (loss_within friction made p.before p.at (unsigned_abs c.args.loaded.store.now.limit) (part_low friction c.requires.ready.valid_friction)
    (part_high friction c.requires.ready.valid_friction) (c.requires.ready.within.before i here.within) (c.requires.ready.within.at i here.within)) in
    record {
      some = simp to_z-of_z (rubbing_on some here.lane here.within c.requires.ready.flags room made loss c.plus.result _ makes loses
          comes books);
      whole = length-set c.loop-j.places j c.plus.result ∙ inv.whole;
      within = inside_more _ c.loop-j.places j c.plus.result room inv.within stays;
      room = λ n h. room_at _ (omega arith) (c.book_if.ensures.room _ (inv.room n h));
    }

pub returns : goal.returns
returns g c =
    let f = c.ranges.friction in
    let inv = c.loop-j.invariant in
    let span = c.span-span.ensures in
    let done = are_all span.first span.count span.last c.loop-j-test.false c.loop-j.auto.j-end in
    let some = simp to_z-of_z at inv.some in
    record {
      outcome = rubbing_all some done.high done.last;
      within = λ j h k. inv.within j (done.each j h k);
      room = λ n h. room_at _ (omega (arith, span.first, span.count, span.within, c.loop-j-test.false, c.loop-j.auto.j-end)) (inv.room n h);
    }
