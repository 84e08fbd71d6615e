use Rattle.std.proofs.Common.{◌≡◌, refl, ◌*◌, arith, subst, unsigned_abs, w64, FitsSigned}
use Rattle.std.proofs.lemmas.Int.{to_z-of_z}
use Rattle.pbd_num.specs.Vectors.{Within, zero_vector}
use Rattle.pbd_world.specs.declared.parts.Particle.{Particle}
use Rattle.pbd_world.specs.Particles.{particle_at}
use Rattle.pbd_store.specs.Blocks.{filled_lanes}
use Rattle.pbd_store.proofs.Saves.{place_loaded, held_loaded, block_saved, saved_each, same_parts}
use Rattle.pbd_store.proofs.Places.{place_in, before_of}
use Rattle.pbd_world.specs.Step.{Passing}
use Rattle.pbd_store.specs.Moving.{motion_of}
use Rattle.pbd_shape.specs.Valid.{IsLimit, shapes_are}
use Rattle.pbd_shape.specs.Way.{all_shapes, IsStill}
use Rattle.pbd_shape.proofs.Still.{lane_within, pushed_still}
use Rattle.pbd_shape.proofs.shapes.Shapes.push_block.Goals as goal

pub touches-requires : goal.touches-requires
touches-requires g c =
    let e = c.load-lanes.ensures in
    let r = c.requires in
    let read = c.limit-limit.ensures in
    let ps = c.args.work.now.store.now.particles in
    let size = r.lanes_high in
    let limit : IsLimit c.args.work.now.store.now.limit = subst IsLimit read.value (record { low = read.low; high = read.high }) in (
      omega (arith, size),
      (
        r.lanes_high,
        (
          shapes_are c.args.work.now.store.now.limit c.args.self limit r.valid,
          λ j h. lane_within g.row.L c.args.block j c.args.work.now.store.now.limit ps limit.high r.inside
              (place_loaded (λ p. p.at) g.row.L c.args.block j ps e.at_x e.at_y e.at_z h),
        ),
      ),
    )

pub returns-then-not-touches-clause-outcome : goal.returns-then-not-touches-clause-outcome
returns-then-not-touches-clause-outcome g c =
    let e = c.load-lanes.ensures in
    let limit = c.args.work.now.store.now.limit in
    let ps = c.args.work.now.store.now.particles in
    let shapes = all_shapes c.args.self in
    let s : Passing = record { motion = motion_of c.args.work.now.store.now c.args.work.now.totals.now; touched = c.args.touched.now } in
    pushed_still limit shapes s c.requires.flags (c.args.block * g.row.L) g.row.L
    (λ j h within. subst (IsStill limit shapes) (place_loaded (λ p. p.at) g.row.L c.args.block j ps e.at_x e.at_y e.at_z h)
    ((c.touches.ensures c.if-not-touches.true).at limit j h))

pub push_one_by_one-requires : goal.push_one_by_one-requires
push_one_by_one-requires g c =
    let f : FitsSigned w64 c.limit-limit.result = record { sfits = c.limit-limit.type_inv } in
    let read = c.limit-limit.ensures in
    let e = c.load-lanes.ensures in
    let ps = c.args.work.now.store.now.particles in
    let size = c.requires.lanes_high in (
      omega arith,
      (
        omega (arith, size),
        (
          simp to_z-of_z (record { low = read.low; high = read.high }),
          (
            simp to_z-of_z read.value,
            (
              c.requires,
              (
                (λ j h. place_loaded (λ p. p.at) g.row.L c.args.block j ps e.at_x e.at_y e.at_z h),
                (λ j h. held_loaded g.row.L c.args.block j ps e.held h),
              ),
            ),
          ),
        ),
      ),
    )

pub returns-in-Ok-clause-outcome : goal.returns-in-Ok-clause-outcome
returns-in-Ok-clause-outcome g c =
    let e = c.load-lanes.ensures in
    let ps = c.args.work.now.store.now.particles in
    let qs = c.save.new.self.particles in
    c.in-Ok.ensures.outcome qs (block_saved g.row.L c.args.block (place_in c.in-Ok.places)
    (before_of g.row.L c.args.block ps) ps qs e.filled c.from_places-lanes.ensures
    (λ j h. place_loaded (λ p. p.before) g.row.L c.args.block j ps e.before_x e.before_y e.before_z h) c.save.ensures.particles)

pub returns-in-Ok-clause-fixed : goal.returns-in-Ok-clause-fixed
returns-in-Ok-clause-fixed g c =
    let e = c.load-lanes.ensures in
    let ps = c.args.work.now.store.now.particles in
    let qs = c.save.new.self.particles in
    let fixed = λ (p : Particle). record p { at = zero_vector } in
    let saved = block_saved g.row.L c.args.block (place_in c.in-Ok.places)
    (before_of g.row.L c.args.block ps) ps qs e.filled c.from_places-lanes.ensures
    (λ j h. place_loaded (λ p. p.before) g.row.L c.args.block j ps e.before_x e.before_y e.before_z h) c.save.ensures.particles in
    same_parts fixed qs ps saved.whole (saved_each (c.args.block * g.row.L) (filled_lanes g.row.L c.args.block ps) (place_in c.in-Ok.places)
    (before_of g.row.L c.args.block ps) ps (λ i p. fixed p ≡ fixed (particle_at ps i)) g.row.L qs saved (λ j h k. refl) (λ i h. refl))

pub returns-in-Ok-clause-inside : goal.returns-in-Ok-clause-inside
returns-in-Ok-clause-inside g c =
    let e = c.load-lanes.ensures in
    let ps = c.args.work.now.store.now.particles in
    let qs = c.save.new.self.particles in
    let saved = block_saved g.row.L c.args.block (place_in c.in-Ok.places)
    (before_of g.row.L c.args.block ps) ps qs e.filled c.from_places-lanes.ensures
    (λ j h. place_loaded (λ p. p.before) g.row.L c.args.block j ps e.before_x e.before_y e.before_z h) c.save.ensures.particles in
    let each = saved_each (c.args.block * g.row.L) (filled_lanes g.row.L c.args.block ps) (place_in c.in-Ok.places)
    (before_of g.row.L c.args.block ps) ps (λ i p. Within (unsigned_abs c.args.work.now.store.now.limit) p.at) g.row.L qs saved
    c.in-Ok.ensures.inside c.requires.inside.each in
    record { each = λ i h. each i (omega (arith, h, saved.whole)) }

pub returns-in-Ok-clause-room : goal.returns-in-Ok-clause-room
returns-in-Ok-clause-room g c = c.push_one_by_one.ensures.room

pub returns-in-Err-clause-room : goal.returns-in-Err-clause-room
returns-in-Err-clause-room g c = c.push_one_by_one.ensures.room

pub returns-in-Err-clause-inside : goal.returns-in-Err-clause-inside
returns-in-Err-clause-inside g c = c.requires.inside

pub returns-then-not-touches-clause-inside : goal.returns-then-not-touches-clause-inside
returns-then-not-touches-clause-inside g c = c.requires.inside

pub returns-in-Ok-clause-flags : goal.returns-in-Ok-clause-flags
returns-in-Ok-clause-flags g c = c.push_one_by_one.ensures.flags

pub returns-in-Err-clause-flags : goal.returns-in-Err-clause-flags
returns-in-Err-clause-flags g c = c.push_one_by_one.ensures.flags

pub returns-in-Ok-clause-limit : goal.returns-in-Ok-clause-limit
returns-in-Ok-clause-limit g c = c.save.ensures.limit

pub returns-in-Ok-clause-copies : goal.returns-in-Ok-clause-copies
returns-in-Ok-clause-copies g c = c.save.ensures.copies
