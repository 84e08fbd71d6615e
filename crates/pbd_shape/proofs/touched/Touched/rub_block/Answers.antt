use Rattle.std.proofs.Common.{◌≡◌, refl, ◌+◌, ◌*◌, arith, unsigned_abs}
use Rattle.std.proofs.lemmas.Int.{to_z-of_z}
use Rattle.pbd_num.specs.Vectors.{Within, zero_vector}
use Rattle.pbd_world.specs.declared.parts.Particle.{Particle}
use Rattle.pbd_world.specs.Particles.{particle_at}
use Rattle.pbd_store.specs.Blocks.{filled_lanes}
use Rattle.pbd_store.proofs.Saves.{place_loaded, held_loaded, block_saved, saved_each, same_parts}
use Rattle.pbd_store.proofs.Places.{place_in, at_of}
use Rattle.pbd_shape.proofs.touched.Touched.rub_block.Goals as goal

pub rub_one_by_one-places-requires : goal.rub_one_by_one-places-requires
rub_one_by_one-places-requires g c =
    let f = c.ranges.friction in
    let e = c.load-lanes.ensures in
    let ps = c.args.work.now.store.now.particles in
    let size = c.requires.lanes_high in (
      omega arith,
      (
        omega (arith, size),
        (
          simp to_z-of_z c.requires,
          (
            e.limit,
            (
              (λ j h. place_loaded (λ p. p.at) g.row.L c.args.block j ps e.at_x e.at_y e.at_z h),
              (
                (λ j h. place_loaded (λ p. p.before) g.row.L c.args.block j ps e.before_x e.before_y e.before_z h),
                (λ j h. held_loaded g.row.L c.args.block j ps e.held h),
              ),
            ),
          ),
        ),
      ),
    )

pub returns : goal.returns
returns g c =
    let f = c.ranges.friction in
    let e = c.load-lanes.ensures in
    let r = c.rub_one_by_one-places.ensures in
    let ps = c.args.work.now.store.now.particles in
    let qs = c.save.new.self.particles in
    let block = c.args.block in
    let places = c.rub_one_by_one-places.result in
    let settled = λ (p : Particle). record p { before = zero_vector } in
    let limit = c.args.work.now.store.now.limit in
    let saved = block_saved g.row.L block (at_of g.row.L block ps) (place_in places) ps qs e.filled
    (λ j h. place_loaded (λ p. p.at) g.row.L block j ps e.at_x e.at_y e.at_z h) c.from_places-lanes.ensures c.save.ensures.particles in
    let start = block * g.row.L in
    let filled = filled_lanes g.row.L block ps in
    let outcome = simp to_z-of_z at r.outcome in
    record {
      store = refl;
      totals = refl;
      steps = refl;
      outcome = outcome qs saved;
      limit = c.save.ensures.limit;
      copies = c.save.ensures.copies;
      settled = same_parts settled qs ps saved.whole (saved_each start filled (at_of g.row.L block ps) (place_in places) ps
          (λ i p. settled p ≡ settled (particle_at ps i)) g.row.L qs saved (λ j h k. refl) (λ i h. refl));
      within = record {
        at = λ i h. saved_each start filled (at_of g.row.L block ps) (place_in places) ps
            (λ i p. Within (unsigned_abs limit) p.at) g.row.L qs saved (λ j h k. c.requires.within.at (start + j) k) c.requires.within.at i
            (omega (arith, h, saved.whole));
        before = λ i h. saved_each start filled (at_of g.row.L block ps) (place_in places) ps
            (λ i p. Within (unsigned_abs limit) p.before) g.row.L qs saved r.within c.requires.within.before i
            (omega (arith, h, saved.whole));
      };
      room = r.room;
      cost = omega (arith, c.load-lanes.ensures.cost, c.save.ensures.cost);
    }
