use Rattle.std.proofs.Common.{ap, sym, ◌∙◌, ◌*◌, ◌^◌, ◌<◌, ◌≤◌, ℕ, arith, subst, length, map, unsigned_abs}
use Rattle.std.proofs.lemmas.Int.{to_z-of_z}
use Rattle.pbd_num.specs.Vectors.{Within}
use Rattle.pbd_num.proofs.Ranges.{wider}
use Rattle.pbd_num.proofs.Sizes.{fits}
use Rattle.pbd_world.specs.declared.parts.Particle.{Particle}
use Rattle.pbd_world.specs.Particles.{particle_at, is_free}
use Rattle.pbd_store.specs.Stored.{Stored}
use Rattle.pbd_store.specs.Moving.{AreInside}
use Rattle.pbd_store.specs.Reaching.{Covers}
use Rattle.pbd_store.specs.Flying.{after_flight, AreSummed}
use Rattle.pbd_store.proofs.Landed.{flown_at_is, flown_long, all_within, one_outside}
use Rattle.pbd_store.proofs.store.Store.fly.Goals as goal

pub fly-sums-requires : goal.fly-sums-requires
fly-sums-requires g c =
    let limit = unsigned_abs c.args.forces.limit in
    let at = subst (λ (s : Stored). AreInside c.args.forces.limit s.particles) (sym c.self.view_is) c.requires.at in
    let before = subst (λ (s : Stored). (i : ℕ) → i < length s.particles → Within limit (particle_at s.particles i).before)
    (sym c.self.view_is) c.requires.before in (
      omega arith,
      (
        c.requires.lanes,
        (
          c.requires.forces,
          (
            (λ i lt. wider _ limit (2 ^ 29) c.requires.forces.high (at.each i lt)),
            (λ i lt. wider _ limit (2 ^ 29) c.requires.forces.high (before i lt)),
          ),
        ),
      ),
    )

pub first_outside-requires : goal.first_outside-requires
first_outside-requires g c =
    let f = fits c.args.forces.limit (omega (arith, c.requires.forces.high)) in
    let ps = c.self.inside.columns in
    let qs = c.fly-sums.new.self in
    let many = flown_long c.args.forces ps qs c.fly-sums.ensures.particles in
    let reach = λ (i : ℕ) (lt : i < length qs). subst (λ (p : Particle). Covers c.fly-sums.result.reach c.args.forces.limit p.at)
    (sym (flown_at_is c.args.forces ps qs c.fly-sums.ensures.particles i (omega (arith, lt, many))))
    (c.fly-sums.ensures.sums.reach i (omega (arith, lt, many))) in
    (omega arith, (c.requires.lanes, (simp to_z-of_z c.requires.forces.low, (simp to_z-of_z c.requires.forces.high, simp to_z-of_z reach))))

pub returns-in-Err-clause-outcome : goal.returns-in-Err-clause-outcome
returns-in-Err-clause-outcome g c =
    let f = fits c.args.forces.limit (omega (arith, c.requires.forces.high)) in
    let new = c.fly-sums.ensures.particles
    ∙ ap (λ (s : Stored). map (λ (p : Particle). after_flight c.args.forces p) s.particles) c.self.view_is in
    let outside = simp to_z-of_z at c.in-Err.ensures in
    one_outside c.args.forces c.args.self.now.particles c.fly-sums.new.self new c.in-Err.i outside

pub returns-clause-outcome : goal.returns-clause-outcome
returns-clause-outcome g c =
    let f = fits c.args.forces.limit (omega (arith, c.requires.forces.high)) in
    let new = c.fly-sums.ensures.particles
    ∙ ap (λ (s : Stored). map (λ (p : Particle). after_flight c.args.forces p) s.particles) c.self.view_is in
    let inside = simp to_z-of_z at c.in_default.ensures in
    let few : length c.args.self.now.particles ≤ 65536 = omega (
      arith,
      c.fly-sums.ensures.few,
      ap (λ (s : Stored). length s.particles)
          c.self.view_is,
    ) in
    let sums = subst (λ (s : Stored). AreSummed c.args.forces (length s.particles) (λ i. is_free (particle_at s.particles i))
    (λ i. (particle_at s.particles i).at) (λ i. (particle_at s.particles i).before)
    (λ i. (after_flight c.args.forces (particle_at s.particles i)).at) c.fly-sums.result) c.self.view_is c.fly-sums.ensures.sums in
    let free = fits c.fly-sums.result.free (omega (arith, sums.few, few)) in
    record {
      within = all_within c.args.forces c.args.self.now.particles c.fly-sums.new.self new inside;
      free = simp to_z-of_z sums.free;
      lost = sums.lost;
      few = simp to_z-of_z (omega (arith, sums.few, few));
      small = wider _ (length c.args.self.now.particles * 2 ^ 30) (2 ^ 46) (omega (arith, few)) sums.small;
    }
