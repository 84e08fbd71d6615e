use Rattle.std.proofs.Common.{rules, refl, sym, ap, ◌∙◌, map, arith, subst, length, List, FitsSigned, ◌≤◌}
use Rattle.std.specs.Int.{w64}
use Rattle.std.proofs.lemmas.Int.{to_z-of_z}
use Rattle.std.proofs.lemmas.Bool.{and_parts, leb-true}
use Rattle.pbd_world.specs.declared.parts.Particle.{Particle}
use Rattle.pbd_world.specs.Particles.{effective_weight}
use Rattle.pbd_step.proofs.Keeping.{valid_formed}
use Rattle.pbd_step.proofs.open.open_state.Goals as goal

pub open-requires : goal.open-requires
open-requires g c =
    let form = valid_formed c.args.parts.now c.requires.valid in
    let f : FitsSigned w64 c.args.parts.now.limit = search rules in
    simp to_z-of_z (
      omega arith,
      (
        subst (λ (ps : List Particle). length ps ≤ 65536) (sym c.as_slice.ensures)
            (leb-true (length c.args.parts.now.particles) 65536 (and_parts _ _ form.particles).0),
        form.limit,
      ),
    )

pub returns-in-Ok : goal.returns-in-Ok
returns-in-Ok g c =
    let f : FitsSigned w64 c.args.parts.now.limit = search rules in
    let limit = simp to_z-of_z at c.in_ok-store.ensures.limit in
    let particles = c.in_ok-store.ensures.particles ∙ c.as_slice.ensures in
    record {
      particles = particles;
      limit = limit;
      weights = c.in-Ok.ensures.weights ∙ ap (λ (ps : List Particle). map effective_weight ps) (sym particles);
      copies = c.in_ok-store.ensures.copies;
      links = c.in-Ok.ensures.links;
      totals = search;
      steps = refl;
      contacts = refl;
    }
