use Rattle.pbd_world.specs.Particles.{particle_at}
use Rattle.pbd_store.specs.Fields.{place_of_kind}
use Rattle.pbd_store.specs.Flying.{WrittenFirst}
use Rattle.pbd_store.proofs.rows.PlaceRows.open.Given as goal

abbrev pub invariant-loop-i : goal.invariant-loop-i
invariant-loop-i l = WrittenFirst l.i (λ j. place_of_kind l.which (particle_at l.particles j)) l.initial.places l.places
