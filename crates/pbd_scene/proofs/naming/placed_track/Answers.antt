use Rattle.pbd_scene.proofs.naming.placed_track.Goals as goal

pub returns-then-tracked-particle-clause-particle : goal.returns-then-tracked-particle-clause-particle
returns-then-tracked-particle-clause-particle c = rw c.broken.ensures tt
