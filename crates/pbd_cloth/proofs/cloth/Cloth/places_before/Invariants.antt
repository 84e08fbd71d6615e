use Rattle.pbd_cloth.proofs.cloth.Cloth.places_before.Given as goal

abbrev pub ghosts-write_particles : goal.ghosts-write_particles
ghosts-write_particles a = record { name = a.blank.name; parts = a.blank.parts }
