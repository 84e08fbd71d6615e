use Rattle.pbd_tests_pairs.proofs.tests.shape.friction_takes_of_velocities.Given as goal

abbrev pub ghosts-wrong_rub : goal.ghosts-wrong_rub
ghosts-wrong_rub a = record { name = a.blank.name; parts = a.blank.parts }
