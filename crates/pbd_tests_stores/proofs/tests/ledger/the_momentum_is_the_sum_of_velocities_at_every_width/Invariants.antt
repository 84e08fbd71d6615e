use Rattle.pbd_tests_stores.proofs.tests.ledger.the_momentum_is_the_sum_of_velocities_at_every_width.Given as goal

abbrev pub ghosts-counted : goal.ghosts-counted
ghosts-counted a = record { name = a.blank.name; parts = a.blank.parts }
