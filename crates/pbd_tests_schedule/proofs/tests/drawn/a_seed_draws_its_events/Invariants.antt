use Rattle.pbd_tests_schedule.proofs.tests.drawn.a_seed_draws_its_events.Given as goal

abbrev pub ghosts-tried : goal.ghosts-tried
ghosts-tried g a = record { name = a.blank.name; parts = a.blank.parts }
