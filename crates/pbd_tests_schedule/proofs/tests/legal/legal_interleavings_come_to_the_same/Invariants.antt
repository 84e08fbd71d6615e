use Rattle.pbd_tests_schedule.proofs.tests.legal.legal_interleavings_come_to_the_same.Given as goal

abbrev pub ghosts-tried : goal.ghosts-tried
ghosts-tried g a = record { name = a.blank.name; parts = a.blank.parts }
