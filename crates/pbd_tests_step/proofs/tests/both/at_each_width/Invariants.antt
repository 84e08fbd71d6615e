use Rattle.pbd_tests_step.proofs.tests.both.at_each_width.Given as goal

abbrev pub ghosts-counted : goal.ghosts-counted
ghosts-counted a = record { name = a.blank.name; parts = a.blank.parts }
