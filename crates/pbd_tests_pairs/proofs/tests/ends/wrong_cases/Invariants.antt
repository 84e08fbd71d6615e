use Rattle.pbd_tests_pairs.proofs.tests.ends.wrong_cases.Given as goal

abbrev pub ghosts-wrong_case : goal.ghosts-wrong_case
ghosts-wrong_case g a = record { name = a.blank.name; parts = a.blank.parts }
