use Rattle.pbd_tests_pairs.proofs.tests.shape.wrong_pushes.Given as goal

abbrev pub ghosts-wrong_push : goal.ghosts-wrong_push
ghosts-wrong_push g a = record { name = a.blank.name; parts = a.blank.parts }
