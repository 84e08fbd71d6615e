use Rattle.pbd_tests_session.proofs.tests.session.wrong_case.Given as goal

abbrev pub ghosts-counted : goal.ghosts-counted
ghosts-counted g a = record { name = a.blank.name; parts = a.blank.parts }
