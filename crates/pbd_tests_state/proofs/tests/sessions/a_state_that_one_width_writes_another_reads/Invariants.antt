use Rattle.pbd_tests_state.proofs.tests.sessions.a_state_that_one_width_writes_another_reads.Given as goal

abbrev pub ghosts-wrong_sessions : goal.ghosts-wrong_sessions
ghosts-wrong_sessions a = record { name = a.blank.name; parts = a.blank.parts }
