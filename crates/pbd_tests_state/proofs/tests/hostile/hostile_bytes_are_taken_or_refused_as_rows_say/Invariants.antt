use Rattle.pbd_tests_state.proofs.tests.hostile.hostile_bytes_are_taken_or_refused_as_rows_say.Given as goal

abbrev pub ghosts-wrong_rows : goal.ghosts-wrong_rows
ghosts-wrong_rows g a = record { name = a.blank.name; parts = a.blank.parts }
