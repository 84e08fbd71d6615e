use Rattle.pbd_tests_state.proofs.tests.names.fixed_numbers_change_the_name_and_three_commands_do_not.Given as goal

abbrev pub ghosts-wrong_rows : goal.ghosts-wrong_rows
ghosts-wrong_rows a = record { name = a.blank.name; parts = a.blank.parts }
