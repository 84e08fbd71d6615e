use Rattle.pbd_tests_schedule.proofs.tests.illegal.other_lists_of_up_to_seven_events_are_refused.Given as goal

abbrev pub ghosts-tried : goal.ghosts-tried
ghosts-tried g a = record { name = a.blank.name; parts = a.blank.parts }
