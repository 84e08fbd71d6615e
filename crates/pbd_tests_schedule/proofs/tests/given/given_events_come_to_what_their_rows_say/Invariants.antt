use Rattle.pbd_tests_schedule.proofs.tests.given.given_events_come_to_what_their_rows_say.Given as goal

abbrev pub ghosts-tried : goal.ghosts-tried
ghosts-tried g a = record { name = a.blank.name; parts = a.blank.parts }
