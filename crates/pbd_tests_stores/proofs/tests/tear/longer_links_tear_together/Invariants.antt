use Rattle.pbd_tests_stores.proofs.tests.tear.longer_links_tear_together.Given as goal

abbrev pub ghosts-counted : goal.ghosts-counted
ghosts-counted a = record { name = a.blank.name; parts = a.blank.parts }
