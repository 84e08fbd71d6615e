use Rattle.pbd_tests_parts.proofs.tests.touching.finds_linked.Given as goal

abbrev pub ghosts-finds_counted : goal.ghosts-finds_counted
ghosts-finds_counted a = record { name = a.blank.name; parts = a.blank.parts }
