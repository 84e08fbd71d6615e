use Rattle.pbd_tests_pairs.proofs.tests.pair.batches_come_to_the_same_one_by_one_and_side_by_side.Given as goal

abbrev pub ghosts-widths : goal.ghosts-widths
ghosts-widths a = record { name = a.blank.name; parts = a.blank.parts }
