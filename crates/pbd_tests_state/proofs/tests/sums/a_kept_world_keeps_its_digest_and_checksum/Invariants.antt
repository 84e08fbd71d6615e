use Rattle.pbd_tests_state.proofs.tests.sums.a_kept_world_keeps_its_digest_and_checksum.Given as goal

abbrev pub ghosts-told : goal.ghosts-told
ghosts-told g a = record { name = a.blank.name; parts = a.blank.parts }
