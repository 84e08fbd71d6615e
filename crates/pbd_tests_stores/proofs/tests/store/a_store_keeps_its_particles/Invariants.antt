use Rattle.pbd_tests_stores.proofs.tests.store.a_store_keeps_its_particles.Given as goal

abbrev pub ghosts-widths : goal.ghosts-widths
ghosts-widths a = record { name = a.blank.name; parts = a.blank.parts }
