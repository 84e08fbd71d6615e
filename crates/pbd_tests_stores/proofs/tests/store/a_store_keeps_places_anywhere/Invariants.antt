use Rattle.pbd_tests_stores.proofs.tests.store.a_store_keeps_places_anywhere.Given as goal

abbrev pub ghosts-far_widths : goal.ghosts-far_widths
ghosts-far_widths a = record { name = a.blank.name; parts = a.blank.parts }
