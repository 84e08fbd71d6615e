use Rattle.pbd_cloth.proofs.cloth.Cloth.read_state.Given as goal

abbrev pub ghosts-read_counted : goal.ghosts-read_counted
ghosts-read_counted a = record { name = a.blank.name; parts = a.blank.parts }
