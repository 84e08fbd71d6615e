use Rattle.pbd_cloth.proofs.cloth.Cloth.sums.Given as goal

abbrev pub ghosts-sums_counted : goal.ghosts-sums_counted
ghosts-sums_counted a = record { name = a.blank.name; parts = a.blank.parts }
