use Rattle.pbd_cloth.proofs.cloth.Cloth.apply.Given as goal

abbrev pub ghosts-apply_counted : goal.ghosts-apply_counted
ghosts-apply_counted a = record { name = a.blank.name; parts = a.blank.parts }
