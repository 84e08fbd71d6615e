use Rattle.pbd_cloth.proofs.cloth.Cloth.scene_name.Given as goal

abbrev pub ghosts-name_counted : goal.ghosts-name_counted
ghosts-name_counted a = record { name = a.blank.name; parts = a.blank.parts }
