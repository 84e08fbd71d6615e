use Rattle.pbd_cloth.proofs.cloth.Cloth.digest_slot.Given as goal

abbrev pub ghosts-digest_counted : goal.ghosts-digest_counted
ghosts-digest_counted a = record { name = a.blank.name; parts = a.blank.parts }
