use Rattle.pbd_cloth.proofs.cloth.Cloth.balance.Given as goal

abbrev pub ghosts-balance_counted : goal.ghosts-balance_counted
ghosts-balance_counted a = record { name = a.blank.name; parts = a.blank.parts }
