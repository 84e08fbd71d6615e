use Rattle.pbd_run.proofs.form.with_counter.Given as goal

abbrev pub ghosts-in_ledger : goal.ghosts-in_ledger
ghosts-in_ledger g a = record { name = a.blank.name; parts = a.blank.parts }
