use Rattle.pbd_pair.proofs.mend.try_rows.Goals as goal

pub returns-then-try_wide : goal.returns-then-try_wide
returns-then-try_wide c = record { tried = c.try_wide.ensures.tried; all = λ right. c.try_wide.ensures.all c.if-try_wide.true }
