use Rattle.pbd_run.proofs.form.AtWidthCounted.run.Goals as goal

pub returns-in-W1 : goal.returns-in-W1
returns-in-W1 g c = c.over.ensures

pub returns-in-W2 : goal.returns-in-W2
returns-in-W2 g c = c.over-in-W2.ensures

pub returns-in-W4 : goal.returns-in-W4
returns-in-W4 g c = c.over-in-W4.ensures

pub returns-in-W8 : goal.returns-in-W8
returns-in-W8 g c = c.over-in-W8.ensures

pub returns-in-W16 : goal.returns-in-W16
returns-in-W16 g c = c.over-in-W16.ensures
