use Rattle.pbd_run.proofs.inputs.on_halves.Goals as goal

pub returns-in-Simulate : goal.returns-in-Simulate
returns-in-Simulate g c = rw c.in-Simulate.is c.run_task.ensures

pub returns-in-Record : goal.returns-in-Record
returns-in-Record g c = rw c.in-Record.is c.run_task-in-Record.ensures

pub returns-in-Scramble : goal.returns-in-Scramble
returns-in-Scramble g c = rw c.in-Scramble.is c.run_task-in-Scramble.ensures

pub returns-in-Marks : goal.returns-in-Marks
returns-in-Marks g c = rw c.in-Marks.is c.run_marking.ensures
