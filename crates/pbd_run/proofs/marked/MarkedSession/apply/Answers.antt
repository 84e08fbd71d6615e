use Rattle.std.proofs.Common.{◌∙◌, sym}
use Rattle.pbd_run.proofs.MarkedRuns.{mark_does, rewind_does}
use Rattle.pbd_run.proofs.marked.MarkedSession.apply.Goals as goal

pub returns-in-Mark-clause-state : goal.returns-in-Mark-clause-state
returns-in-Mark-clause-state g c =
    rw (← c.self.view_is) ((mark_does c.self.inside.session c.self.inside.marks c.set.new.self _ _ _ c.set.result _ c.in-Mark.is
    c.solver.ensures c.set.ensures.outcome c.set.ensures.kept c.answered.ensures).state)

pub returns-in-Mark-clause-answer : goal.returns-in-Mark-clause-answer
returns-in-Mark-clause-answer g c =
    rw (← c.self.view_is) ((mark_does c.self.inside.session c.self.inside.marks c.set.new.self _ _ _ c.set.result _ c.in-Mark.is
    c.solver.ensures c.set.ensures.outcome c.set.ensures.kept c.answered.ensures).answer)

pub returns-in-Rewind-clause-state : goal.returns-in-Rewind-clause-state
returns-in-Rewind-clause-state g c =
    rw (← c.self.view_is) ((rewind_does c.solver_mut.result.now c.rewind.new.solver
    (λ s. s.world) c.self.inside.session c.self.inside.marks.marks _ _ c.rewind.result _ c.in-Rewind.is c.solver_mut.ensures.value
    c.rewind.ensures.outcome c.rewind.ensures.kept c.answered-in-Rewind.ensures).state)

pub returns-in-Rewind-clause-answer : goal.returns-in-Rewind-clause-answer
returns-in-Rewind-clause-answer g c =
    rw (← c.self.view_is) ((rewind_does c.solver_mut.result.now c.rewind.new.solver
    (λ s. s.world) c.self.inside.session c.self.inside.marks.marks _ _ c.rewind.result _ c.in-Rewind.is c.solver_mut.ensures.value
    c.rewind.ensures.outcome c.rewind.ensures.kept c.answered-in-Rewind.ensures).answer)

pub invariant_of-self-in-Mark : goal.invariant_of-self-in-Mark
invariant_of-self-in-Mark g c = c.self.invariant ∙ sym c.set.ensures.scene
