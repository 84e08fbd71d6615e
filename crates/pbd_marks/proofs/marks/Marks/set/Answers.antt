use Rattle.std.proofs.Common.{◌∙◌, ◌∷◌, sym}
use Rattle.pbd_marks.specs.Keeping.{worlds_in}
use Rattle.pbd_marks.proofs.KeepingLemmas.{IsSet, kept_set}
use Rattle.pbd_marks.proofs.marks.Marks.set.Goals as goal

-- what callers see once the mark is set
seen : (g : _) (c : goal.After-self-1 g) → IsSet c.args.self.now c.args.k c.args.solver.now.world
    c.with_set-self-inside.result (worlds_in (c.take_over.new.first ∷ c.take_over.new.others.items))
seen g c = kept_set c.args.self.now c.self.inside.are_set c.with_set-self-inside.result
    (worlds_in (c.self.inside.first ∷ c.self.inside.others.items))
    (worlds_in (c.take_over.new.first ∷ c.take_over.new.others.items)) c.args.k c.args.solver.now.world c.self.view_is c.self.invariant
    (sym c.lacks.ensures.value ∙ c.if-lacks.false) c.take_over.ensures.sound c.requires.one_scene c.with_set-self-inside.ensures
    c.take_over.ensures.worlds

pub invariant_of-self : goal.invariant_of-self
invariant_of-self g c = (seen g c).fit

pub returns-clause-outcome : goal.returns-clause-outcome
returns-clause-outcome g c = (seen g c).outcome

pub returns-clause-scene : goal.returns-clause-scene
returns-clause-scene g c = (seen g c).scene

pub returns-clause-marks : goal.returns-clause-marks
returns-clause-marks g c = (seen g c).fit.kept
