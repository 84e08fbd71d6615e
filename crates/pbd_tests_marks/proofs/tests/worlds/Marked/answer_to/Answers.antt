use Rattle.std.proofs.Common.{◌∙◌, sym}
use Rattle.pbd_tests_marks.proofs.tests.worlds.Marked.answer_to.Goals as goal

pub invariant_of-self-in-Mark : goal.invariant_of-self-in-Mark
invariant_of-self-in-Mark g c = c.self.invariant ∙ sym c.set.ensures.scene
