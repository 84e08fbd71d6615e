use Rattle.std.proofs.Common.{sym, ◌∙◌}
use Rattle.pbd_shape.proofs.Moves.{Lacks, lacks, plane_clears}
use Rattle.pbd_shape.proofs.plane.reaches.Goals.{After-dot}
use Rattle.pbd_shape.proofs.plane.reaches.Goals as goal

lack : (c : After-dot) → Lacks c.args.plane c.args.p c.dot.result
lack c = lacks c.args.plane c.args.p c.dot.result c.requires.plane.offset c.dot.ensures.size c.dot.ensures.value

pub overflow_sub-plane : goal.overflow_sub-plane
overflow_sub-plane c = (lack (goal.at.overflow_sub-plane c).After-dot).fits_signed

pub returns : goal.returns
returns c = λ e. sym (plane_clears c.args.plane c.args.p (lack (goal.at.returns c).After-dot).is (sym c.is_behind.ensures ∙ e))
