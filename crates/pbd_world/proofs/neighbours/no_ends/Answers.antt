use Rattle.std.proofs.Common.{ap, ◌∙◌, List, ℕ, [], ◌∷◌, ◌++◌}
use Rattle.pbd_world.proofs.Neighbouring.{holds_no_links}
use Rattle.pbd_world.proofs.neighbours.no_ends.Goals as goal

pub loop-n-preserved : goal.loop-n-preserved
loop-n-preserved c =
    holds_no_links c.loop-n.n c.loop-n.ends.items c.push.new.self.items c.loop-n.invariant
    (c.in_ok-push.ensures.items ∙ ap (λ (ns : List ℕ). c.loop-n.ends.items ++ ns ∷ []) c.new.ensures)
