use Rattle.std.proofs.Common.{◌∙◌}
use Rattle.pbd_chain.proofs.Shown
use Rattle.pbd_chain.proofs.chains.Chains.next.Goals as goal

pub get-requires : goal.get-requires
get-requires c = let r = rw (← c.self.view_is) at c.requires in Shown.item_below c.self.invariant c.args.item r

pub returns : goal.returns
returns c = rw (← c.self.view_is) (λ d k e. c.get.ensures ∙ Shown.shown-next c.self.invariant d k c.args.item e)
