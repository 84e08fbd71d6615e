use Rattle.std.proofs.Common.{◌∙◌, ap, arith, None, is_some}
use Rattle.std.proofs.lemmas.List.{get_or_read}
use Rattle.pbd_chain.proofs.Shown
use Rattle.pbd_chain.proofs.chains.Chains.is_linked.Goals as goal

pub returns-clause-value : goal.returns-clause-value
returns-clause-value c = rw (← c.self.view_is) (let r = rw (← c.self.view_is) at c.requires in
    c.is_some.ensures ∙ ap is_some (get_or_read c.self.inside.slots.back.items c.args.item c.index.result.now
    (omega (arith, r, c.self.invariant.backs)) c.index.ensures None) ∙ Shown.is_linked_by c.self.invariant c.args.item)

pub returns-clause-once : goal.returns-clause-once
returns-clause-once c = rw (← c.self.view_is) (λ a b j k. Shown.stands_once c.self.invariant a b j k c.args.item)
