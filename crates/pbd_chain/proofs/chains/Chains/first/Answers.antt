use Rattle.std.proofs.Common.{◌<◌, ◌∙◌, arith, length}
use Rattle.pbd_chain.proofs.Shown
use Rattle.pbd_chain.proofs.chains.Chains.first.Goals as goal

pub get-requires : goal.get-requires
get-requires c = let r = rw (← c.self.view_is) at c.requires in omega (arith, r, c.self.invariant.count)

pub returns-clause-value : goal.returns-clause-value
returns-clause-value c = rw (← c.self.view_is) (let l : c.args.chain
    < length c.self.inside.slots.heads = (let r = rw (← c.self.view_is) at c.requires in omega (arith, r, c.self.invariant.count)) in
    c.get.ensures ∙ Shown.shown-first c.self.invariant c.args.chain l)

pub returns-clause-bounded : goal.returns-clause-bounded
returns-clause-bounded c = rw (← c.self.view_is) (let r = rw (← c.self.view_is) at c.requires in
    Shown.chain_le c.self.invariant c.args.chain (omega (arith, r, c.self.invariant.count)))
