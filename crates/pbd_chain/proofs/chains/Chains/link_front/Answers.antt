use Rattle.std.proofs.Common.{arith, length}
use Rattle.pbd_chain.specs.Linked.{Shows, chains_of, with_front}
use Rattle.pbd_chain.proofs.Shown
use Rattle.pbd_chain.proofs.chains.Chains.link_front.Goals as goal

pub link-requires-clause-chain : goal.link-requires-clause-chain
link-requires-clause-chain c = let r = rw (← c.self.view_is) at c.requires.chain in omega (arith, r, c.self.invariant.count)

pub link-requires-clause-item : goal.link-requires-clause-item
link-requires-clause-item c = rw (← c.self.view_is) at c.requires.item

pub link-requires-clause-first : goal.link-requires-clause-first
link-requires-clause-first c z = Shown.first_below c.self.invariant c.args.chain z (link-requires-clause-chain c)

shows : (c : goal.After-link) → Shows c.link.new.self.heads c.link.new.self.next c.link.new.self.back.items
    (with_front (chains_of c.self.inside.slots.heads c.self.inside.slots.next) c.args.chain c.args.item)
shows c =
    let chain = rw (← c.self.view_is) at c.requires.chain in
    let item = rw (← c.self.view_is) at c.requires.item in
    let free = rw (← c.self.view_is) at c.requires.free in
    let sized = c.link.ensures.sized in
    Shown.Shows-link c.self.invariant sized.chains sized.items sized.backs c.args.chain c.args.item
    (omega (arith, chain, c.self.invariant.count)) item free c.link.ensures.front

pub invariant_of-self : goal.invariant_of-self
invariant_of-self c = Shown.shows-seen (shows c)

pub returns : goal.returns
returns c = rw (← c.self.view_is) (Shown.view-shown (length c.self.inside.slots.next) c.link.ensures.sized.items (shows c))
