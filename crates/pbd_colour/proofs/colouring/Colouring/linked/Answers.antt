use Rattle.std.proofs.Common.{◌∙◌, ◌<◌, sym}
use Rattle.pbd_colour.proofs.Holding.{held_within, leads-joined}
use Rattle.pbd_colour.proofs.Telling.{not_joined}
use Rattle.pbd_colour.proofs.colouring.Colouring.linked.Goals as goal

pub leads-requires-clause-pairs : goal.leads-requires-clause-pairs
leads-requires-clause-pairs c = let i = c.self.invariant in
    let li : c.args.i < c.self.inside.particles = rw (← c.self.view_is) at c.requires.i_in in
    λ x e. rw c.as_slice-2.ensures (held_within c.self.inside.live.entries i.held i.live_length c.args.i li x e)

pub returns : goal.returns
returns c = let i = c.self.invariant in
    let li : c.args.i < c.self.inside.particles = rw (← c.self.view_is) at c.requires.i_in in
    rw (← c.self.view_is) (let q = rw c.as_slice-2.ensures at c.leads.ensures in
    q ∙ leads-joined c.self.inside.live.entries i.held i.live_length c.args.i li c.args.j)

pub returns-then-not-may_lead : goal.returns-then-not-may_lead
returns-then-not-may_lead c = rw (← c.self.view_is) (let none = rw c.as_slice.ensures at c.may_lead.ensures in
    not_joined c.self.inside.pairs.entries c.self.inside.live.entries c.self.inside.toward.entries c.args.i c.args.j c.self.invariant.told
    (sym none ∙ c.if-not-may_lead.true))
