use Rattle.std.proofs.Common.{◌∙◌, sym, ne_eqb, eq-eqb}
use Rattle.pbd_chain.specs.Linked.{chain_at}
use Rattle.pbd_chain.proofs.Walks.{chain_linked, get_in, get_none, any_more, any_here}
use Rattle.pbd_colour.proofs.Holding.{IsAlong-all, leads_to}
use Rattle.pbd_colour.proofs.held.leads.Goals as goal

pub far_end-requires : goal.far_end-requires
far_end-requires c = c.requires.pairs c.in-Some.item (get_in (chain_at c.args.chains.now.chains c.args.i) c.loop.counter c.in-Some.item
    (sym c.loop.invariant.next ∙ c.in-Some.is))

pub returns-then-far_end-j : goal.returns-then-far_end-j
returns-then-far_end-j c = sym (any_here (leads_to c.args.pairs.now c.args.j) (chain_at c.args.chains.now.chains c.args.i) c.in-Some.item
    (get_in (chain_at c.args.chains.now.chains c.args.i) c.loop.counter c.in-Some.item (sym c.loop.invariant.next ∙ c.in-Some.is))
    (eq-eqb _ _ (sym c.far_end.ensures ∙ c.if-far_end-j.true)))

pub next-at-requires : goal.next-at-requires
next-at-requires c = chain_linked c.args.chains.now.chains c.args.i c.in-Some.item c.requires.chain
    (get_in (chain_at c.args.chains.now.chains c.args.i) c.loop.counter c.in-Some.item (sym c.loop.invariant.next ∙ c.in-Some.is))

pub loop-preserved : goal.loop-preserved
loop-preserved c = record {
  next = c.next-at.ensures c.args.i c.loop.counter (sym c.loop.invariant.next ∙ c.in-Some.is);
  none = any_more (leads_to c.args.pairs.now c.args.j) (chain_at c.args.chains.now.chains c.args.i) c.loop.counter c.in-Some.item
      (sym c.loop.invariant.next ∙ c.in-Some.is) c.loop.invariant.none
      (ne_eqb _ _ (λ e. c.if-far_end-j.false (c.far_end.ensures ∙ e)));
}

pub returns-in_default : goal.returns-in_default
returns-in_default c = sym (IsAlong-all (leads_to c.args.pairs.now c.args.j) _ _ c.loop.counter c.loop.invariant
    (get_none (chain_at c.args.chains.now.chains c.args.i) c.loop.counter (sym c.loop.invariant.next ∙ c.in_default.is)))
