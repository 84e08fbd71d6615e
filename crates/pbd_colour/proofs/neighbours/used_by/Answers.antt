use Rattle.std.proofs.Common.{◌∙◌, sym, refl, arith}
use Rattle.std.proofs.lemmas.Nat.Bits.{bit_at-zero}
use Rattle.pbd_chain.specs.Linked.{chain_at}
use Rattle.pbd_chain.proofs.Walks.{chain_linked, get_in, get_none}
use Rattle.pbd_colour.proofs.Mending.{IsUsing-more, IsUsing-all}
use Rattle.pbd_colour.proofs.neighbours.used_by.Goals as goal

pub bounds-colours-x : goal.bounds-colours-x
bounds-colours-x c = c.requires.pairs c.in-Some.x (get_in (chain_at c.args.chains.now.chains c.args.p) c.loop.counter c.in-Some.x
    (sym c.loop.invariant.next ∙ c.in-Some.is))

pub next-at-requires : goal.next-at-requires
next-at-requires c = chain_linked c.args.chains.now.chains c.args.p c.in-Some.x c.requires.chain
    (get_in (chain_at c.args.chains.now.chains c.args.p) c.loop.counter c.in-Some.x (sym c.loop.invariant.next ∙ c.in-Some.is))

pub loop-init : goal.loop-init
loop-init c = record { next = c.first-at.ensures.value; has = λ d l. rw (bit_at-zero d) refl; small = omega arith }

pub loop-preserved : goal.loop-preserved
loop-preserved c = IsUsing-more c.args.colours.now c.args.i
    (chain_at c.args.chains.now.chains c.args.p) c.loop.at c.loop.counter c.loop.now c.loop.invariant c.in-Some.x
    c.with_colour-now.result c.next-at.result c.in-Some.is
    c.with_colour-now.ensures.has c.with_colour-now.ensures.small
    (c.next-at.ensures c.args.p c.loop.counter (sym c.loop.invariant.next ∙ c.in-Some.is))

pub returns-in_default-clause-has : goal.returns-in_default-clause-has
returns-in_default-clause-has c = IsUsing-all c.args.colours.now c.args.i
    (chain_at c.args.chains.now.chains c.args.p) c.loop.at c.loop.counter c.loop.now c.loop.invariant
    (get_none (chain_at c.args.chains.now.chains c.args.p) c.loop.counter (sym c.loop.invariant.next ∙ c.in_default.is))
