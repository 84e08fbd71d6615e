use Rattle.std.proofs.Common.{◌+◌, ◌<◌, ◌/◌, ◌||◌, ◌∙◌, refl, sym, ap, subst, ltb, length, List, Bool, arith}
use Rattle.pbd_chain.specs.Linked.{chain_at}
use Rattle.pbd_chain.proofs.Walks.{chain_linked, get_in, get_none}
use Rattle.pbd_world.specs.Room.{Roomed}
use Rattle.pbd_world.specs.Colours.{live_at}
use Rattle.pbd_colour.proofs.Marking.{as_many_then, as_many_with}
use Rattle.pbd_colour.proofs.Mending.{IsMarking, IsMarking-more, IsMarking-all}
use Rattle.pbd_colour.proofs.neighbours.mark_later.Goals as goal

pub next-at-requires : goal.next-at-requires
next-at-requires c = chain_linked c.args.chains.now.chains c.args.p c.in-Some.x c.requires.chain
    (get_in (chain_at c.args.chains.now.chains c.args.p) c.loop.counter c.in-Some.x (sym c.loop.invariant.marking.next ∙ c.in-Some.is))

pub mark_if-requires : goal.mark_if-requires
mark_if-requires c =
    let known = c.requires.pairs c.in-Some.x (get_in (chain_at c.args.chains.now.chains c.args.p) c.loop.counter c.in-Some.x
    (sym c.loop.invariant.marking.next ∙ c.in-Some.is)) in
    omega (arith, known, c.loop.invariant.sized.count)

pub loop-preserved : goal.loop-preserved
loop-preserved c =
    let x = c.in-Some.x in
    let chain = chain_at c.args.chains.now.chains c.args.p in
    let marks = c.loop.marks.entries in
    let known = c.requires.pairs x (get_in chain c.loop.counter x (sym c.loop.invariant.marking.next ∙ c.in-Some.is)) in
    let within : x / 2 < length marks = omega (arith, known, c.loop.invariant.sized.count) in
    let is = c.mark_if.ensures in
    record {
      marking = subst (λ (ms : List Bool). IsMarking c.args.i chain c.next-at.result (c.loop.counter + 1) c.args.marks.now.entries ms)
          (sym (ap (λ (r : Roomed Bool). r.entries) is))
          (IsMarking-more c.args.i chain c.loop.at c.loop.counter c.args.marks.now.entries marks c.loop.invariant.marking x
          (live_at marks (x / 2) || ltb c.args.i (x / 2)) c.next-at.result
          c.in-Some.is within refl (c.next-at.ensures c.args.p c.loop.counter (sym c.loop.invariant.marking.next ∙ c.in-Some.is)));
      sized = as_many_then c.loop.invariant.sized (as_many_with (x / 2) (live_at marks (x / 2) || ltb c.args.i (x / 2)) is);
    }

pub returns-in_default-clause-marked : goal.returns-in_default-clause-marked
returns-in_default-clause-marked c = IsMarking-all c.args.i
    (chain_at c.args.chains.now.chains c.args.p) c.loop.at c.loop.counter c.args.marks.now.entries c.loop.marks.entries c.loop.invariant.marking
    (get_none (chain_at c.args.chains.now.chains c.args.p) c.loop.counter (sym c.loop.invariant.marking.next ∙ c.in_default.is))
