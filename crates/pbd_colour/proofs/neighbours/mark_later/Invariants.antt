use Rattle.pbd_chain.specs.Linked.{chain_at}
use Rattle.pbd_colour.specs.Marked.{AreAsMany}
use Rattle.pbd_colour.proofs.Mending.{IsMarking}
use Rattle.pbd_colour.proofs.neighbours.mark_later.Given as goal

abbrev pub invariant-loop : goal.invariant-loop
invariant-loop l = record {
  marking : IsMarking l.i (chain_at l.chains.chains l.p) l.at l.counter l.fn.marks.entries l.marks.entries;
  sized : AreAsMany l.fn.marks l.marks;
}
