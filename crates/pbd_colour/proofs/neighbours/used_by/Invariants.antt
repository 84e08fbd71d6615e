use Rattle.pbd_chain.specs.Linked.{chain_at}
use Rattle.pbd_colour.proofs.Mending.{IsUsing}
use Rattle.pbd_colour.proofs.neighbours.used_by.Given as goal

abbrev pub invariant-loop : goal.invariant-loop
invariant-loop l = IsUsing l.colours l.i (chain_at l.chains.chains l.p) l.at l.counter l.now
