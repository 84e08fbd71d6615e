use Rattle.pbd_obj.proofs.AddLemmas.{CountsSoFar}
use Rattle.pbd_obj.proofs.links.first_overfull.Given as goal

-- the links so far are counted, and are the 33rd nowhere
abbrev pub invariant-loop-link : goal.invariant-loop-link
invariant-loop-link l = CountsSoFar l.base l.vertices l.links l.link-index l.counts.items
