use Rattle.pbd_scene.proofs.EntryLinks.{LinksSoFar}
use Rattle.pbd_scene.proofs.linking.add_links.Given as goal

abbrev pub invariant-loop-i : goal.invariant-loop-i
invariant-loop-i l = LinksSoFar l.particles l.fn.links l.entries l.i l.links l.lists
