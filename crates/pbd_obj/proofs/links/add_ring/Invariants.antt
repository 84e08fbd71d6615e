use Rattle.pbd_world.specs.declared.parts.Kind.TheVariants.{Stretch}
use Rattle.pbd_obj.specs.MeshLinks.{pairs_linked, ring}
use Rattle.pbd_obj.proofs.NetLemmas.{sides_from, SoFar}
use Rattle.pbd_obj.proofs.links.add_ring.Given as goal

-- the sides so far were added
abbrev pub invariant-loop-i : goal.invariant-loop-i
invariant-loop-i l = SoFar (pairs_linked l.mesh l.fn.found.base Stretch l.settings (ring l.face)) l.fn.found l.found
    (sides_from l.settings l.mesh l.fn.found.base l.face l.i)
