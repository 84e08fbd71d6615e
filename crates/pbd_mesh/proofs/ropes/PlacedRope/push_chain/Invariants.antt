use Rattle.std.specs.Prelude.{◌≡◌, ◌++◌, [], ◌∷◌}
use Rattle.pbd_mesh.specs.Numbered.{concatenated}
use Rattle.pbd_mesh.specs.Rope.{rope_link}
use Rattle.pbd_mesh.proofs.ropes.PlacedRope.push_chain.Given as goal

abbrev pub invariant-loop-i : goal.invariant-loop-i
invariant-loop-i l = l.links ≡ l.fn.links ++ concatenated l.i (λ i. rope_link l.self.spec.now l.self.base l.settings l.step i ∷ [])
