use Rattle.std.specs.Prelude.{◌≡◌, ◌++◌}
use Rattle.pbd_mesh.specs.Numbered.{concatenated}
use Rattle.pbd_mesh.specs.Cloth.{links_of_cell}
use Rattle.pbd_mesh.proofs.cloths.PlacedCloth.push_links_of_kind.Given as goal

abbrev pub invariant-loop-row : goal.invariant-loop-row
invariant-loop-row l = l.links ≡ l.fn.links ++ concatenated l.row
    (λ r. concatenated l.self.spec.now.columns (λ c. links_of_cell l.self.spec.now l.self.base l.kind r c))
