use Rattle.std.specs.Prelude.{◌≡◌, ◌++◌}
use Rattle.pbd_mesh.specs.Numbered.{concatenated}
use Rattle.pbd_mesh.specs.Cloth.{links_of_cell}
use Rattle.pbd_mesh.proofs.cloths.PlacedCloth.push_links_of_row.Given as goal

abbrev pub invariant-loop-column : goal.invariant-loop-column
invariant-loop-column l = l.links ≡ l.fn.links ++ concatenated l.column (λ c. links_of_cell l.self.spec.now l.self.base l.kind l.row c)
