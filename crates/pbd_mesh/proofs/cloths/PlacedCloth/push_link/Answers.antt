use Rattle.std.proofs.Common.{◌≡◌, ◌∙◌, ◌&&◌, ◌++◌, [], ◌∷◌, ℕ, Bool, List, true, false, sym, ap, refl}
use Rattle.std.proofs.lemmas.Bool.{cond-false}
use Rattle.std.proofs.lemmas.List.{append-nil}
use Rattle.pbd_world.specs.declared.parts.Link.{Link}
use Rattle.pbd_mesh.specs.Cloth.{cell_link, link_of_cells, is_in_cloth}
use Rattle.pbd_mesh.specs.declared.spec.Cell.{Cell}
use Rattle.pbd_mesh.specs.declared.spec.ClothSpec.{ClothSpec}
use Rattle.pbd_mesh.specs.declared.spec.KindSettings.{KindSettings}
use Rattle.pbd_mesh.proofs.Facts.{in_cloth}
use Rattle.pbd_mesh.proofs.cloths.PlacedCloth.push_link.Goals.{else-has-via-then-has+else-has-2}
use Rattle.pbd_mesh.proofs.cloths.PlacedCloth.push_link.Goals.{else-has-via-else-has}
use Rattle.pbd_mesh.proofs.cloths.PlacedCloth.push_link.Goals as goal

module _ (s : ClothSpec) (base : ℕ) (t : KindSettings) (from to : Cell) (links : List Link) where
  -- one of the cells is not in the cloth
  apart : (is_in_cloth s from && is_in_cloth s to) ≡ false → links ≡ links ++ cell_link s base t from to
  unfolding cell_link
  apart e = sym (ap (λ (ls : List Link). links ++ ls) (cond-false (is_in_cloth s from && is_in_cloth s to) _ [] e) ∙ append-nil links)

  -- both cells are in the cloth
  joined : true ≡ is_in_cloth s from → true ≡ is_in_cloth s to → link_of_cells s base t from to ∷ [] ≡ cell_link s base t from to
  unfolding cell_link
  joined first second = rw (← first, ← second) refl

pub link-requires : goal.link-requires
link-requires c =
    let cloth = c.args.self.now.spec.now in
    record { from = in_cloth cloth c.args.from c.if-has.ensures; to = in_cloth cloth c.args.to c.if-has-2.ensures }

pub returns-else-has-clause-ok : goal.returns-else-has-clause-ok
returns-else-has-clause-ok c = apart c.args.self.now.spec.now c.args.self.now.base c.args.settings c.args.from c.args.to c.args.links.now
    (elim c.else-has.branch [
      | else-has-via-then-has+else-has-2 w ↦
          (λ i. (sym w.if-has.ensures i) && (sym w.has-then-has.ensures ∙ w.if-has-2.false) i)
      | else-has-via-else-has w ↦ ap (λ (b : Bool). b && is_in_cloth c.args.self.now.spec.now c.args.to)
          (sym c.has.ensures ∙ w.if-has.false)
    ])
