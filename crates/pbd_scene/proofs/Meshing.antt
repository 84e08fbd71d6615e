-- Parts to which meshes are added one after another.
use Rattle.std.proofs.Common.{◌≡◌, ◌∙◌, ap, sym, subst, All, ℕ, ◌+◌, ◌<◌, ◌≤◌, List, length, get_or, drop, arith}
use Rattle.std.specs.Prelude.{fold}
use Rattle.std.specs.List.{sum_by}
use Rattle.std.proofs.lemmas.List.Elements.{All-get_or}
use Rattle.std.proofs.lemmas.List.Sums.{sum_by-cons}
use Rattle.pbd_world.specs.declared.parts.Parts.{Parts}
use Rattle.pbd_scene.specs.Scene.{IsGrown}
use Rattle.pbd_scene.proofs.Reading.{item_and_rest}

-- what is there with the meshes that are left is all, and there is room for them
pub record MeshesSoFar {S : Type 0} (add : Parts → S → Parts) (size : S → ℕ) (start : Parts) (meshes : List S) (i : ℕ)
    (now : Parts) : Type 0 where
  pub rest : fold add now (drop i meshes) ≡ fold add start meshes
  pub limit : now.limit ≡ start.limit
  pub room : length now.particles + sum_by size (drop i meshes) ≤ 65536

-- it fits as all do, and there is room for it
pub mesh_next : {S : Type 0} (add : Parts → S → Parts) (size : S → ℕ) (P : S → Type 0) (start : Parts) (meshes : List S) (i : ℕ) (now : Parts)
    (s : S) → i < length meshes → s ≡ get_or meshes i s → MeshesSoFar add size start meshes i now → All P meshes
    → P s × (length now.particles + size s ≤ 65536)
mesh_next add size P start meshes i now s within same so_far fit = (
  subst P (sym same) (All-get_or P meshes i s within fit),
  omega (arith, so_far.room, ap (sum_by size) (item_and_rest meshes i s within same), sum_by-cons size s (drop (i + 1) meshes)),
)

pub meshes_more : {S : Type 0} (add : Parts → S → Parts) (size : S → ℕ) (start : Parts) (meshes : List S) (i : ℕ) (now next : Parts) (s : S)
    → i < length meshes → s ≡ get_or meshes i s → MeshesSoFar add size start meshes i now → next ≡ add now s → IsGrown now next (size s)
    → MeshesSoFar add size start meshes (i + 1) next
meshes_more add size start meshes i now next s within same so_far is grown =
    let first = item_and_rest meshes i s within same in
    record {
      rest = rw is (sym (ap (fold add now) first) ∙ so_far.rest);
      limit = grown.limit ∙ so_far.limit;
      room = omega (arith, so_far.room, grown.particles, ap (sum_by size) first, sum_by-cons size s (drop (i + 1) meshes));
    }
