-- What is made of the faces of a mesh, face by face, and of a face, number by number.
use Rattle.std.proofs.Common.{◌≡◌, ◌∙◌, sym, ap, ℕ, suc, ◌+◌, ◌-◌, ◌<◌, ◌≤◌, List, [], ◌∷◌, ◌++◌, length, get_or, take, drop, map, arith}
use Rattle.std.proofs.Common.{append_assoc, append-nil, length-drop, refl, subst}
use Rattle.std.specs.Prelude.{sum}
use Rattle.std.specs.List.{flat_map, range_with_len}
use Rattle.std.proofs.lemmas.List.{drop_all, drop_more}
use Rattle.std.proofs.lemmas.List.Sums.{sum_by-cons}
use Rattle.pbd_obj.specs.declared.mesh.ObjMesh.{ObjMesh}
use Rattle.pbd_obj.specs.Meshes.{cut}

-- ---- face by face

-- what is made of each face, of faces with these sizes and corners
abbrev pub of_faces : {T : Type 0} → (List ℕ → List T) → List ℕ → List ℕ → List T
of_faces {T = T} make sizes corners = flat_map {X = List ℕ} {A = T} make (cut sizes corners)

-- what is made of some faces was found, and these sizes and corners are left
pub record MadeSoFar {T : Type 0} (make : List ℕ → List T) (mesh : ObjMesh) (found : List T) (sizes corners : List ℕ) : Type 0 where
  pub makes : found ++ of_faces make sizes corners ≡ of_faces make mesh.sizes mesh.corners
  pub whole : sum sizes ≡ length corners

made_next : {T : Type 0} (make : List ℕ → List T) (mesh : ObjMesh) (found now : List T) (s : ℕ) (sizes corners : List ℕ)
    → MadeSoFar make mesh found (s ∷ sizes) corners
    → now ≡ found ++ make (take s corners) → MadeSoFar make mesh now sizes (drop s corners)
made_next make mesh found now s sizes corners so_far is =
    let all : s + sum sizes ≡ length corners = sym (sum_by-cons (λ x. x) s sizes) ∙ so_far.whole in
    record {
      makes = ap (λ es. es ++ of_faces make sizes (drop s corners)) is
          ∙ (append_assoc found (make (take s corners)) (of_faces make sizes (drop s corners)) ∙ so_far.makes);
      whole = omega (arith, all, length-drop s corners);
    }

pub made_next_at : {T : Type 0} (make : List ℕ → List T) (mesh : ObjMesh) (found now : List T) (sizes : List ℕ) (i : ℕ)
    (corners face behind : List ℕ)
    → MadeSoFar make mesh found (drop i sizes) corners → i < length sizes → face ≡ take (get_or sizes i 0) corners
    → behind ≡ drop (get_or sizes i 0) corners
    → now ≡ found ++ make face → MadeSoFar make mesh now (drop (i + 1) sizes) behind
made_next_at make mesh found now sizes i corners face behind so_far lt front back is =
    let here : MadeSoFar make mesh found (get_or sizes i 0 ∷ drop (i + 1) sizes) corners =
    subst (λ (left : List ℕ). MadeSoFar make mesh found left corners) (drop_more sizes i 0 lt) so_far in
    subst (λ (left : List ℕ). MadeSoFar make mesh now (drop (i + 1) sizes) left) (sym back)
    (made_next make mesh found now (get_or sizes i 0) (drop (i + 1) sizes) corners here (is ∙ ap (λ f. found ++ make f) front))

pub made_end : {T : Type 0} (make : List ℕ → List T) (mesh : ObjMesh) (found : List T) (sizes : List ℕ) (i : ℕ) (corners : List ℕ)
    → MadeSoFar make mesh found (drop i sizes) corners → length sizes ≤ i → found ≡ of_faces make mesh.sizes mesh.corners
made_end make mesh found sizes i corners so_far le =
    sym (append-nil found) ∙ (sym (ap (λ left. found ++ of_faces make left corners) (drop_all i sizes le)) ∙ so_far.makes)

-- ---- number by number

-- what is made of the numbers from i to below n
abbrev pub from_number : {T : Type 0} → (ℕ → T) → ℕ → ℕ → List T
from_number {T = T} f n i = map {A = ℕ} {B = T} f (range_with_len i (n - i))

from_next : {T : Type 0} (f : ℕ → T) (n i : ℕ) → i < n → from_number f n i ≡ f i ∷ from_number f n (i + 1)
from_next f n i lt = let e : n - i ≡ suc (n - (i + 1)) = omega (arith, lt) in rw e refl

pub number_pushed : {T : Type 0} (f : ℕ → T) (n i : ℕ) (mid now whole : List T) (x : T) → mid ++ from_number f n i ≡ whole → i < n → x ≡ f i
    → now ≡ mid ++ x ∷ []
    → now ++ from_number f n (i + 1) ≡ whole
number_pushed f n i mid now whole x so_far lt is push =
    ap (λ xs. xs ++ from_number f n (i + 1)) push
    ∙ (append_assoc mid (x ∷ []) (from_number f n (i + 1))
    ∙ (ap (λ y. mid ++ y ∷ from_number f n (i + 1)) is
    ∙ (ap (λ xs. mid ++ xs) (sym (from_next f n i lt)) ∙ so_far)))
