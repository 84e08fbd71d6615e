-- Lists that grow by f 0, f 1, ..
use Rattle.std.proofs.Common.{◌≡◌, ◌∙◌, ap, sym, refl, ℕ, suc, ◌+◌, ◌≤◌, List, ◌++◌, length, take, append_assoc, append-nil}
use Rattle.std.proofs.Common.{arith}
use Rattle.std.proofs.Math.Seq.{take-append_seam}
use Rattle.std.proofs.lemmas.List.{length-append, take-take}
use Rattle.pbd_mesh.specs.Numbered.{concatenated}

pub concatenated_next : {A : Type 0} (n : ℕ) (f : ℕ → List A) → concatenated (n + 1) f ≡ concatenated n f ++ f n
unfolding concatenated
concatenated_next n f = let e : n + 1 ≡ suc n = omega arith in rw e refl

-- nothing yet
pub grown_none : {A : Type 0} (old : List A) (f : ℕ → List A) → old ≡ old ++ concatenated 0 f
unfolding concatenated
grown_none old f = sym (append-nil old)

-- one more
pub grown_next : {A : Type 0} (old mid now : List A) (n : ℕ) (f : ℕ → List A) → mid ≡ old ++ concatenated n f → now ≡ mid ++ f n
    → now ≡ old ++ concatenated (n + 1) f
grown_next old mid now n f so_far this = rw (concatenated_next n f, this, so_far) (append_assoc old (concatenated n f) (f n))

-- all
pub grown_all : {A : Type 0} (old now : List A) (n i : ℕ) (f : ℕ → List A) → i ≤ n → n ≤ i → now ≡ old ++ concatenated i f
    → now ≡ old ++ concatenated n f
grown_all old now n i f low high so_far = let e : n ≡ i = omega arith in rw e so_far

-- what stood in front still does
pub front_of_append : {A : Type 0} (old now more : List A) → now ≡ old ++ more → take (length old) now ≡ old
front_of_append old now more is = rw is (take-append_seam old more)

pub prefix_then : {A : Type 0} (old mid now more : List A) → mid ≡ old ++ more → take (length mid) now ≡ mid → take (length old) now ≡ old
prefix_then old mid now more grown kept =
    let shorter : length old ≤ length mid = rw grown (omega (arith, length-append old more)) in
    sym (take-take (length old) (length mid) now shorter) ∙ ap (take (length old)) kept ∙ front_of_append old mid more grown
