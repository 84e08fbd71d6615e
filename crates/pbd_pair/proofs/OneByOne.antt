-- A batch from one of its bonds on.
use Rattle.std.proofs.Common.{◌≡◌, ℕ, suc, ◌+◌, ◌<◌, ℤ, List, length, get_or, ◌∷◌, ◌++◌, [], drop, take, drop-cons, add-one, refl, ap, sym}
use Rattle.std.proofs.Common.{◌∙◌, Result, Ok, Err}
use Rattle.std.proofs.lemmas.List.{take-append-drop}
use Rattle.pbd_world.specs.declared.bond.Bond.{Bond}
use Rattle.pbd_world.specs.Outcomes.{◌>>=◌, in_turn}
use Rattle.pbd_world.specs.Particles.{Motion}
use Rattle.pbd_world.specs.Bonds.{corrected, correction_at, one, projected}

-- bond n, given what it is, at an equal limit
one_is : {l : ℤ} (limit : ℤ) (bond : ℕ → Bond) (n : ℕ) (b : Bond) (m : Motion) (r : Result Motion ℕ) → l ≡ limit → b ≡ bond n
    → corrected n b (correction_at l m.particles b) m ≡ r → one limit bond n m ≡ r
unfolding one
one_is limit bond n b m r el eb h = (λ i. corrected n (sym eb i) (correction_at (sym el i) m.particles (sym eb i)) m) ∙ h

module _ (limit : ℤ) (bond : ℕ → Bond) (batch : List ℕ) (i : ℕ) (h : i < length batch) where
  next : (m : Motion) → projected limit bond (drop i batch) m
      ≡ (one limit bond (get_or batch i 0) m >>= projected limit bond (drop (suc i) batch))
  next m = ap (λ (b : List ℕ). projected limit bond b m) (drop-cons batch i 0 h)

  -- where the bond b stays
  pub turn_on : {l : ℤ} (b : Bond) (m m' : Motion) → l ≡ limit → b ≡ bond (get_or batch i 0)
      → corrected (get_or batch i 0) b (correction_at l m.particles b) m ≡ Ok m'
      → projected limit bond (drop (i + 1) batch) m' ≡ projected limit bond (drop i batch) m
  turn_on b m m' el eb e = ap (λ (k : ℕ). projected limit bond (drop k batch) m') (add-one i) ∙ sym (next m
      ∙ ap (λ (r : Result Motion ℕ). r >>= projected limit bond (drop (suc i) batch))
      (one_is limit bond (get_or batch i 0) b m (Ok m') el eb e))

  -- where it leaves the limit
  pub turn_out : {l : ℤ} (b : Bond) (m : Motion) (n : ℕ) → l ≡ limit → b ≡ bond (get_or batch i 0)
      → corrected (get_or batch i 0) b (correction_at l m.particles b) m ≡ Err n → projected limit bond (drop i batch) m ≡ Err n
  turn_out b m n el eb e = next m ∙ ap (λ (r : Result Motion ℕ). r >>= projected limit bond (drop (suc i) batch))
      (one_is limit bond (get_or batch i 0) b m (Err n) el eb e)

-- ---- a batch in two parts

-- one list of items after another
pub in_turn-append : {A S E : Type 0} (f : A → S → Result S E) (xs ys : List A) (s : S)
    → in_turn f (xs ++ ys) s ≡ (in_turn f xs s >>= in_turn f ys)
in_turn-append f [] ys s = refl
in_turn-append {A} {S} {E} f (x ∷ xs) ys s = after (λ t. in_turn-append f xs ys t) (f x s) where
  after : ((t : S) → in_turn f (xs ++ ys) t ≡ (in_turn f xs t >>= in_turn f ys)) → (r : Result S E) → (r >>= in_turn f (xs ++ ys)) ≡
      ((r >>= in_turn f xs) >>= in_turn f ys)
  after h (Ok t) = h t
  after h (Err e) = refl

parted : (limit : ℤ) (bond : ℕ → Bond) (k : ℕ) (xs : List ℕ) {front : List ℕ} → front ≡ take k xs → (m : Motion)
    → projected limit bond xs m ≡ (projected limit bond front m >>= projected limit bond (drop k xs))
parted limit bond k xs first m = sym (ap (λ (b : List ℕ). projected limit bond b m) (take-append-drop k xs))
    ∙ in_turn-append (one limit bond) (take k xs) (drop k xs) m
    ∙ ap (λ (b : List ℕ). projected limit bond b m >>= projected limit bond (drop k xs)) (sym first)

pub block_done : (limit : ℤ) (bond : ℕ → Bond) (k : ℕ) (xs : List ℕ) {front : List ℕ} (m m' : Motion) → front ≡ take k xs
    → projected limit bond front m ≡ Ok m' → projected limit bond (drop k xs) m' ≡ projected limit bond xs m
block_done limit bond k xs m m' first e =
    sym (parted limit bond k xs first m ∙ ap (λ (r : Result Motion ℕ). r >>= projected limit bond (drop k xs)) e)

pub block_leaves : (limit : ℤ) (bond : ℕ → Bond) (k : ℕ) (xs : List ℕ) {front : List ℕ} (m : Motion) (n : ℕ) → front ≡ take k xs
    → projected limit bond front m ≡ Err n → projected limit bond xs m ≡ Err n
block_leaves limit bond k xs m n first e =
    parted limit bond k xs first m ∙ ap (λ (r : Result Motion ℕ). r >>= projected limit bond (drop k xs)) e
