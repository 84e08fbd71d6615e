-- What bonds of one class add to the ledger: the moves beside held ends to pins, and all others to their class.
use Rattle.std.proofs.Common.{◌≡◌, ℕ, zero, suc, ◌+◌, ◌<◌, ℤ, pos, ◌+ℤ◌, Bool, true, false, not, ◌||◌, cond, refl, ap, sym, ◌∙◌, arith}
use Rattle.std.proofs.Common.{inl, inr, unsigned_abs}
use Rattle.std.proofs.lemmas.Bool.{cases_lt}
use Rattle.std.proofs.lemmas.Int.{ints}
use Rattle.pbd_num.specs.declared.Vec3.{Vec3}
use Rattle.pbd_num.specs.Vectors.{plus, opposite, zero_vector, length_of}
use Rattle.pbd_num.specs.PairMove.{corrections, pair_moves, shares}
use Rattle.pbd_num.proofs.Ends.{same_axes}
use Rattle.pbd_num.proofs.Signs.{share_none}
use Rattle.pbd_num.proofs.VectorSizes.{plus_nothing}
use Rattle.pbd_num.proofs.Ways.{along-none, along-some}
use Rattle.pbd_world.specs.declared.bond.Bond.{Bond}
use Rattle.pbd_world.specs.declared.bond.Shift.{Shift}
use Rattle.pbd_world.specs.declared.totals.Class.{Class}
use Rattle.pbd_world.specs.declared.totals.Class.TheVariants as classes
use Rattle.pbd_world.specs.Ledger.{Sum, Ledger, sum_plus, added, booked}
use Rattle.pbd_world.specs.Bonds.{entries_of}
use Rattle.pbd_pair.specs.Moves.{moves_by, settled, moved_below}
use Rattle.pbd_pair.proofs.ByWay.{added_nothing}
use Rattle.pbd_pair.proofs.Pinning.{both_added, first_alone, second_alone, both_none}
use Rattle.pbd_world.proofs.MovedLemmas.{sum_in_turn}

-- ---- a move of one class, and one of pins

pins_first : (t : Ledger) (class : Class) (v w : Vec3) → added (added t class v) classes.Pin w ≡ added (added t classes.Pin w) class v
pins_first t classes.Gravity v w = refl
pins_first t classes.Damping v w = refl
pins_first t classes.Link v w = refl
pins_first t classes.Contact v w = refl
pins_first t classes.Pin v w = ap (λ (s : Sum). record t { pin = s }) (sum_in_turn t.pin v w)
pins_first t classes.Shape v w = refl

-- ---- many bonds

-- a held end stays
pub record HeldStay (first_held second_held : Bool) (t : Shift) : Type 0 where
  pub first : first_held ≡ true → t.first_move ≡ zero_vector
  pub second : second_held ≡ true → t.second_move ≡ zero_vector

-- both moves together, where they count
abbrev pub together_if : Bool → Shift → Vec3
together_if counts m = cond counts (plus m.first_move m.second_move) zero_vector

-- one bond
counted_more : (t : Ledger) (class : Class) (pins own : Vec3) (p q : Bool) (m : Shift) → HeldStay p q m
    → booked (added (added t classes.Pin pins) class own) (entries_of p q class m)
    ≡ added (added t classes.Pin (plus pins (together_if (p || q) m))) class (plus own (together_if (not (p || q)) m))
counted_more t class pins own false false m h =
    both_added (added (added t classes.Pin pins) class own) class m.first_move m.second_move
    ∙ both_added (added t classes.Pin pins) class own (plus m.first_move m.second_move)
    ∙ ap (λ (v : Vec3). added (added t classes.Pin v) class (plus own (plus m.first_move m.second_move))) (sym (plus_nothing pins))
counted_more t class pins own false true m h =
    pins_first (added t classes.Pin pins) class own m.first_move
    ∙ ap (λ (u : Ledger). added u class own) (both_added t classes.Pin pins m.first_move)
    ∙ sym ((λ i. added (added t classes.Pin (plus pins (plus m.first_move (h.second refl i)))) class (plus_nothing own i))
    ∙ ap (λ (v : Vec3). added (added t classes.Pin v) class own) (first_alone pins m.first_move))
counted_more t class pins own true false m h =
    pins_first (added t classes.Pin pins) class own m.second_move
    ∙ ap (λ (u : Ledger). added u class own) (both_added t classes.Pin pins m.second_move)
    ∙ sym ((λ i. added (added t classes.Pin (plus pins (plus (h.first refl i) m.second_move))) class (plus_nothing own i))
    ∙ ap (λ (v : Vec3). added (added t classes.Pin v) class own) (second_alone pins m.second_move))
counted_more t class pins own true true m h =
    sym ((λ i. added (added t classes.Pin (plus pins (plus (h.first refl i) (h.second refl i)))) class (plus_nothing own i))
    ∙ ap (λ (v : Vec3). added (added t classes.Pin v) class own) (both_none pins))

-- all of them
pub counted_all : (t : Ledger) (class : Class) (p q : ℕ → Bool) (m : ℕ → Shift) (n : ℕ) → ((k : ℕ) → k < n → HeldStay (p k) (q k) (m k))
    → settled (λ k. entries_of (p k) (q k) class (m k)) n t
    ≡ added (added t classes.Pin (moved_below (λ k. together_if (p k || q k) (m k)) n)) class
    (moved_below (λ k. together_if (not (p k || q k)) (m k)) n)
counted_all t class p q m zero h =
    sym (ap (λ (u : Ledger). added u class zero_vector) (added_nothing t classes.Pin) ∙ added_nothing t class)
counted_all t class p q m (suc n) h =
    ap (λ (u : Ledger). booked u (entries_of (p n) (q n) class (m n))) (counted_all t class p q m n (λ k l. h k (omega arith)))
    ∙ counted_more t class (moved_below (λ k. together_if (p k || q k) (m k)) n)
    (moved_below (λ k. together_if (not (p k || q k)) (m k)) n) (p n) (q n) (m n) (h n (omega arith))

-- ---- an end without a weight stays

no_share : (s : Vec3) (k : ℤ) (total : ℕ) → 0 < total → shares s k (pos 0) total ≡ zero_vector
no_share s k total some = same_axes _ _ (share_none s.x k total some) (share_none s.y k total some) (share_none s.z k total some)

abbrev both_zero : Vec3 × Vec3
both_zero = (zero_vector, zero_vector)

module _ (way : Vec3) (rest k other : ℤ) where
  first_rests : (pair_moves way zero_vector rest k (pos 0) other).0 ≡ zero_vector
  first_rests = elim (cases_lt 0 (length_of way)) [
    | inl far ↦ elim (cases_lt 0 (unsigned_abs (pos 0) + unsigned_abs other)) [
      | inl some ↦
          ap (λ (m : Vec3 × Vec3). m.0) (along-some way rest k (pos 0) other far some)
          ∙ ap opposite (no_share (corrections way rest) k (unsigned_abs (pos 0) + unsigned_abs other) some)
      | inr none ↦ ap (λ (m : Vec3 × Vec3). m.0) (along-none way rest k (pos 0) other (inr (omega (arith, none))))
    ]
    | inr near ↦ ap (λ (m : Vec3 × Vec3). m.0) (along-none way rest k (pos 0) other (inl (omega (arith, near))))
  ]

  second_rests : (pair_moves way zero_vector rest k other (pos 0)).1 ≡ zero_vector
  second_rests = elim (cases_lt 0 (length_of way)) [
    | inl far ↦ elim (cases_lt 0 (unsigned_abs other + unsigned_abs (pos 0))) [
      | inl some ↦
          ap (λ (m : Vec3 × Vec3). m.1) (along-some way rest k other (pos 0) far some)
          ∙ no_share (corrections way rest) k (unsigned_abs other + unsigned_abs (pos 0)) some
      | inr none ↦ ap (λ (m : Vec3 × Vec3). m.1) (along-none way rest k other (pos 0) (inr (omega (arith, none))))
    ]
    | inr near ↦ ap (λ (m : Vec3 × Vec3). m.1) (along-none way rest k other (pos 0) (inl (omega (arith, near))))
  ]

first_case : (slack : Bool) (m : Vec3 × Vec3) → m.0 ≡ zero_vector → (cond slack both_zero m).0 ≡ zero_vector
first_case true m e = refl
first_case false m e = e

second_case : (slack : Bool) (m : Vec3 × Vec3) → m.1 ≡ zero_vector → (cond slack both_zero m).1 ≡ zero_vector
second_case true m e = refl
second_case false m e = e

pub first_stays : (way : Vec3) (other : ℤ) (b : Bond) → (moves_by way (pos 0) other b).0 ≡ zero_vector
unfolding moves_by
first_stays way other b = first_case _ _ (first_rests way b.rest b.k other)

pub second_stays : (way : Vec3) (other : ℤ) (b : Bond) → (moves_by way other (pos 0) b).1 ≡ zero_vector
unfolding moves_by
second_stays way other b = second_case _ _ (second_rests way b.rest b.k other)
