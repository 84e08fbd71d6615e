-- The tests say what a projector asks.
use Rattle.std.proofs.Common.{◌≡◌, ℕ, zero, suc, ◌<◌, ◌^◌, ℤ, pos, ◌≤ℤ◌, ◌*ℤ◌, int_le, List, [], ◌∷◌, length, get_or, IsTrue, Bool, true}
use Rattle.std.proofs.Common.{false, not, ◌&&◌, ◌==◌, nat_le, nat_lt, refl, sym, ◌∙◌, ap, arith}
use Rattle.std.specs.List.{list_all}
use Rattle.std.proofs.lemmas.Bool.{leb-true, ltb-true, false≢true, eq-eqb}
use Rattle.pbd_num.specs.Vectors.{is_within}
use Rattle.pbd_num.proofs.Ranges.{within_facts}
use Rattle.pbd_world.specs.declared.parts.Particle.{Particle}
use Rattle.pbd_world.specs.declared.bond.Bond.{Bond}
use Rattle.pbd_world.specs.Ledger.{Ledger, zero_sum, zero_totals, SumWithin, HaveRoom}
use Rattle.pbd_world.specs.Particles.{particle_at}
use Rattle.pbd_pair.specs.declared.bonds.Bonds.{Bonds}
use Rattle.pbd_pair.specs.Bonds.{bond_of, bond_count, HasPull, IsBond}
use Rattle.pbd_store.specs.Moving.{AreInside, Weigh}
use Rattle.pbd_pair.specs.Projecting.{ShareNone, IsBatch}
use Rattle.pbd_pair.specs.Examples.{is_placed, has_pull, is_bond, share_none, is_batch}
use Rattle.pbd_num.proofs.Tests.{at_most}

pub left : (a b : Bool) → IsTrue (a && b) → IsTrue a
left true b h = refl
left false b h = h

pub right : (a b : Bool) → IsTrue (a && b) → IsTrue b
right true b h = h
right false b h = absurd (false≢true h)

differ : (a b : ℕ) → IsTrue (not (a == b)) → a ≡ b → ⊥
differ a b h e = false≢true (sym (ap not (eq-eqb a b e)) ∙ h)

pub all_at : {A : Type 0} (p : A → Bool) (xs : List A) (d : A) (i : ℕ) → IsTrue (list_all p xs) → i < length xs → IsTrue (p (get_or xs i d))
all_at p [] d i h q = absurd (omega arith)
all_at p (x ∷ xs) d zero h q = left (p x) (list_all p xs) h
all_at p (x ∷ xs) d (suc i) h q = all_at p xs d i (right (p x) (list_all p xs) h) (omega arith)

module _ (limit : ℤ) (ps : List Particle) (low : pos 0 ≤ℤ limit) (h : IsTrue (list_all (is_placed limit) ps)) where
  at : (i : ℕ) → i < length ps → IsTrue (is_placed limit (particle_at ps i))
  at i q = all_at (is_placed limit) ps _ i h q

  pub are_inside : AreInside limit ps
  are_inside = record {
    each = λ i q. let p = particle_at ps i in (within_facts limit p.at low).0 (left (is_within limit p.at)
        (nat_le 1 p.weight && nat_le p.weight 65535) (at i q));
  }

  weighs : (i : ℕ) → i < length ps → IsTrue (nat_le 1 (particle_at ps i).weight && nat_le (particle_at ps i).weight 65535)
  weighs i q = let p = particle_at ps i in right (is_within limit p.at) (nat_le 1 p.weight && nat_le p.weight 65535) (at i q)

  pub weigh : Weigh ps
  weigh = record {
    low = λ i q. let w = (particle_at ps i).weight in leb-true 1 w (left (nat_le 1 w) (nat_le w 65535) (weighs i q));
    high = λ i q. let w = (particle_at ps i).weight in leb-true w 65535 (right (nat_le 1 w) (nat_le w 65535) (weighs i q));
  }

pulled : (limit : ℤ) (b : Bond) → IsTrue (has_pull limit b) → HasPull limit b
pulled limit b h =
    let h1 = right (int_le (pos 0) b.rest) (int_le b.rest (pos 4 *ℤ limit) && (int_le (pos 0) b.k && int_le b.k (pos 256))) h in
    let h2 = right (int_le b.rest (pos 4 *ℤ limit)) (int_le (pos 0) b.k && int_le b.k (pos 256)) h1 in
    record {
      rest_low = at_most (pos 0) b.rest (left (int_le (pos 0) b.rest)
          (int_le b.rest (pos 4 *ℤ limit) && (int_le (pos 0) b.k && int_le b.k (pos 256))) h);
      rest_high = at_most b.rest (pos 4 *ℤ limit) (left (int_le b.rest (pos 4 *ℤ limit)) (int_le (pos 0) b.k && int_le b.k (pos 256)) h1);
      k_low = at_most (pos 0) b.k (left (int_le (pos 0) b.k) (int_le b.k (pos 256)) h2);
      k_high = at_most b.k (pos 256) (right (int_le (pos 0) b.k) (int_le b.k (pos 256)) h2);
    }

bond_is : (limit : ℤ) (n : ℕ) (b : Bond) → IsTrue (is_bond limit n b) → IsBond limit n b
bond_is limit n b h =
    let h1 = right (nat_lt b.a n) (nat_lt b.b n && (not (b.a == b.b) && has_pull limit b)) h in
    let h2 = right (nat_lt b.b n) (not (b.a == b.b) && has_pull limit b) h1 in
    record {
      first = ltb-true b.a n (left (nat_lt b.a n) (nat_lt b.b n && (not (b.a == b.b) && has_pull limit b)) h);
      second = ltb-true b.b n (left (nat_lt b.b n) (not (b.a == b.b) && has_pull limit b) h1);
      different = differ b.a b.b (left (not (b.a == b.b)) (has_pull limit b) h2);
      pulled = pulled limit b (right (not (b.a == b.b)) (has_pull limit b) h2);
    }

none_shared : (b c : Bond) → IsTrue (share_none b c) → ShareNone b c
none_shared b c h =
    let h1 = right (not (b.a == c.a)) (not (b.a == c.b) && (not (b.b == c.a) && not (b.b == c.b))) h in
    let h2 = right (not (b.a == c.b)) (not (b.b == c.a) && not (b.b == c.b)) h1 in
    record {
      aa = differ b.a c.a (left (not (b.a == c.a)) (not (b.a == c.b) && (not (b.b == c.a) && not (b.b == c.b))) h);
      ab = differ b.a c.b (left (not (b.a == c.b)) (not (b.b == c.a) && not (b.b == c.b)) h1);
      ba = differ b.b c.a (left (not (b.b == c.a)) (not (b.b == c.b)) h2);
      bb = differ b.b c.b (right (not (b.b == c.a)) (not (b.b == c.b)) h2);
    }

pub batch_is : (limit : ℤ) (n : ℕ) (bonds : Bonds) (xs : List ℕ) → IsTrue (is_batch limit n bonds xs) → IsBatch limit n bonds xs
batch_is limit n bonds [] h = record {
  numbers = λ i q. absurd (omega arith);
  bond = λ i q. absurd (omega arith);
  apart = record { each = λ i j p q. absurd (omega arith) };
}
batch_is limit n bonds (x ∷ xs) h =
    let a = list_all (λ y. share_none (bond_of bonds x) (bond_of bonds y)) xs in
    let r = is_batch limit n bonds xs in
    let h1 = right (nat_lt x (bond_count bonds)) (is_bond limit n (bond_of bonds x) && (a && r)) h in
    let h2 = right (is_bond limit n (bond_of bonds x)) (a && r) h1 in
    more limit n bonds x xs
    (ltb-true x (bond_count bonds) (left (nat_lt x (bond_count bonds)) (is_bond limit n (bond_of bonds x) && (a && r)) h))
    (bond_is limit n (bond_of bonds x) (left (is_bond limit n (bond_of bonds x)) (a && r) h1))
    (left a r h2)
    (batch_is limit n bonds xs (right a r h2))
  where
    more : (limit : ℤ) (n : ℕ) (bonds : Bonds) (x : ℕ) (xs : List ℕ) → x < bond_count bonds → IsBond limit n (bond_of bonds x)
        → IsTrue (list_all (λ y. share_none (bond_of bonds x) (bond_of bonds y)) xs) → IsBatch limit n bonds xs
        → IsBatch limit n bonds (x ∷ xs)
    more limit n bonds x xs c b a r = record { numbers = numbers; bond = bond; apart = record { each = each } } where
      numbers : (i : ℕ) → i < length (x ∷ xs) → get_or (x ∷ xs) i 0 < bond_count bonds
      numbers zero q = c
      numbers (suc i) q = r.numbers i (omega arith)

      bond : (i : ℕ) → i < length (x ∷ xs) → IsBond limit n (bond_of bonds (get_or (x ∷ xs) i 0))
      bond zero q = b
      bond (suc i) q = r.bond i (omega arith)

      each : (i j : ℕ) → i < j → j < length (x ∷ xs) → ShareNone (bond_of bonds (get_or (x ∷ xs) i 0)) (bond_of bonds (get_or (x ∷ xs) j 0))
      each i zero p q = absurd (omega arith)
      each zero (suc j) p q = none_shared (bond_of bonds x) (bond_of bonds (get_or xs j 0)) (all_at (λ y. share_none (bond_of bonds x)
          (bond_of bonds y)) xs 0 j a (omega arith))
      each (suc i) (suc j) p q = r.apart.each i j (omega arith) (omega arith)

-- totals of zero have room
pub room_of_zero : (t : Ledger) → t ≡ zero_totals → HaveRoom (2 ^ 120) t
room_of_zero t e =
    let none : SumWithin (2 ^ 120) zero_sum = record { x = omega arith; y = omega arith; z = omega arith } in
    rw e (record { gravity = none; damping = none; link = none; contact = none; pin = none; shape = none })
