-- What calls ask, of what tests draw.
use Rattle.std.proofs.Common.{◌≡◌, ℕ, zero, suc, ◌<◌, ◌≤◌, ◌==◌, not, nat_lt, ℤ, List, [], ◌∷◌, length, IsTrue, arith, refl, sym, ap, ◌∙◌}
use Rattle.std.proofs.Common.{◌^◌, ◌||◌, Bool, true, false, pos, unsigned_abs, w64, of_z, to_z}
use Rattle.std.specs.Ordering.{int_eq}
use Rattle.std.proofs.lemmas.Int.{ints, to_z-of_z}
use Rattle.std.proofs.lemmas.Bool.Decides.{Decides-int_eq}
use Rattle.std.specs.List.{list_all}
use Rattle.std.proofs.lemmas.Bool.{and_parts, leb-true, ltb-true, eqb-true, eq-eqb, false≢true}
use Rattle.std.proofs.lemmas.List.Sums.{AllPass-from_list_all}
use Rattle.pbd_num.proofs.Sizes.{fits}
use Rattle.pbd_world.specs.declared.parts.Particle.{Particle}
use Rattle.pbd_world.specs.declared.parts.ShapeLists.{ShapeLists}
use Rattle.pbd_world.specs.Shapes.{are_valid_shapes}
use Rattle.pbd_world.specs.Valid.{is_limit}
use Rattle.pbd_store.specs.declared.pairs.Pairs.{Pairs}
use Rattle.pbd_store.specs.Gathering.{index_at}
use Rattle.pbd_store.specs.Moving.{AreInside, Weigh}
use Rattle.pbd_store.specs.Pairs.{ArePairs, PairsApart}
use Rattle.pbd_store.proofs.Limits.{valid_inside}
use Rattle.pbd_pair.specs.declared.bonds.Bonds.{Bonds}
use Rattle.pbd_pair.specs.declared.bonds.Bonds.TheVariants.{Links, Contacts, LaidLinks, LaidContacts}
use Rattle.pbd_pair.specs.Laid.{Suit}
use Rattle.pbd_pair.specs.Projecting.{IsBatch}
use Rattle.pbd_pair.proofs.Examples.{are_inside, weigh, batch_is}
use Rattle.pbd_tests_pairs.specs.Drawn.{are_different, share_none, are_pairs, are_apart, are_plain, may_part, may_push, may_project}

below : (n : ℕ) (xs : List ℕ) → IsTrue (list_all (λ i. nat_lt i n) xs) → (j : ℕ) → j < length xs → index_at xs j < n
below n xs h j lt = ltb-true (index_at xs j) n (AllPass-from_list_all (λ i. nat_lt i n) xs h j 0 lt)

other : (x : ℕ) (xs : List ℕ) → IsTrue (list_all (λ y. not (x == y)) xs) → (j : ℕ) → j < length xs → x ≡ index_at xs j → ⊥
other x xs h j lt e =
    false≢true (sym (ap not (eq-eqb x (index_at xs j) e)) ∙ AllPass-from_list_all (λ y. not (x == y)) xs h j 0 lt)

different : (xs : List ℕ) → IsTrue (are_different xs) → (j k : ℕ) → j < k → k < length xs → index_at xs j ≡ index_at xs k → ⊥
different [] h j k q lt e = absurd (omega arith)
different (x ∷ xs) h j zero q lt e = absurd (omega arith)
different (x ∷ xs) h zero (suc k) q lt e = other x xs (and_parts _ _ h).0 k (omega arith) e
different (x ∷ xs) h (suc j) (suc k) q lt e = different xs (and_parts _ _ h).1 j k (omega arith) (omega arith) e

unshared : (xs ys : List ℕ) → IsTrue (share_none xs ys) → (j k : ℕ) → j < length xs → k < length ys → index_at xs j ≡ index_at ys k → ⊥
unshared xs ys h j k p q e =
    other (index_at xs j) ys (AllPass-from_list_all (λ x. list_all (λ y. not (x == y)) ys) xs h j 0 p) k q e

pairs_are : (n : ℕ) (pairs : Pairs) → IsTrue (are_pairs n pairs) → ArePairs (length pairs.first.now) n pairs
pairs_are n pairs h =
    let most = and_parts _ _ h in
    let half = and_parts _ _ most.0 in
    let sizes = and_parts _ _ half.0 in
    let alike : length pairs.second.now ≡ length pairs.first.now = eqb-true _ _ sizes.1 in
    record {
      few = leb-true _ _ sizes.0;
      first_long = refl;
      second_long = alike;
      first = below n pairs.first.now half.1;
      second = λ j lt. below n pairs.second.now most.1 j (omega arith);
    }

apart_are : (n : ℕ) (pairs : Pairs) → IsTrue (are_pairs n pairs) → IsTrue (are_apart pairs) → PairsApart (length pairs.first.now) pairs
apart_are n pairs p h =
    let alike = (pairs_are n pairs p).second_long in
    let most = and_parts _ _ h in
    let own = and_parts _ _ most.0 in
    record {
      across = λ j k lt q. unshared pairs.first.now pairs.second.now most.1 j k lt (omega arith);
      first = different pairs.first.now own.0;
      second = λ j k lt q. different pairs.second.now own.1 j k lt (omega arith);
    }

-- a limit that was read from its bits
read : (n : ℤ) → IsTrue (is_limit n) → to_z w64 (of_z w64 n) ≡ n
read n h = read_unless_limit (int_eq n (pos (2 ^ 28))) refl
  where
    read_unless_limit : (b : Bool) → int_eq n (pos (2 ^ 28)) ≡ b → to_z w64 (of_z w64 n) ≡ n
    read_unless_limit true e = let small : n ≡ pos (2 ^ 28) = (Decides-int_eq n (pos (2 ^ 28))).0 e in
        to_z-of_z w64 n (fits n (omega (arith, ap unsigned_abs small)))
    read_unless_limit false e = let large : n ≡ pos (2 ^ 29) = (Decides-int_eq n (pos (2 ^ 29))).0
        (ap (λ (b : Bool). b || int_eq n (pos (2 ^ 29))) (sym e) ∙ h) in to_z-of_z w64 n (fits n (omega (arith, ap unsigned_abs large)))

pub record MayPart (limit : ℤ) (particles : List Particle) (pairs : Pairs) : Type 0 where
  pub few : length particles ≤ 65536
  pub either : IsTrue (is_limit limit)
  pub read : to_z w64 (of_z w64 limit) ≡ limit
  pub named : ArePairs (length pairs.first.now) (length particles) pairs
  pub apart : PairsApart (length pairs.first.now) pairs
  pub inside : AreInside limit particles

pub drawn : (limit : ℤ) (particles : List Particle) (pairs : Pairs) → IsTrue (may_part limit particles pairs)
    → MayPart limit particles pairs
drawn limit particles pairs h =
    let most = and_parts _ _ h in
    let half = and_parts _ _ most.0 in
    let world = and_parts _ _ half.0 in
    record {
      few = leb-true _ _ (and_parts _ _ world.1).0;
      either = world.0;
      read = read limit world.0;
      named = pairs_are (length particles) pairs half.1;
      apart = apart_are (length particles) pairs half.1 most.1;
      inside = valid_inside limit particles world.0 world.1;
    }

pub record MayPush (particles : List Particle) (lists : ShapeLists) : Type 0 where
  pub few : length particles ≤ 65536
  pub inside : AreInside (pos (2 ^ 29)) particles
  pub valid : IsTrue (are_valid_shapes (pos (2 ^ 29)) lists)

pub pushed : (particles : List Particle) (lists : ShapeLists) → IsTrue (may_push particles lists) → MayPush particles lists
pushed particles lists h =
    let both = and_parts _ _ h in
    record {
      few = leb-true _ _ (and_parts _ _ both.0).0;
      inside = valid_inside (pos (2 ^ 29)) particles refl both.0;
      valid = both.1;
    }

suits : (bonds : Bonds) (batch : List ℕ) (particles : List Particle) → IsTrue (are_plain bonds) → Suit bonds batch particles
suits (Links links) batch particles h = tt
suits (Contacts pairs thickness) batch particles h = tt
suits (LaidLinks links laid) batch particles h = absurd (false≢true h)
suits (LaidContacts pairs thickness laid) batch particles h = absurd (false≢true h)

pub record MayProject (particles : List Particle) (bonds : Bonds) (batch : List ℕ) : Type 0 where
  pub two : 2 ≤ length particles
  pub few : length particles ≤ 65536
  pub batched : IsBatch (pos (2 ^ 29)) (length particles) bonds batch
  pub columns : Suit bonds batch particles
  pub inside : AreInside (pos (2 ^ 29)) particles
  pub weights : Weigh particles

pub projected : (particles : List Particle) (bonds : Bonds) (batch : List ℕ) → IsTrue (may_project particles bonds batch)
    → MayProject particles bonds batch
projected particles bonds batch h =
    let most = and_parts _ _ h in
    let three = and_parts _ _ most.0 in
    let half = and_parts _ _ three.0 in
    let sizes = and_parts _ _ half.0 in
    record {
      two = leb-true _ _ sizes.0;
      few = leb-true _ _ sizes.1;
      batched = batch_is (pos (2 ^ 29)) (length particles) bonds batch three.1;
      columns = suits bonds batch particles most.1;
      inside = are_inside (pos (2 ^ 29)) particles (omega (arith, ints)) half.1;
      weights = weigh (pos (2 ^ 29)) particles (omega (arith, ints)) half.1;
    }
