-- Parts of a batch, and what stays with the fixed parts.
use Rattle.std.proofs.Common.{◌≡◌, ℕ, zero, suc, ◌+◌, ◌-◌, ◌*◌, ◌/◌, ◌%◌, ◌<◌, ◌≤◌, ℤ, List, [], ◌∷◌, length, get_or, take, drop, refl, ap}
use Rattle.std.proofs.Common.{sym, ◌∙◌, arith, subst, inl, inr, min}
use Rattle.std.proofs.lemmas.Bool.{cases_lt}
use Rattle.std.proofs.lemmas.List.{get_or-take, get_or-drop, length-take, length-drop}
use Rattle.std.proofs.lemmas.Nat.{div-add-mod'}
use Rattle.std.proofs.Math.Nat.{add-div_right, div-eq_of_lt, mod-lt}
use Rattle.pbd_num.specs.Vectors.{zero_vector}
use Rattle.pbd_world.specs.declared.parts.Particle.{Particle}
use Rattle.pbd_world.specs.Particles.{particle_at}
use Rattle.pbd_store.specs.Blocks.{blocks_of}
use Rattle.pbd_store.specs.Moving.{fixed_parts, Weigh}
use Rattle.pbd_store.proofs.Fixed.{same_length}
use Rattle.pbd_pair.specs.declared.bonds.Bonds.{Bonds}
use Rattle.pbd_pair.specs.Bonds.{bond_of, bond_count, IsBond}
use Rattle.pbd_pair.specs.Projecting.{IsBatch, ShareNone}

-- ---- parts of a batch are batches

module _ (limit : ℤ) (n : ℕ) (bonds : Bonds) (xs : List ℕ) (k : ℕ) (fits : k ≤ length xs) (h : IsBatch limit n bonds xs) where
  at_front : (i : ℕ) → i < length (take k xs) → (i < k) × (get_or xs i 0 ≡ get_or (take k xs) i 0)
  at_front i p = let q : i < k = omega (arith, length-take k xs) in (q, sym (get_or-take k xs i 0 q))

  pub front_batch : IsBatch limit n bonds (take k xs)
  front_batch = record {
    numbers = λ i p. let q = at_front i p in subst (λ m. m < bond_count bonds) q.1 (h.numbers i (omega (arith, q.0)));
    bond = λ i p. let q = at_front i p in subst (λ m. IsBond limit n (bond_of bonds m)) q.1 (h.bond i (omega (arith, q.0)));
    apart = record {
      each = λ i j p q. let a = at_front i (omega arith) in let b = at_front j q in coe 0 1 (m. ShareNone (bond_of bonds (a.1 m))
          (bond_of bonds (b.1 m))) (h.apart.each i j p (omega (arith, b.0)));
    };
  }

  at_back : (i : ℕ) → i < length (drop k xs) → (k + i < length xs) × (get_or xs (k + i) 0 ≡ get_or (drop k xs) i 0)
  at_back i p = (omega (arith, length-drop k xs), sym (get_or-drop k xs i 0))

  pub back_batch : IsBatch limit n bonds (drop k xs)
  back_batch = record {
    numbers = λ i p. let q = at_back i p in subst (λ m. m < bond_count bonds) q.1 (h.numbers (k + i) q.0);
    bond = λ i p. let q = at_back i p in subst (λ m. IsBond limit n (bond_of bonds m)) q.1 (h.bond (k + i) q.0);
    apart = record {
      each = λ i j p q. let a = at_back i (omega arith) in let b = at_back j q in coe 0 1 (m. ShareNone (bond_of bonds (a.1 m))
          (bond_of bonds (b.1 m))) (h.apart.each (k + i) (k + j) (omega arith) b.0);
    };
  }

-- ---- whole blocks, and the rest

whole_blocks : (q l : ℕ) → 0 < l → blocks_of (q * l) l ≡ q
whole_blocks zero l h = div-eq_of_lt (omega arith)
whole_blocks (suc q) l h = ap (λ (x : ℕ). x / l) (one_block_more q l h) ∙ add-div_right (q * l + l - 1) h ∙ more (whole_blocks q l h) where
  one_block_more : (q l : ℕ) → 0 < l → suc q * l + l - 1 ≡ q * l + l - 1 + l
  one_block_more q l h = omega arith

  more : (q * l + l - 1) / l ≡ q → (q * l + l - 1) / l + 1 ≡ suc q
  more e = omega (arith, e)

after_blocks : (q m l : ℕ) → 0 < l → blocks_of (m + q * l) l ≡ blocks_of m l + q
after_blocks zero m l h = ap (λ (x : ℕ). blocks_of x l) (none m l) ∙ sym (plus_none (blocks_of m l)) where
  none : (x y : ℕ) → x + 0 * y ≡ x
  none x y = omega arith

  plus_none : (x : ℕ) → x + 0 ≡ x
  plus_none x = omega arith
after_blocks (suc q) m l h = ap (λ (x : ℕ). x / l) (one_block_more q m l h) ∙ add-div_right (m + q * l + l - 1) h ∙ more (after_blocks q m l h) where
  one_block_more : (q m l : ℕ) → 0 < l → m + suc q * l + l - 1 ≡ m + q * l + l - 1 + l
  one_block_more q m l h = omega arith

  more : (m + q * l + l - 1) / l ≡ blocks_of m l + q → (m + q * l + l - 1) / l + 1 ≡ blocks_of m l + suc q
  more e = omega (arith, e)

-- a front of q whole blocks, or of all
pub fewer_blocks : (m k q l : ℕ) → 0 < l → k ≡ min m (q * l) → blocks_of (m - k) l + blocks_of k l ≤ blocks_of m l
fewer_blocks m k q l h e = elim (cases_lt m (q * l)) [
  | inl p ↦ (let all : k ≡ m = omega arith in
      let none : blocks_of (m - k) l ≡ 0 = div-eq_of_lt (omega arith) in
      omega (arith, none, ap (λ (x : ℕ). blocks_of x l) all))
  | inr p ↦ (let some : k ≡ q * l = omega arith in
      let whole : m ≡ m - k + q * l = omega arith in
      omega (
        arith,
        ap (λ (x : ℕ). blocks_of x l) some,
        whole_blocks q l h,
        ap (λ (x : ℕ). blocks_of x l) whole,
        after_blocks q (m - k) l h,
      ))
]

-- a chunk is of whole blocks
pub whole_chunk : (l : ℕ) → 128 / l * l ≡ 128 - 128 % l
whole_chunk l = omega (arith, div-add-mod' 128 l)

pub some_chunk : (l : ℕ) → 0 < l → l ≤ 16 → 0 < 128 - 128 % l
some_chunk l low high = omega (arith, mod-lt 128 low)

-- ---- what stays with the fixed parts

pub get_or-map_fixed : (ps : List Particle) (i : ℕ) → particle_at (fixed_parts ps) i ≡ record (particle_at ps i) { at = zero_vector }
get_or-map_fixed [] i = refl
get_or-map_fixed (p ∷ ps) zero = refl
get_or-map_fixed (p ∷ ps) (suc i) = get_or-map_fixed ps i

weight_same : (ps qs : List Particle) (i : ℕ) → fixed_parts qs ≡ fixed_parts ps → (particle_at qs i).weight ≡ (particle_at ps i).weight
weight_same ps qs i e =
    sym (ap (λ (p : Particle). p.weight) (get_or-map_fixed qs i)) ∙ ap (λ (l : List Particle). (particle_at l i).weight) e
    ∙ ap (λ (p : Particle). p.weight) (get_or-map_fixed ps i)

pub weigh_same : (ps qs : List Particle) → fixed_parts qs ≡ fixed_parts ps → Weigh ps → Weigh qs
weigh_same ps qs e h = record {
  low = λ i p. rw (weight_same ps qs i e) (h.low i (omega (arith, same_length qs ps e)));
  high = λ i p. rw (weight_same ps qs i e) (h.high i (omega (arith, same_length qs ps e)));
}
