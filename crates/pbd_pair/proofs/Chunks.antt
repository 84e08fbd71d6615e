-- What is known of a chunk's bonds and of what lies between their ends.
use Rattle.std.proofs.Common.{◌≡◌, ℕ, ◌<◌, ◌≤◌, ◌^◌, ℤ, pos, neg_ℤ, w32, FitsSigned, ◌≤ℤ◌, List, length, get_or, take, Bool, true, false}
use Rattle.std.proofs.Common.{cond, int_le, refl, ap, sym, ◌∙◌, arith, subst, inl, inr}
use Rattle.std.proofs.Common.{to_z, of_z}
use Rattle.std.proofs.lemmas.Int.{ints, fits_signed_from_abs, to_z-of_z}
use Rattle.std.proofs.lemmas.Bool.{cases_eq, cases_lt}
use Rattle.std.proofs.lemmas.List.{get_or-take, length-take}
use Rattle.pbd_num.specs.declared.Vec3.{Vec3}
use Rattle.pbd_num.specs.declared.row.Row.{Row}
use Rattle.pbd_num.specs.declared.tried.Weights.{Weights}
use Rattle.pbd_num.specs.Rows.{vector_of}
use Rattle.pbd_num.specs.Vectors.{Within, minus}
use Rattle.pbd_num.proofs.Ranges.{wider}
use Rattle.pbd_num.proofs.Sizes.{size_le, size_at_most}
use Rattle.pbd_num.proofs.VectorSizes.{minus_within}
use Rattle.pbd_world.specs.declared.bond.Bond.{Bond}
use Rattle.pbd_world.specs.declared.totals.Totals.{Totals}
use Rattle.pbd_world.specs.Particles.{particle_at, effective_weight}
use Rattle.pbd_store.specs.Gathering.{index_at}
use Rattle.pbd_store.specs.Stored.{Stored}
use Rattle.pbd_store.specs.Pairs.{row_in, ArePairs, PairsApart, AreBetween, IsWay}
use Rattle.pbd_store.specs.declared.pairs.Pairs.{Pairs}
use Rattle.pbd_store.specs.declared.pairs.Between.{Between}
use Rattle.pbd_pair.specs.declared.bonds.Bonds.{Bonds}
use Rattle.pbd_pair.specs.declared.chunk.Columns.{Columns}
use Rattle.pbd_pair.specs.declared.chunk.Found.{Found}
use Rattle.pbd_pair.specs.Bonds.{bond_of}
use Rattle.pbd_pair.specs.Projecting.{CanProject}
use Rattle.pbd_pair.specs.Moves.{moves_by, moves_at}
use Rattle.pbd_pair.specs.Chunks.{rows_of, AreShared, AreEnds, AreKnown, AreSized, AreWeighed, HoldsFactor, HoldsRest, HoldsStiffness, IsGuess}
use Rattle.pbd_pair.specs.Chunks.{AreWeights, IsFound, LieBetween, Lying}
use Rattle.pbd_pair.specs.declared.laid.Laid.{Laid}
use Rattle.pbd_pair.specs.declared.laid.LaidBond.{LaidBond}
use Rattle.pbd_pair.specs.Laid.{factor_of, laid_at, laid_bond, lists_of, number_in, portion_of, stiffness_of, weight_in, AreLaid, AreOfBatch, Lists}
use Rattle.pbd_pair.proofs.Laying.{factor_held, portion_held, short_held, stiffness_held}
use Rattle.pbd_pair.proofs.Ranges.{rest_fits}
use Rattle.pbd_pair.proofs.Reaching.{nth}

-- numbers that fit 32 bits
pub short_fits : (z : ℤ) → pos 0 ≤ℤ z → z ≤ℤ pos 65535 → FitsSigned w32 z
short_fits z low high = fits_signed_from_abs w32 z (omega (arith, size_at_most z 65535 low high))

pub share_fits : (z : ℤ) → neg_ℤ (pos 1) ≤ℤ z → z ≤ℤ pos 512 → FitsSigned w32 z
share_fits z low high = fits_signed_from_abs w32 z (omega (arith, size_le z 512 high (omega (arith, ints))))

pub below_both : (a b c : ℤ) → a ≤ℤ b → b ≤ℤ c → a ≤ℤ c
below_both a b c h k = omega (arith, ints)

pub first_fits : {n : ℕ} {l : Lying} → AreSized n l → (j : ℕ) → j < n → FitsSigned w32 (number_in l.first_weight j)
first_fits {n} {l} h j p = short_fits (number_in l.first_weight j) (h.first_low j p) (h.first_high j p)

pub second_fits : {n : ℕ} {l : Lying} → AreSized n l → (j : ℕ) → j < n → FitsSigned w32 (number_in l.second_weight j)
second_fits {n} {l} h j p = short_fits (number_in l.second_weight j) (h.second_low j p) (h.second_high j p)

-- the weights of pair j, by what words tell of them
pub weights_told : {n : ℕ} {l : Lying} {first second : ℤ} → AreSized n l → (j : ℕ) → j < n
    → first ≡ to_z w32 (of_z w32 (number_in l.first_weight j)) → second ≡ to_z w32 (of_z w32 (number_in l.second_weight j))
    → (first ≡ number_in l.first_weight j) × (second ≡ number_in l.second_weight j)
weights_told sized j p first second =
    (first ∙ to_z-of_z w32 _ (first_fits sized j p), second ∙ to_z-of_z w32 _ (second_fits sized j p))

pub weights_sized : {n : ℕ} {l : Lying} {w : Weights} → AreSized n l → (j : ℕ) → j < n
    → w.first ≡ to_z w32 (of_z w32 (number_in l.first_weight j)) → w.second ≡ to_z w32 (of_z w32 (number_in l.second_weight j)) → AreWeights w
weights_sized sized j p first second =
    let told = weights_told sized j p first second in
    record {
      first_low = subst (λ (z : ℤ). pos 0 ≤ℤ z) (sym told.0) (sized.first_low j p);
      first_high = subst (λ (z : ℤ). z ≤ℤ pos 65535) (sym told.0) (sized.first_high j p);
      second_low = subst (λ (z : ℤ). pos 0 ≤ℤ z) (sym told.1) (sized.second_low j p);
      second_high = subst (λ (z : ℤ). z ≤ℤ pos 65535) (sym told.1) (sized.second_high j p);
    }

module _ {bonds : Bonds} {numbers : List ℕ} {s : Stored} {t : Totals} (can : CanProject 128 bonds numbers s t) where
  abbrev B : ℕ → Bond
  B k = nth (bond_of bonds) numbers k

  pub known_bonds : AreKnown bonds numbers
  known_bonds = record {
    few = can.short;
    known = can.batch.numbers;
    firm = λ j p. let d = (can.batch.bond j p).pulled in record {
      rest_low = d.rest_low;
      rest_high = rest_fits s.limit (B j) can.bound d;
      k_low = d.k_low;
      k_high = d.k_high;
    };
  }

  module _ (c : Columns) (pairs : Pairs) (loaded : AreEnds (bond_of bonds) numbers c)
      (firsts : pairs.first.now ≡ take (length numbers) c.first)
      (seconds : pairs.second.now ≡ take (length numbers) c.second) where
    pub taken_first : (j : ℕ) → j < length numbers → index_at pairs.first.now j ≡ (B j).a
    taken_first j p = ap (λ (xs : List ℕ). get_or xs j 0) firsts ∙ get_or-take (length numbers) c.first j 0 p ∙ loaded.first j p

    pub taken_second : (j : ℕ) → j < length numbers → index_at pairs.second.now j ≡ (B j).b
    taken_second j p = ap (λ (xs : List ℕ). get_or xs j 0) seconds ∙ get_or-take (length numbers) c.second j 0 p ∙ loaded.second j p

    pub are_pairs : ArePairs (length numbers) (length s.particles) pairs
    are_pairs = record {
      few = can.short;
      first_long = ap (λ (xs : List ℕ). length xs) firsts ∙ omega
          (arith, length-take (length numbers) c.first, can.short, loaded.first_long);
      second_long = ap (λ (xs : List ℕ). length xs) seconds
          ∙ omega (arith, length-take (length numbers) c.second, can.short, loaded.second_long);
      first = λ j p. omega (arith, taken_first j p, (can.batch.bond j p).first);
      second = λ j p. omega (arith, taken_second j p, (can.batch.bond j p).second);
    }

  -- ends that are taken and kept
  pub ends_kept : {c d : Columns} → AreEnds (bond_of bonds) numbers c → d.first ≡ c.first → d.second ≡ c.second
      → AreEnds (bond_of bonds) numbers d
  ends_kept ends e f = record {
    first_long = ap (λ (xs : List ℕ). length xs) e ∙ ends.first_long;
    second_long = ap (λ (xs : List ℕ). length xs) f ∙ ends.second_long;
    first = λ j p. ap (λ (xs : List ℕ). index_at xs j) e ∙ ends.first j p;
    second = λ j p. ap (λ (xs : List ℕ). index_at xs j) f ∙ ends.second j p;
  }

  -- the ways between the ends, told of other lists of the same ends
  pub ways_of : (ways : List Row) (xs ys firsts seconds : List ℕ) → ((j : ℕ) → j < length numbers → IsWay (row_in ways j)
      (particle_at s.particles (index_at xs j)).at (particle_at s.particles (index_at ys j)).at)
      → ((j : ℕ) → j < length numbers → index_at xs j ≡ (B j).a)
      → ((j : ℕ) → j < length numbers → index_at ys j ≡ (B j).b) → ((j : ℕ) → j < length numbers → index_at firsts j ≡ (B j).a) → ((j : ℕ)
      → j < length numbers → index_at seconds j ≡ (B j).b) → (j : ℕ) → j < length numbers → IsWay (row_in ways j)
      (particle_at s.particles (index_at firsts j)).at (particle_at s.particles (index_at seconds j)).at
  ways_of ways xs ys firsts seconds told a b c d j p = coe 0 1
      (i. IsWay (row_in ways j) (particle_at s.particles ((a j p ∙ sym (c j p)) i)).at
      (particle_at s.particles ((b j p ∙ sym (d j p)) i)).at) (told j p)

  -- what lies between the ends
  module _ {firsts seconds : List ℕ} {between : Lying} (is_first : (j : ℕ) → j < length numbers → index_at firsts j ≡ (B j).a)
      (is_second : (j : ℕ)
      → j < length numbers → index_at seconds j ≡ (B j).b) (told : LieBetween (length numbers) s.particles firsts seconds between) where
    way_is : (j : ℕ) → j < length numbers → vector_of (row_in between.ways j)
        ≡ minus (particle_at s.particles (B j).a).at (particle_at s.particles (B j).b).at
    way_is j p = (told.ways j p).0 ∙ (λ i. minus (particle_at s.particles (is_first j p i)).at
        (particle_at s.particles (is_second j p i)).at)

    first_is : (j : ℕ) → j < length numbers → number_in between.first_weight j ≡ pos (effective_weight (particle_at s.particles (B j).a))
    first_is j p = told.first_weights j p ∙ ap (λ i. pos (effective_weight (particle_at s.particles i))) (is_first j p)

    second_is : (j : ℕ) → j < length numbers → number_in between.second_weight j ≡ pos (effective_weight (particle_at s.particles (B j).b))
    second_is j p = told.second_weights j p ∙ ap (λ i. pos (effective_weight (particle_at s.particles i))) (is_second j p)

    pub moves_told : (j : ℕ) → j < length numbers → moves_by (vector_of (row_in between.ways j)) (number_in between.first_weight j)
        (number_in between.second_weight j) (B j) ≡ moves_at s.particles (B j)
    moves_told j p = λ i. moves_by (way_is j p i) (first_is j p i) (second_is j p i) (B j)

    light : (h : Bool) (w : ℕ) → w ≤ 65535 → cond h 0 w ≤ 65535
    light true w p = omega arith
    light false w p = p

    light_weight : (i : ℕ) → i < length s.particles → pos (effective_weight (particle_at s.particles i)) ≤ℤ pos 65535
    light_weight i p = let q = light (particle_at s.particles i).held (particle_at s.particles i).weight (can.weights.high i p) in
        omega (arith, ints, q)

    pub sized : AreSized (length numbers) between
    sized = record {
      way = λ j p. subst (λ (v : Vec3). Within (2 ^ 30) v) (sym (way_is j p))
          (minus_within _ _ (2 ^ 29) (2 ^ 29) (wider _ _ (2 ^ 29) can.bound.size (can.inside.each (B j).a (can.batch.bond j p).first))
          (wider _ _ (2 ^ 29) can.bound.size (can.inside.each (B j).b (can.batch.bond j p).second)));
      first_low = λ j p. subst (λ (z : ℤ). pos 0 ≤ℤ z) (sym (first_is j p)) (omega (arith, ints));
      first_high = λ j p. subst (λ (z : ℤ). z ≤ℤ pos 65535) (sym (first_is j p)) (light_weight (B j).a (can.batch.bond j p).first);
      second_low = λ j p. subst (λ (z : ℤ). pos 0 ≤ℤ z) (sym (second_is j p)) (omega (arith, ints));
      second_high = λ j p. subst (λ (z : ℤ). z ≤ℤ pos 65535) (sym (second_is j p)) (light_weight (B j).b (can.batch.bond j p).second);
    }

    -- an end that weighs nothing is held
    flag_case : (h : Bool) (w : ℕ) → 0 < w → int_le (pos (cond h 0 w)) (pos 0) ≡ h
    flag_case true w p = refl
    flag_case false w p = grind (arith, ints, p)

    pub first_flag : (j : ℕ) → j < length numbers → int_le (number_in between.first_weight j) (pos 0)
        ≡ (particle_at s.particles (B j).a).held
    first_flag j p = ap (λ (z : ℤ). int_le z (pos 0)) (first_is j p)
        ∙ flag_case (particle_at s.particles (B j).a).held (particle_at s.particles
        (B j).a).weight (can.weights.low (B j).a (can.batch.bond j p).first)

    pub second_flag : (j : ℕ) → j < length numbers → int_le (number_in between.second_weight j) (pos 0)
        ≡ (particle_at s.particles (B j).b).held
    second_flag j p = ap (λ (z : ℤ). int_le z (pos 0)) (second_is j p)
        ∙ flag_case (particle_at s.particles (B j).b).held (particle_at s.particles
        (B j).b).weight (can.weights.low (B j).b (can.batch.bond j p).second)

  -- ---- columns

  module _ {l : Laid} (rows : AreOfBatch (bond_of bonds) numbers s.particles l) where
    row_is : (j : ℕ) → j < length numbers → laid_at (lists_of l) j
        ≡ laid_bond (B j) (pos (weight_in s.particles (B j).a)) (pos (weight_in s.particles
        (B j).b))
    row_is j p = rows.laid.each j p

    pub laid_rest : (j : ℕ) → j < length numbers → HoldsRest (B j) (number_in l.rest.now j)
    laid_rest j p = subst (λ (x : LaidBond). HoldsRest (B j) x.rest) (sym (row_is j p)) (short_held (B j) (known_bonds.firm j p))

    pub laid_factor : (j : ℕ) → j < length numbers → HoldsFactor (B j) (number_in l.first_weight.now j) (number_in l.second_weight.now j)
        (number_in l.factor.now j)
    laid_factor j p =
        subst (λ (x : LaidBond). HoldsFactor (B j) x.first_weight x.second_weight x.factor) (sym (row_is j p))
        (factor_held (B j) _ _ (known_bonds.firm j p))

    pub laid_stiffness : (j : ℕ) → j < length numbers → HoldsStiffness (B j) (number_in l.first_weight.now j)
        (number_in l.second_weight.now j) (number_in l.stiffness.now j)
    laid_stiffness j p =
        subst (λ (x : LaidBond). HoldsStiffness (B j) x.first_weight x.second_weight x.stiffness) (sym (row_is j p))
        (stiffness_held (B j) _ _ (omega (arith, ints)) (omega (arith, ints)) (known_bonds.firm j p))

    pub laid_portion : (j : ℕ) → j < length numbers → IsGuess (number_in l.portion.now j)
    laid_portion j p = subst (λ (x : LaidBond). IsGuess x.portion) (sym (row_is j p)) (portion_held (B j) _ _)

    module _ (pairs : Pairs) (firsts : pairs.first.now ≡ l.first.now) (seconds : pairs.second.now ≡ l.second.now) where
      pub laid_first : (j : ℕ) → j < length numbers → index_at pairs.first.now j ≡ (B j).a
      laid_first j p = ap (λ (xs : List ℕ). get_or xs j 0) firsts ∙ ap (λ (x : LaidBond). x.first) (row_is j p)

      pub laid_second : (j : ℕ) → j < length numbers → index_at pairs.second.now j ≡ (B j).b
      laid_second j p = ap (λ (xs : List ℕ). get_or xs j 0) seconds ∙ ap (λ (x : LaidBond). x.second) (row_is j p)

      pub laid_pairs : ArePairs (length numbers) (length s.particles) pairs
      laid_pairs = record {
        few = can.short;
        first_long = ap (λ (xs : List ℕ). length xs) firsts ∙ rows.exact;
        second_long = ap (λ (xs : List ℕ). length xs) seconds ∙ rows.laid.even.second ∙ rows.exact;
        first = λ j p. omega (arith, laid_first j p, (can.batch.bond j p).first);
        second = λ j p. omega (arith, laid_second j p, (can.batch.bond j p).second);
      }

      -- with the ways between the ends
      pub lie_between : {ways : List Row} → ((j : ℕ) → j < length numbers
          → IsWay (row_in ways j) (particle_at s.particles (index_at pairs.first.now j)).at
          (particle_at s.particles (index_at pairs.second.now j)).at)
          → LieBetween (length numbers) s.particles pairs.first.now pairs.second.now (record {
            ways = ways;
            first_weight = l.first_weight.now;
            second_weight = l.second_weight.now;
          })
      lie_between told = record {
        ways = told;
        first_weights = λ j p. ap (λ (x : LaidBond). x.first_weight) (row_is j p)
            ∙ ap (λ i. pos (weight_in s.particles i)) (sym (laid_first j p));
        second_weights = λ j p. ap (λ (x : LaidBond). x.second_weight) (row_is j p)
            ∙ ap (λ i. pos (weight_in s.particles i)) (sym (laid_second j p));
      }

  -- the columns of a chunk that came without
  module _ (l : Laid) {c : Columns} {between : Between} {firsts seconds : List ℕ} (ends : AreEnds (bond_of bonds) numbers c)
      (pulled : AreShared (bond_of bonds) numbers between c) (is_first : (j : ℕ) → j < length numbers → index_at firsts j ≡ (B j).a)
      (is_second : (j : ℕ) → j < length numbers → index_at seconds j ≡ (B j).b)
      (told : AreBetween (length numbers) s.particles firsts seconds between) (whole_first : length between.first_weight ≡ 128)
      (whole_second : length between.second_weight ≡ 128) where
    lie : LieBetween (length numbers) s.particles firsts seconds (record {
      ways = between.ways;
      first_weight = between.first_weight;
      second_weight = between.second_weight;
    })
    lie = record { ways = told.ways; first_weights = told.first_weights; second_weights = told.second_weights }

    full : {A : Type 0} (xs : List A) → length xs ≡ 128 → length (take (length numbers) xs) ≡ length numbers
    full xs whole = length-take (length numbers) xs ∙ omega (arith, can.short, whole)

    rows_laid : AreLaid (bond_of bonds) (weight_in s.particles) numbers (rows_of (length numbers) between c)
    rows_laid = record {
      even = record {
        second = full c.second ends.second_long ∙ sym (full c.first ends.first_long);
        rest = full c.rest pulled.rest_long ∙ sym (full c.first ends.first_long);
        factor = full c.factor pulled.factor_long ∙ sym (full c.first ends.first_long);
        stiffness = full c.stiffness pulled.stiffness_long ∙ sym (full c.first ends.first_long);
        portion = full c.portion pulled.portion_long ∙ sym (full c.first ends.first_long);
        first_weight = full between.first_weight whole_first ∙ sym (full c.first ends.first_long);
        second_weight = full between.second_weight whole_second ∙ sym (full c.first ends.first_long);
      };
      long = omega (arith, full c.first ends.first_long);
      each = λ j p.
          let w1 = first_is is_first is_second lie j p in
          let w2 = second_is is_first is_second lie j p in
          λ t. record {
            first = (get_or-take (length numbers) c.first j 0 p ∙ ends.first j p) t;
            second = (get_or-take (length numbers) c.second j 0 p ∙ ends.second j p) t;
            rest = (get_or-take (length numbers) c.rest j (pos 0) p ∙ pulled.rest j p) t;
            factor = (get_or-take (length numbers) c.factor j (pos 0) p ∙ pulled.factor j p ∙ (λ i. factor_of (B j) (w1 i) (w2 i))) t;
            stiffness = (get_or-take (length numbers) c.stiffness j (pos 0) p ∙ pulled.stiffness j p
                ∙ (λ i. stiffness_of (B j) (w1 i) (w2 i))) t;
            portion = (get_or-take (length numbers) c.portion j (pos 0) p ∙ pulled.portion j p ∙ (λ i. portion_of (B j) (w1 i) (w2 i))) t;
            first_weight = (get_or-take (length numbers) between.first_weight j (pos 0) p ∙ w1) t;
            second_weight = (get_or-take (length numbers) between.second_weight j (pos 0) p ∙ w2) t;
          };
    }

    pub numbers_laid : lists_of l ≡ rows_of (length numbers) between c → AreOfBatch (bond_of bonds) numbers s.particles l
    numbers_laid e = record {
      exact = ap (λ (ls : Lists). length ls.first) e ∙ full c.first ends.first_long;
      laid = subst (λ (ls : Lists). AreLaid (bond_of bonds) (weight_in s.particles) numbers ls) (sym e) rows_laid;
    }

  pub weighed : {firsts seconds : List ℕ} {between : Between} → ((j : ℕ) → j < length numbers → index_at firsts j ≡ (B j).a) → ((j : ℕ)
      → j < length numbers → index_at seconds j ≡ (B j).b) → AreBetween (length numbers) s.particles firsts seconds between
      → AreWeighed (length numbers) between.first_weight between.second_weight
  weighed {between = between} is_first is_second told =
      let all = sized {between = record { ways = between.ways; first_weight = between.first_weight; second_weight = between.second_weight }}
      is_first
      is_second (record { ways = told.ways; first_weights = told.first_weights; second_weights = told.second_weights }) in
      record { first_low = all.first_low; first_high = all.first_high; second_low = all.second_low; second_high = all.second_high }

  -- no two ends are one particle
  pub ends_apart : {pairs : Pairs} → ((j : ℕ) → j < length numbers → index_at pairs.first.now j ≡ (B j).a) → ((j : ℕ) → j < length numbers
      → index_at pairs.second.now j ≡ (B j).b) → PairsApart (length numbers) pairs
  ends_apart {pairs} is_first is_second = record {
    across = λ j k p q e. crossing j k p q (sym (is_first j p) ∙ e ∙ is_second k q);
    first = λ j k l q e. (can.batch.apart.each j k l q).aa (sym (is_first j (omega arith)) ∙ e ∙ is_first k q);
    second = λ j k l q e. (can.batch.apart.each j k l q).bb (sym (is_second j (omega arith)) ∙ e ∙ is_second k q);
  } where
    crossing : (j k : ℕ) → j < length numbers → k < length numbers → (B j).a ≡ (B k).b → ⊥
    crossing j k p q e = elim (cases_eq j k) [
      | inl s ↦ (can.batch.bond k q).different (ap (λ m. (B m).a) (sym s) ∙ e)
      | inr d ↦ elim (cases_lt j k) [
        | inl l ↦ (can.batch.apart.each j k l q).ab e
        | inr l ↦
            (can.batch.apart.each k j (omega (arith, d)) p).ba (sym e)
      ]
    ]

-- bonds in columns that are those of a batch, and the ways between their ends
pub is_found : {found : Found} {s : Stored} {t : Totals} (can : CanProject 128 found.chunk.bonds found.chunk.numbers.now s t)
    (rows : AreOfBatch (bond_of found.chunk.bonds) found.chunk.numbers.now s.particles found.laid)
    → found.pairs.first.now ≡ found.laid.first.now → found.pairs.second.now ≡ found.laid.second.now
    → ((j : ℕ) → j < length found.chunk.numbers.now → IsWay (row_in found.ways.now j)
    (particle_at s.particles (index_at found.pairs.first.now j)).at (particle_at s.particles (index_at found.pairs.second.now j)).at)
    → IsFound s.particles found
is_found {found} can rows firsts seconds told = record {
  first = laid_first can rows found.pairs firsts seconds;
  second = laid_second can rows found.pairs firsts seconds;
  pairs = laid_pairs can rows found.pairs firsts seconds;
  between = lie_between can rows found.pairs firsts seconds told;
  rest_long = omega (arith, rows.exact, rows.laid.even.rest);
  factor_long = rows.laid.even.factor ∙ rows.exact;
  first_long = rows.laid.even.first_weight ∙ rows.exact;
  second_long = rows.laid.even.second_weight ∙ rows.exact;
  rest = laid_rest can rows;
  factor = laid_factor can rows;
  stiff = record {
    stiffness_long = rows.laid.even.stiffness ∙ rows.exact;
    portion_long = rows.laid.even.portion ∙ rows.exact;
    stiffness = laid_stiffness can rows;
    portion = laid_portion can rows;
  };
}
