-- Bonds in columns: what their rows hold, and what is left of them behind the first.
use Rattle.std.proofs.Common.{◌≡◌, ℕ, ◌+◌, ◌<◌, ◌≤◌, ◌^◌, min, ℤ, pos, neg_ℤ, ◌≤ℤ◌, ◌<ℤ◌, ◌*ℤ◌, unsigned_abs, int_lt, int_le, ◌&&◌, ◌||◌, Bool}
use Rattle.std.proofs.Common.{true, false, cond, List, length, get_or, take, drop, refl, ap, sym, ◌∙◌, arith, subst, w32}
use Rattle.std.proofs.Common.{FitsSigned, Option, Some, None, ◌-◌}
use Rattle.std.proofs.lemmas.Int.{ints, fits_signed_from_abs}
use Rattle.pbd_num.proofs.Sizes.{size_at_most, size_le}
use Rattle.std.proofs.lemmas.List.{get_or-take, get_or-drop, length-take, length-drop, length-set, get_or-set_same, get_or-set_other}
use Rattle.pbd_world.specs.declared.parts.Particle.{Particle}
use Rattle.pbd_world.specs.declared.bond.Bond.{Bond}
use Rattle.pbd_world.specs.Particles.{particle_at, effective_weight}
use Rattle.pbd_store.specs.Moving.{fixed_parts}
use Rattle.pbd_pair.specs.declared.laid.Laid.{Laid}
use Rattle.pbd_pair.specs.declared.laid.LaidBond.{LaidBond}
use Rattle.pbd_pair.specs.Laid.{each_column, are_free, back_of, differ, factor_of, front_of, laid_at, laid_bond, portion_of, short_rest}
use Rattle.pbd_pair.specs.Laid.{lists_of, stiffness_of, weight_in}
use Rattle.pbd_pair.specs.Laid.{with_row, AreEven, AreLaid, AreOfBatch, AreSplit, CanSplit, IsFirm, Lists, SuitIf}
use Rattle.pbd_pair.specs.Chunks.{HoldsFactor, HoldsRest, HoldsStiffness, IsGuess}
use Rattle.pbd_pair.proofs.Batches.{get_or-map_fixed}

-- ---- one bond

rest_case : (over : Bool) (b : Bond) → int_lt (pos 16383) b.rest ≡ over → pos 0 ≤ℤ b.rest → HoldsRest b (cond over (pos 16383) b.rest)
rest_case true b e low = record {
  low = omega (arith, ints);
  high = omega (arith, ints);
  near = λ h. absurd (grind (arith, ints, e, h));
}
rest_case false b e low = record { low = low; high = grind (arith, ints, e); near = λ h. refl }

pub short_held : (b : Bond) → IsFirm b → HoldsRest b (short_rest b.rest)
short_held b firm = rest_case (int_lt (pos 16383) b.rest) b refl firm.rest_low

never_short : (b : Bond) (first second : ℤ) → HoldsFactor b first second (neg_ℤ (pos 1))
never_short b first second = record {
  low = omega (arith, ints);
  high = omega (arith, ints);
  short = λ h. absurd (omega (arith, ints, h));
  even = λ h p q. absurd (omega (arith, ints, h));
  both = λ h p q. absurd (omega (arith, ints, h));
  first_held = λ h e. absurd (omega (arith, ints, h));
  second_held = λ h e. absurd (omega (arith, ints, h));
}

below_long : (z : ℤ) → int_le (pos 16384) z ≡ false → z <ℤ pos 16384
below_long z e = grind (arith, ints, e)

both_free : (first second : ℤ) → are_free first second ≡ false → pos 0 <ℤ first → pos 0 <ℤ second → ⊥
both_free first second e p q = grind (arith, ints, e, p, q)

first_free : (first second : ℤ) → are_free first second ≡ true → first ≡ pos 0 → ⊥
first_free first second e p = grind (arith, ints, e, p)

second_free : (first second : ℤ) → are_free first second ≡ true → second ≡ pos 0 → ⊥
second_free first second e p = grind (arith, ints, e, p)

equal : (first second : ℤ) → differ first second ≡ false → first ≡ second
equal first second e = grind (arith, ints, e)

factor_case : (b : Bond) (first second : ℤ) (long free apart : Bool) → int_le (pos 16384) b.rest ≡ long → are_free first second ≡ free
    → differ first second ≡ apart → IsFirm b
    → HoldsFactor b first second (cond (long || (free && apart)) (neg_ℤ (pos 1)) (cond free b.k (pos 2 *ℤ b.k)))
factor_case b first second true free apart el ef es firm = never_short b first second
factor_case b first second false true true el ef es firm = never_short b first second
factor_case b first second false true false el ef es firm = record {
  low = omega (arith, ints, firm.k_low);
  high = omega (arith, ints, firm.k_high);
  short = λ h. below_long b.rest el;
  even = λ h p q. equal first second es;
  both = λ h p q. refl;
  first_held = λ h e. absurd (first_free first second ef e);
  second_held = λ h e. absurd (second_free first second ef e);
}
factor_case b first second false false apart el ef es firm = record {
  low = omega (arith, ints, firm.k_low);
  high = omega (arith, ints, firm.k_high);
  short = λ h. below_long b.rest el;
  even = λ h p q. absurd (both_free first second ef p q);
  both = λ h p q. absurd (both_free first second ef p q);
  first_held = λ h e. refl;
  second_held = λ h e. refl;
}

pub factor_held : (b : Bond) (first second : ℤ) → IsFirm b → HoldsFactor b first second (factor_of b first second)
unfolding factor_of
factor_held b first second firm =
    factor_case b first second (int_le (pos 16384) b.rest) (are_free first second) (differ first second) refl refl refl firm

pub factor_long : (b : Bond) (first second : ℤ) → (int_le (pos 16384) b.rest || (are_free first second && differ first second)) ≡ true
    → neg_ℤ (pos 1) ≡ factor_of b first second
unfolding factor_of
factor_long b first second e = sym (ap (λ (t : Bool). cond t (neg_ℤ (pos 1)) (cond (are_free first second) b.k (pos 2 *ℤ b.k))) e)

pub factor_both : (b : Bond) (first second : ℤ) → (int_le (pos 16384) b.rest || (are_free first second && differ first second)) ≡ false
    → are_free first second ≡ true → b.k ≡ factor_of b first second
unfolding factor_of
factor_both b first second e f = sym (λ i. cond (e i) (neg_ℤ (pos 1)) (cond (f i) b.k (pos 2 *ℤ b.k)))

pub factor_alone : (b : Bond) (first second : ℤ) → (int_le (pos 16384) b.rest || (are_free first second && differ first second)) ≡ false
    → are_free first second ≡ false → pos 2 *ℤ b.k ≡ factor_of b first second
unfolding factor_of
factor_alone b first second e f = sym (λ i. cond (e i) (neg_ℤ (pos 1)) (cond (f i) b.k (pos 2 *ℤ b.k)))

-- ---- unequal weights

are_held : (first second : ℤ) → (int_le first (pos 0) && int_le second (pos 0)) ≡ true → pos 0 ≤ℤ first → pos 0 ≤ℤ second
    → 0 < unsigned_abs first + unsigned_abs second → ⊥
are_held first second e p q some = grind (arith, ints, e, p, q, some)

not_held : (first second : ℤ) → (int_le first (pos 0) && int_le second (pos 0)) ≡ false → unsigned_abs first + unsigned_abs second ≡ 0 → ⊥
not_held first second e none = grind (arith, ints, e, none)

stiffness_case : (b : Bond) (first second : ℤ) (long held : Bool) → int_le (pos 16384) b.rest ≡ long
    → (int_le first (pos 0) && int_le second (pos 0)) ≡ held → pos 0 ≤ℤ first → pos 0 ≤ℤ second → IsFirm b
    → HoldsStiffness b first second (cond long (neg_ℤ (pos 1)) (cond held (pos 0) b.k))
stiffness_case b first second true held el eh p q firm = record {
  low = omega (arith, ints);
  high = omega (arith, ints);
  short = λ h. absurd (omega (arith, ints, h));
  shared = λ h some. absurd (omega (arith, ints, h));
  held = λ h none. absurd (omega (arith, ints, h));
}
stiffness_case b first second false true el eh p q firm = record {
  low = omega (arith, ints);
  high = omega (arith, ints);
  short = λ h. below_long b.rest el;
  shared = λ h some. absurd (are_held first second eh p q some);
  held = λ h none. refl;
}
stiffness_case b first second false false el eh p q firm = record {
  low = omega (arith, ints, firm.k_low);
  high = omega (arith, ints, firm.k_high);
  short = λ h. below_long b.rest el;
  shared = λ h some. refl;
  held = λ h none. absurd (not_held first second eh none);
}

pub stiffness_held : (b : Bond) (first second : ℤ) → pos 0 ≤ℤ first → pos 0 ≤ℤ second → IsFirm b
    → HoldsStiffness b first second (stiffness_of b first second)
unfolding stiffness_of
stiffness_held b first second p q firm = stiffness_case b first second (int_le (pos 16384) b.rest)
    (int_le first (pos 0) && int_le second (pos 0)) refl refl p q firm

-- a stiffness as a number of 32 bits
stiffness_bounds : (b : Bond) (long held : Bool) → IsFirm b → unsigned_abs (cond long (neg_ℤ (pos 1)) (cond held (pos 0) b.k)) ≤ 256
stiffness_bounds b true held firm = omega arith
stiffness_bounds b false true firm = omega arith
stiffness_bounds b false false firm = size_at_most b.k 256 firm.k_low firm.k_high

pub stiffness_fits : (b : Bond) (first second z : ℤ) → IsFirm b → z ≡ stiffness_of b first second → FitsSigned w32 z
unfolding stiffness_of
stiffness_fits b first second z firm e = fits_signed_from_abs w32 z (omega (
  arith,
  ap unsigned_abs e,
  stiffness_bounds b (int_le (pos 16384) b.rest) (int_le first (pos 0) && int_le second (pos 0)) firm,
))

at_most : (m n : ℕ) → pos (min m n) ≤ℤ pos m
at_most m n = omega (arith, ints)

pub portion_held : (b : Bond) (first second : ℤ) → IsGuess (portion_of b first second)
unfolding portion_of
portion_held b first second = record { low = omega (arith, ints); high = at_most (2 ^ 30) _ }

pub guess_fits : (z : ℤ) → IsGuess z → FitsSigned w32 z
guess_fits z h = fits_signed_from_abs w32 z (omega (arith, size_at_most z (2 ^ 30) h.low h.high))

pub k_fits : (b : Bond) → IsFirm b → FitsSigned w32 b.k
k_fits b firm = fits_signed_from_abs w32 b.k (omega (arith, size_at_most b.k 256 firm.k_low firm.k_high))

pub twice_fits : (b : Bond) → IsFirm b → FitsSigned w32 (pos 2 *ℤ b.k)
twice_fits b firm = fits_signed_from_abs w32 (pos 2 *ℤ b.k) (omega (
  arith,
  size_at_most (pos 2 *ℤ b.k) 512 (omega (arith, ints, firm.k_low)) (omega (arith, ints, firm.k_high)),
))

pub rest_fits_short : (b : Bond) (z : ℤ) → HoldsRest b z → FitsSigned w32 z
rest_fits_short b z h = fits_signed_from_abs w32 z (omega (arith, size_at_most z 16383 h.low h.high))

pub factor_fits : (b : Bond) (first second f : ℤ) → HoldsFactor b first second f → FitsSigned w32 f
factor_fits b first second f h = fits_signed_from_abs w32 f (omega (arith, size_le f 512 h.high (omega (arith, ints, h.low))))

-- ---- rows

-- what is done with each column, and makes equal lengths of equal ones, leaves them even
even_each : (f : List ℕ → List ℕ) (g : List ℤ → List ℤ) (long : ℕ → ℕ) (ls : Lists) → AreEven ls
    → ((xs : List ℕ) → length (f xs) ≡ long (length xs)) → ((xs : List ℤ) → length (g xs) ≡ long (length xs)) → AreEven (each_column f g ls)
even_each f g long ls even f_long g_long = record {
  second = f_long ls.second ∙ ap long even.second ∙ sym (f_long ls.first);
  rest = g_long ls.rest ∙ ap long even.rest ∙ sym (f_long ls.first);
  factor = g_long ls.factor ∙ ap long even.factor ∙ sym (f_long ls.first);
  stiffness = g_long ls.stiffness ∙ ap long even.stiffness ∙ sym (f_long ls.first);
  portion = g_long ls.portion ∙ ap long even.portion ∙ sym (f_long ls.first);
  first_weight = g_long ls.first_weight ∙ ap long even.first_weight ∙ sym (f_long ls.first);
  second_weight = g_long ls.second_weight ∙ ap long even.second_weight ∙ sym (f_long ls.first);
}

module _ (ls : Lists) (even : AreEven ls) where
  pub even_front : (n : ℕ) → AreEven (front_of n ls)
  even_front n = even_each (take n) (take n) (min n) ls even (length-take n) (length-take n)

  pub even_back : (n : ℕ) → AreEven (back_of n ls)
  even_back n = even_each (drop n) (drop n) (λ k. k - n) ls even (length-drop n) (length-drop n)

  pub even_put : (i : ℕ) (l : LaidBond) → AreEven (with_row i l ls)
  even_put i l = record {
    second = length-set ls.second i l.second ∙ even.second ∙ sym (length-set ls.first i l.first);
    rest = length-set ls.rest i l.rest ∙ even.rest ∙ sym (length-set ls.first i l.first);
    factor = length-set ls.factor i l.factor ∙ even.factor ∙ sym (length-set ls.first i l.first);
    stiffness = length-set ls.stiffness i l.stiffness ∙ even.stiffness ∙ sym (length-set ls.first i l.first);
    portion = length-set ls.portion i l.portion ∙ even.portion ∙ sym (length-set ls.first i l.first);
    first_weight = length-set ls.first_weight i l.first_weight ∙ even.first_weight ∙ sym (length-set ls.first i l.first);
    second_weight = length-set ls.second_weight i l.second_weight ∙ even.second_weight ∙ sym (length-set ls.first i l.first);
  }

  pub row_put : (i : ℕ) (l : LaidBond) → i < length ls.first → laid_at (with_row i l ls) i ≡ l
  row_put i l h =
      let a = get_or-set_same ls.first i l.first 0 h in
      let b = get_or-set_same ls.second i l.second 0 (omega (arith, h, even.second)) in
      let c = get_or-set_same ls.rest i l.rest (pos 0) (omega (arith, h, even.rest)) in
      let d = get_or-set_same ls.factor i l.factor (pos 0) (omega (arith, h, even.factor)) in
      let e = get_or-set_same ls.stiffness i l.stiffness (pos 0) (omega (arith, h, even.stiffness)) in
      let f = get_or-set_same ls.portion i l.portion (pos 0) (omega (arith, h, even.portion)) in
      let g = get_or-set_same ls.first_weight i l.first_weight (pos 0) (omega (arith, h, even.first_weight)) in
      let k = get_or-set_same ls.second_weight i l.second_weight (pos 0) (omega (arith, h, even.second_weight)) in
      λ t. record {
        first = a t;
        second = b t;
        rest = c t;
        factor = d t;
        stiffness = e t;
        portion = f t;
        first_weight = g t;
        second_weight = k t;
      }

pub row_kept : (ls : Lists) (i k : ℕ) (l : LaidBond) → (k ≡ i → ⊥) → laid_at (with_row i l ls) k ≡ laid_at ls k
row_kept ls i k l other = λ t. record {
  first = get_or-set_other ls.first i k l.first 0 other t;
  second = get_or-set_other ls.second i k l.second 0 other t;
  rest = get_or-set_other ls.rest i k l.rest (pos 0) other t;
  factor = get_or-set_other ls.factor i k l.factor (pos 0) other t;
  stiffness = get_or-set_other ls.stiffness i k l.stiffness (pos 0) other t;
  portion = get_or-set_other ls.portion i k l.portion (pos 0) other t;
  first_weight = get_or-set_other ls.first_weight i k l.first_weight (pos 0) other t;
  second_weight = get_or-set_other ls.second_weight i k l.second_weight (pos 0) other t;
}

pub front_row : (n j : ℕ) (ls : Lists) → j < n → laid_at (front_of n ls) j ≡ laid_at ls j
front_row n j ls h = λ t. record {
  first = get_or-take n ls.first j 0 h t;
  second = get_or-take n ls.second j 0 h t;
  rest = get_or-take n ls.rest j (pos 0) h t;
  factor = get_or-take n ls.factor j (pos 0) h t;
  stiffness = get_or-take n ls.stiffness j (pos 0) h t;
  portion = get_or-take n ls.portion j (pos 0) h t;
  first_weight = get_or-take n ls.first_weight j (pos 0) h t;
  second_weight = get_or-take n ls.second_weight j (pos 0) h t;
}

pub back_row : (n j : ℕ) (ls : Lists) → laid_at (back_of n ls) j ≡ laid_at ls (n + j)
back_row n j ls = λ t. record {
  first = get_or-drop n ls.first j 0 t;
  second = get_or-drop n ls.second j 0 t;
  rest = get_or-drop n ls.rest j (pos 0) t;
  factor = get_or-drop n ls.factor j (pos 0) t;
  stiffness = get_or-drop n ls.stiffness j (pos 0) t;
  portion = get_or-drop n ls.portion j (pos 0) t;
  first_weight = get_or-drop n ls.first_weight j (pos 0) t;
  second_weight = get_or-drop n ls.second_weight j (pos 0) t;
}

-- ---- the first bonds, and those after them

abbrev pub laid_number : (ℕ → Bond) → (ℕ → ℕ) → ℕ → LaidBond
laid_number bond weight n = laid_bond (bond n) (pos (weight (bond n).a)) (pos (weight (bond n).b))

module _ {bond : ℕ → Bond} {weight : ℕ → ℕ} {numbers : List ℕ} {ls : Lists} (n : ℕ) (laid : AreLaid bond weight numbers ls) where
  pub laid_front : AreLaid bond weight (take n numbers) (front_of n ls)
  laid_front = record {
    even = even_front ls laid.even n;
    long = omega (arith, laid.long, length-take n numbers, length-take n ls.first);
    each = λ j p.
        let q : j < n = omega (arith, p, length-take n numbers) in
        let r : j < length numbers = omega (arith, p, length-take n numbers) in
        front_row n j ls q ∙ laid.each j r ∙ ap (laid_number bond weight) (sym (get_or-take n numbers j 0 q));
  }

  pub laid_back : AreLaid bond weight (drop n numbers) (back_of n ls)
  laid_back = record {
    even = even_back ls laid.even n;
    long = omega (arith, laid.long, length-drop n numbers, length-drop n ls.first);
    each = λ j p.
        let r : n + j < length numbers = omega (arith, p, length-drop n numbers) in
        back_row n j ls ∙ laid.each (n + j) r ∙ ap (laid_number bond weight) (sym (get_or-drop n numbers j 0));
  }

-- rows that are those of some numbers
pub batch_of : {bond : ℕ → Bond} {ps : List Particle} {numbers batch : List ℕ} {ls : Lists} (l : Laid) → lists_of l ≡ ls
    → length ls.first ≡ length batch → AreLaid bond (weight_in ps) numbers ls → numbers ≡ batch → AreOfBatch bond batch ps l
batch_of {bond} {ps} {numbers} {batch} {ls} l e long laid same = record {
  exact = ap (λ (xs : Lists). length xs.first) e ∙ long;
  laid = subst (λ (xs : Lists). AreLaid bond (weight_in ps) batch xs) (sym e)
      (subst (λ (ns : List ℕ). AreLaid bond (weight_in ps) ns ls) same laid);
}

module _ (bond : ℕ → Bond) (numbers : List ℕ) (ps : List Particle) (n : ℕ) where
  suit_parts : (laid front back : Option Laid) → AreSplit n laid front back → SuitIf laid bond numbers ps
      → SuitIf front bond (take n numbers) ps × SuitIf back bond (drop n numbers) ps
  suit_parts None front back split suit = (
    subst (λ (l : Option Laid). SuitIf l bond (take n numbers) ps) (sym split.0) suit,
    subst (λ (l : Option Laid). SuitIf l bond (drop n numbers) ps) (sym split.1) suit,
  )
  suit_parts (Some laid) None back split suit = absurd split
  suit_parts (Some laid) (Some front) None split suit = absurd split
  suit_parts (Some laid) (Some front) (Some back) split suit = (
    batch_of front split.0 (omega (arith, length-take n laid.first.now, length-take n numbers, suit.exact)) (laid_front n suit.laid) refl,
    batch_of back split.1 (omega (arith, length-drop n laid.first.now, length-drop n numbers, suit.exact)) (laid_back n suit.laid) refl,
  )

  pub suit_front : (laid front back : Option Laid) → AreSplit n laid front back → SuitIf laid bond numbers ps
      → SuitIf front bond (take n numbers) ps
  suit_front laid front back split suit = (suit_parts laid front back split suit).0

  pub suit_back : (laid front back : Option Laid) → AreSplit n laid front back → SuitIf laid bond numbers ps
      → SuitIf back bond (drop n numbers) ps
  suit_back laid front back split suit = (suit_parts laid front back split suit).1

  pub can_split : (laid : Option Laid) → n ≤ length numbers → SuitIf laid bond numbers ps → CanSplit n laid
  can_split None fits suit = tt
  can_split (Some laid) fits suit = (suit.laid.even, omega (arith, fits, suit.exact))

-- ---- other places, and the same weights

weighs_same : (ps qs : List Particle) (i : ℕ) → fixed_parts ps ≡ fixed_parts qs → weight_in ps i ≡ weight_in qs i
weighs_same ps qs i e =
    sym (ap (λ (p : Particle). effective_weight p) (get_or-map_fixed ps i))
    ∙ ap (λ (l : List Particle). effective_weight (particle_at l i)) e
    ∙ ap (λ (p : Particle). effective_weight p) (get_or-map_fixed qs i)

pub suit_same : (bond : ℕ → Bond) (numbers : List ℕ) (ps qs : List Particle) (laid : Option Laid) → fixed_parts ps ≡ fixed_parts qs
    → SuitIf laid bond numbers ps → SuitIf laid bond numbers qs
suit_same bond numbers ps qs None e suit = suit
suit_same bond numbers ps qs (Some laid) e suit = record {
  exact = suit.exact;
  laid = record {
    even = suit.laid.even;
    long = suit.laid.long;
    each = λ j p.
        let b = bond (get_or numbers j 0) in
        suit.laid.each j p ∙ (λ t. laid_bond b (pos (weighs_same ps qs b.a e t)) (pos (weighs_same ps qs b.b e t)));
  };
}
