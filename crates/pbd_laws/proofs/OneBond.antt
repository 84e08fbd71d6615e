-- One projection of one bond.
use Rattle.std.proofs.Common.{◌≡◌, sym, ap, ◌∙◌, ℕ, ◌+◌, ◌-◌, ◌*◌, ◌<◌, inl, inr, Bool, true, false, ◌&&◌, arith, pos, ℤ, neg_ℤ, ◌+ℤ◌, ◌-ℤ◌}
use Rattle.std.proofs.Common.{◌*ℤ◌, ◌≤ℤ◌, ◌<ℤ◌, unsigned_abs, subst}
use Rattle.std.specs.Prelude.{if◌then◌else◌}
use Rattle.std.proofs.lemmas.Int.{ints}
use Rattle.std.proofs.lemmas.Bool.{cases_lt}
use Rattle.pbd_num.specs.declared.Vec3.{Vec3}
use Rattle.pbd_num.specs.Rounding.{rdiv}
use Rattle.pbd_num.specs.Vectors.{plus, minus, opposite, zero_vector, length_of, squared_length, is_within}
use Rattle.pbd_num.specs.PairMove.{along, share_of, corrections, shares, pair_moves}
use Rattle.pbd_num.proofs.RoundingLemmas.{root-square, root-next}
use Rattle.pbd_num.proofs.Sizes.{positive_size, positive_above}
use Rattle.pbd_num.proofs.Signs.{share_half, share_all, share_none}
use Rattle.pbd_num.proofs.Lengths.{pair_moves-none, pair_moves-some}
use Rattle.pbd_num.proofs.VectorSizes.{plus_nothing}
use Rattle.pbd_world.specs.declared.bond.Bond.{Bond}
use Rattle.pbd_world.specs.declared.bond.End.{End}
use Rattle.pbd_world.specs.declared.bond.Shift.{Shift}
use Rattle.pbd_world.specs.declared.bond.Correction.TheVariants.{Slack, Leaves, Moves}
use Rattle.pbd_world.specs.Bonds.{is_slack, shift_of, correction_of}
use Rattle.pbd_laws.specs.Bonding.{distance, distance_after, IsOneHeld, AreEqual, IsAbout}
use Rattle.pbd_laws.proofs.Rounded.{IsNear, near, times, times-plus, times-minus, minus-times, IsAxisNear, IsVectorNear, far-vector}
use Rattle.pbd_laws.proofs.Rounded.{near-vector}

-- ---- the shares of a correction

-- the shares of two ends are together the correction, but for at most `slack`
pub record IsFair (slack : ℕ) (first second : ℤ) (total : ℕ) : Type 0 where
  pub some : 0 < total
  pub low : (s : ℤ) → s ≤ℤ ((share_of s (pos 256) first total +ℤ share_of s (pos 256) second total) +ℤ pos slack)
  pub high : (s : ℤ) → (share_of s (pos 256) first total +ℤ share_of s (pos 256) second total) ≤ℤ (s +ℤ pos slack)

half_low : (s g : ℤ) → IsNear (s *ℤ pos 256) 512 g → s ≤ℤ ((g +ℤ g) +ℤ pos 1)
half_low s g h = omega (arith, ints, h.low)

half_high : (s g : ℤ) → IsNear (s *ℤ pos 256) 512 g → (g +ℤ g) ≤ℤ (s +ℤ pos 1)
half_high s g h = omega (arith, ints, h.high)

equal_fair : (first second : ℤ) → first ≡ second → pos 0 <ℤ first → IsFair 1 first second (unsigned_abs first + unsigned_abs second)
equal_fair first second same free =
    let total = unsigned_abs first + unsigned_abs second in
    let some : 0 < total = omega (arith, positive_above first free) in
    let is = positive_size first free in
    let both : pos 2 *ℤ first ≡ pos total = omega (arith, ints, is, same, ap unsigned_abs same) in
    let both_too : pos 2 *ℤ second ≡ pos total = omega (arith, ints, both, same) in
    let half : ℤ → ℤ = λ s. rdiv (s *ℤ pos 256) (pos 512) in
    let a : (s : ℤ) → share_of s (pos 256) first total ≡ half s = λ s. share_half s (pos 256) first total some both in
    let b : (s : ℤ) → share_of s (pos 256) second total ≡ half s = λ s. share_half s (pos 256) second total some both_too in
    record {
      some = some;
      low = λ s. omega (arith, ints, a s, b s, half_low s (half s) (near (s *ℤ pos 256) 512 (omega arith)));
      high = λ s. omega (arith, ints, a s, b s, half_high s (half s) (near (s *ℤ pos 256) 512 (omega arith)));
    }

whole_low : (s g : ℤ) → IsNear (s *ℤ pos 512) 512 g → s ≤ℤ g
whole_low s g h = omega (arith, ints, h.low)

whole_high : (s g : ℤ) → IsNear (s *ℤ pos 512) 512 g → g ≤ℤ s
whole_high s g h = omega (arith, ints, h.high)

-- the whole of it goes to the free end
free_share : (s w : ℤ) (total : ℕ) → 0 < total → w ≡ pos total → (s ≤ℤ share_of s (pos 256) w total) × (share_of s (pos 256) w total ≤ℤ s)
free_share s w total some is =
    let g = rdiv (s *ℤ pos 512) (pos 512) in
    let e : share_of s (pos 256) w total ≡ g = share_all s (pos 256) w total some is in
    let n = near (s *ℤ pos 512) 512 (omega arith) in
    (omega (arith, ints, e, whole_low s g n), omega (arith, ints, e, whole_high s g n))

held_share : (s w : ℤ) (total : ℕ) → 0 < total → w ≡ pos 0 → share_of s (pos 256) w total ≡ pos 0
held_share s w total some is = ap (λ x. share_of s (pos 256) x total) is ∙ share_none s (pos 256) total some

first_held_fair : (first second : ℤ) → first ≡ pos 0 → pos 0 <ℤ second → IsFair 0 first second (unsigned_abs first + unsigned_abs second)
first_held_fair first second held free =
    let total = unsigned_abs first + unsigned_abs second in
    let some : 0 < total = omega (arith, positive_above second free) in
    let all : second ≡ pos total = omega (arith, ints, positive_size second free, ap unsigned_abs held) in
    record {
      some = some;
      low = λ s. omega (arith, ints, held_share s first total some held, (free_share s second total some all).0);
      high = λ s. omega (arith, ints, held_share s first total some held, (free_share s second total some all).1);
    }

-- the two ends may be told in either order
turned : (slack : ℕ) (first second : ℤ) (total : ℕ) → IsFair slack first second total → IsFair slack second first total
turned slack first second total fair = record {
  some = fair.some;
  low = λ s. let low = fair.low s in omega (arith, ints, low);
  high = λ s. let high = fair.high s in omega (arith, ints, high);
}

second_held_fair : (first second : ℤ) → second ≡ pos 0 → pos 0 <ℤ first → IsFair 0 first second (unsigned_abs first + unsigned_abs second)
second_held_fair first second held free = subst (λ (total : ℕ). IsFair 0 first second total) (omega arith)
    (turned 0 second first (unsigned_abs second + unsigned_abs first) (first_held_fair second first held free))

-- ---- one axis

-- by the products alone: p and r times the distance, v and g times what is left of it and the moves, s times the correction n
low_linear : (p r v g s n : ℤ) (len k m : ℕ) → n ≡ p -ℤ r → v ≡ p -ℤ g → m ≡ len + 2 * k → (pos 2 *ℤ s) ≤ℤ (pos 2 *ℤ n +ℤ pos len)
    → g ≤ℤ (s +ℤ pos k)
    → (pos 2 *ℤ r) ≤ℤ (pos 2 *ℤ v +ℤ pos m)
low_linear p r v g s n len k m hn hv hm high more = omega (arith, ints, hn, hv, hm, high, more)

high_linear : (p r v g s n : ℤ) (len k m : ℕ) → n ≡ p -ℤ r → v ≡ p -ℤ g → m ≡ len + 2 * k → (pos 2 *ℤ n) ≤ℤ (pos 2 *ℤ s +ℤ pos len)
    → s ≤ℤ (g +ℤ pos k)
    → (pos 2 *ℤ v) ≤ℤ (pos 2 *ℤ r +ℤ pos m)
high_linear p r v g s n len k m hn hv hm low less = omega (arith, ints, hn, hv, hm, low, less)

left_over : (a b g h : ℤ) → (a +ℤ neg_ℤ g) -ℤ (b +ℤ h) ≡ (a -ℤ b) -ℤ (g +ℤ h)
left_over a b g h = omega (arith, ints)

axis_after : (slack len r : ℕ) (a b s g h : ℤ) → IsNear ((pos len -ℤ pos r) *ℤ (a -ℤ b)) len s → s ≤ℤ ((g +ℤ h) +ℤ pos slack)
    → (g +ℤ h) ≤ℤ (s +ℤ pos slack)
    → IsAxisNear r len (1 + 2 * slack) (a -ℤ b) ((a +ℤ neg_ℤ g) -ℤ (b +ℤ h))
axis_after slack len r a b s g h n less more =
    let d = a -ℤ b in
    let moved = g +ℤ h in
    let product = minus-times (pos len) (pos r) d in
    let left : pos len *ℤ ((a +ℤ neg_ℤ g) -ℤ (b +ℤ h)) ≡ pos len *ℤ d -ℤ pos len *ℤ moved = ap (λ z. pos len *ℤ z) (left_over a b g h)
    ∙ times-minus len d moved in
    let below : (pos len *ℤ s) ≤ℤ (pos len *ℤ moved +ℤ pos (len * slack)) =
    rw (← (times-plus len moved (pos slack))) (times len s (moved +ℤ pos slack) less) in
    let above : (pos len *ℤ moved) ≤ℤ (pos len *ℤ s +ℤ pos (len * slack)) =
    rw (← (times-plus len s (pos slack))) (times len moved (s +ℤ pos slack) more) in
    let many : (1 + 2 * slack) * len ≡ len + 2 * (len * slack) = omega arith in
    record {
      low = low_linear (pos len *ℤ d) (pos r *ℤ d) _ (pos len *ℤ moved) (pos len *ℤ s) _ len (len * slack) _ product left many n.high above;
      high = high_linear (pos len *ℤ d) (pos r *ℤ d) _ (pos len *ℤ moved) (pos len *ℤ s) _ len
          (len * slack) _ product left many n.low below;
    }

-- ---- the distance after

after_of : Vec3 → Vec3 → ℕ → ℤ → ℤ → ℕ → Vec3
after_of a b r first second total =
    let s = corrections (minus a b) (pos r) in
    minus (plus a (opposite (shares s (pos 256) first total))) (plus b (shares s (pos 256) second total))

vector_after : (slack r : ℕ) (a b : Vec3) (first second : ℤ) (total : ℕ) → IsFair slack first second total → 0 < length_of (minus a b)
    → IsVectorNear r (length_of (minus a b)) (1 + 2 * slack) (minus a b) (after_of a b r first second total)
unfolding after_of
vector_after slack r a b first second total fair apart =
    let d = minus a b in
    let len = length_of d in
    let s = corrections d (pos r) in
    let n : (z : ℤ) → IsNear ((pos len -ℤ pos r) *ℤ z) len (along (pos len -ℤ pos r) z len) = λ z.
    near ((pos len -ℤ pos r) *ℤ z) len apart in
    record {
      x = axis_after slack len r a.x b.x s.x _ _ (n d.x) (fair.low s.x) (fair.high s.x);
      y = axis_after slack len r a.y b.y s.y _ _ (n d.y) (fair.low s.y) (fair.high s.y);
      z = axis_after slack len r a.z b.z s.z _ _ (n d.z) (fair.low s.z) (fair.high s.z);
    }

about : (m r : ℕ) (d v : Vec3) → 0 < m → 0 < length_of d → IsVectorNear r (length_of d) m d v → IsAbout m r (length_of d) (length_of v)
about m r d v some apart h = record {
  low = elim (cases_lt r m) [
    | inl small ↦ omega (arith, small)
    | inr large ↦
        let is : r ≡ m + (r - m) = omega (arith, large) in
        let far = far-vector m (r - m) (length_of d) d v some apart (subst (λ k. IsVectorNear k (length_of d) m d v) is h)
        (root-square (squared_length d)) in
        omega (arith, far, is)
  ];
  high = near-vector m r (length_of d) d v some apart h (root-next (squared_length d));
}

-- ---- a bond

by_tests : (limit : ℤ) (slack within : Bool) (s t : Shift) → (if slack then Slack else (if within then Moves t else Leaves)) ≡ Moves s
    → s ≡ t
by_tests limit true within s t h = absurd (cc)
by_tests limit false true s t h = sym (moves_agree t s h)
  where
    moves_agree : (t s : Shift) → Moves t ≡ Moves s → t ≡ s
    moves_agree t s e = cc
by_tests limit false false s t h = absurd (cc)

moved_by : (limit : ℤ) (p q : End) (bond : Bond) (s : Shift) → correction_of limit p q bond ≡ Moves s → s ≡ shift_of p q bond
unfolding correction_of
moved_by limit p q bond s h =
    let t = shift_of p q bond in
    by_tests limit (is_slack p q bond) (is_within limit t.first && is_within limit t.second) s t h

-- the ends after the moves
ends_after : (p q : End) (bond : Bond) (s : Shift) (m : Vec3 × Vec3) → s ≡ shift_of p q bond
    → pair_moves p.at q.at bond.rest bond.k p.weight q.weight ≡ m
    → (s.first ≡ plus p.at m.0) × (s.second ≡ plus q.at m.1)
unfolding shift_of
ends_after p q bond s m is moves = (
  ap (λ (x : Shift). x.first) is ∙ ap (λ (x : Vec3 × Vec3). plus p.at x.0) moves,
  ap (λ (x : Shift). x.second) is ∙ ap (λ (x : Vec3 × Vec3). plus q.at x.1) moves,
)

bond_about : (slack : ℕ) (p q : End) (bond : Bond) (s : Shift) (r : ℕ) → s ≡ shift_of p q bond → bond.k ≡ pos 256 → bond.rest ≡ pos r
    → IsFair slack p.weight q.weight (unsigned_abs p.weight + unsigned_abs q.weight) → 0 < distance p q
    → IsAbout (1 + 2 * slack) r (distance p q) (distance_after s)
unfolding after_of
bond_about slack p q bond s r is stiff rest fair apart =
    let total = unsigned_abs p.weight + unsigned_abs q.weight in
    let c = corrections (minus p.at q.at) (pos r) in
    let m : Vec3 × Vec3 = (opposite (shares c (pos 256) p.weight total), shares c (pos 256) q.weight total) in
    let moves : pair_moves p.at q.at bond.rest bond.k p.weight q.weight ≡ m =
    ap (λ z. pair_moves p.at q.at z bond.k p.weight q.weight) rest ∙ ap (λ z. pair_moves p.at q.at (pos r) z p.weight q.weight) stiff
    ∙ pair_moves-some p.at q.at (pos r) (pos 256) p.weight q.weight apart fair.some in
    let ends = ends_after p q bond s m is moves in
    let far : distance_after s ≡ length_of (after_of p.at q.at r p.weight q.weight total) =
    ap (λ (v : Vec3). length_of (minus v s.second)) ends.0 ∙ ap (λ (v : Vec3). length_of (minus (plus p.at m.0) v)) ends.1 in
    subst (λ n. IsAbout (1 + 2 * slack) r (distance p q) n) (sym far)
    (about (1 + 2 * slack) r (minus p.at q.at) (after_of p.at q.at r p.weight q.weight total) (omega arith) apart
    (vector_after slack r p.at q.at p.weight q.weight total fair apart))

pub one-held : (limit : ℤ) (p q : End) (bond : Bond) (s : Shift) (r : ℕ) → correction_of limit p q bond ≡ Moves s → bond.k ≡ pos 256
    → bond.rest ≡ pos r → IsOneHeld p q → 0 < distance p q → IsAbout 1 r (distance p q) (distance_after s)
one-held limit p q bond s r h stiff rest (inl first) apart =
    bond_about 0 p q bond s r (moved_by limit p q bond s h) stiff rest (first_held_fair p.weight q.weight first.0 first.1) apart
one-held limit p q bond s r h stiff rest (inr second) apart =
    bond_about 0 p q bond s r (moved_by limit p q bond s h) stiff rest (second_held_fair p.weight q.weight second.0 second.1) apart

pub equal-ends : (limit : ℤ) (p q : End) (bond : Bond) (s : Shift) (r : ℕ) → correction_of limit p q bond ≡ Moves s → bond.k ≡ pos 256
    → bond.rest ≡ pos r → AreEqual p q → 0 < distance p q → IsAbout 3 r (distance p q) (distance_after s)
equal-ends limit p q bond s r h stiff rest same apart =
    bond_about 1 p q bond s r (moved_by limit p q bond s h) stiff rest (equal_fair p.weight q.weight same.0 same.1) apart

pub stay-together : (limit : ℤ) (p q : End) (bond : Bond) (s : Shift) → correction_of limit p q bond ≡ Moves s → distance p q ≡ 0
    → (s.first ≡ p.at) × (s.second ≡ q.at)
stay-together limit p q bond s h near =
    let none = pair_moves-none p.at q.at bond.rest bond.k p.weight q.weight (inl near) in
    let ends = ends_after p q bond s (zero_vector, zero_vector) (moved_by limit p q bond s h) none in
    (ends.0 ∙ plus_nothing p.at, ends.1 ∙ plus_nothing q.at)
