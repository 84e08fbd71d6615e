-- Moves by the factor of the free ends.
use Rattle.std.proofs.Common.{◌≡◌, ℕ, suc, zero, ◌+◌, ◌<◌, refl, ap, ◌∙◌, sym, arith, pos, negsuc, ℤ, ◌-ℤ◌, ◌*ℤ◌, ◌<ℤ◌, ◌≤ℤ◌, unsigned_abs}
use Rattle.std.proofs.lemmas.Int.{ints}
use Rattle.pbd_num.specs.declared.Vec3.{Vec3}
use Rattle.pbd_num.specs.Rounding.{rdiv}
use Rattle.pbd_num.specs.Vectors.{on_axes, opposite, length_of, zero_vector}
use Rattle.pbd_num.specs.PairMove.{along, share_of, corrections, shares, pair_moves}
use Rattle.pbd_num.proofs.Signs.{share_half, share_all, share_none, times_zero, rdiv_zero}
use Rattle.pbd_num.proofs.Ways.{along-some}

-- the parts f / 512 of the correction of a vector of length len
abbrev pub parts_of : Vec3 → ℤ → ℤ → ℤ → Vec3
parts_of d len rest f = on_axes (λ axis. rdiv (along (len -ℤ rest) axis (unsigned_abs len) *ℤ f) (pos 512)) d

-- what two weights have to be
pub record Even (first second k f : ℤ) : Type 0 where
  pub first_low : pos 0 ≤ℤ first
  pub second_low : pos 0 ≤ℤ second
  pub some : 0 < unsigned_abs first + unsigned_abs second
  pub even : pos 0 <ℤ first → pos 0 <ℤ second → first ≡ second
  pub both : pos 0 <ℤ first → pos 0 <ℤ second → f ≡ k
  pub by_first : second ≡ pos 0 → f ≡ pos 2 *ℤ k
  pub by_second : first ≡ pos 0 → f ≡ pos 2 *ℤ k

-- the share of a free end
free_share : (s k f w other : ℤ) (total : ℕ) → pos 0 <ℤ w → pos 0 ≤ℤ other → total ≡ unsigned_abs w + unsigned_abs other
    → (pos 0 <ℤ other → w ≡ other) → (pos 0 <ℤ other → f ≡ k) → (other ≡ pos 0 → f ≡ pos 2 *ℤ k)
    → rdiv (s *ℤ f) (pos 512) ≡ share_of s k w total
free_share s k f (pos w) (pos zero) total free low sum even both alone =
    ap (λ x. rdiv (s *ℤ x) (pos 512)) (alone refl) ∙ sym (share_all s k (pos w) total (omega (arith, ints)) (omega (arith, ints)))
free_share s k f (pos w) (pos (suc o)) total free low sum even both alone =
    let same = even (omega (arith, ints)) in
    ap (λ x. rdiv (s *ℤ x) (pos 512)) (both (omega (arith, ints)))
    ∙ sym (share_half s k (pos w) total (omega (arith, ints)) (omega (arith, ints)))
free_share s k f (pos w) (negsuc o) total free low sum even both alone = absurd (omega (arith, ints))
free_share s k f (negsuc w) other total free low sum even both alone = absurd (omega (arith, ints))

first_share : (s first second k f : ℤ) → Even first second k f → pos 0 <ℤ first
    → rdiv (s *ℤ f) (pos 512) ≡ share_of s k first (unsigned_abs first + unsigned_abs second)
first_share s first second k f w free = free_share s k f first second (unsigned_abs first + unsigned_abs second) free w.second_low refl
    (w.even free) (w.both free) w.by_first

second_share : (s first second k f : ℤ) → Even first second k f → pos 0 <ℤ second
    → rdiv (s *ℤ f) (pos 512) ≡ share_of s k second (unsigned_abs first + unsigned_abs second)
second_share s first second k f w free = free_share s k f second first (unsigned_abs first + unsigned_abs second) free w.first_low
    (omega arith) (λ p. sym (w.even p free)) (λ p. w.both p free) w.by_second

-- a vector of shares, from the parts or from nothing
pub same_axes : (u v : Vec3) → u.x ≡ v.x → u.y ≡ v.y → u.z ≡ v.z → u ≡ v
same_axes u v x y z = λ i. record { x = x i; y = y i; z = z i }

first_shares : (d parts : Vec3) (rest first second k f : ℤ) → Even first second k f → pos 0 <ℤ first
    → parts ≡ parts_of d (pos (length_of d)) rest f → parts ≡ shares (corrections d rest) k first (unsigned_abs first + unsigned_abs second)
first_shares d parts rest first second k f w free is =
    is ∙ same_axes _ _ (first_share _ first second k f w free) (first_share _ first second k f w free)
    (first_share _ first second k f w free)

second_shares : (d parts : Vec3) (rest first second k f : ℤ) → Even first second k f → pos 0 <ℤ second
    → parts ≡ parts_of d (pos (length_of d)) rest f → parts
    ≡ shares (corrections d rest) k second (unsigned_abs first + unsigned_abs second)
second_shares d parts rest first second k f w free is =
    is ∙ same_axes _ _ (second_share _ first second k f w free) (second_share _ first second k f w free)
    (second_share _ first second k f w free)

held_shares : (s : Vec3) (k : ℤ) (total : ℕ) → 0 < total → zero_vector ≡ shares s k (pos 0) total
held_shares s k total some = same_axes _ _ (sym (share_none s.x k total some)) (sym (share_none s.y k total some))
    (sym (share_none s.z k total some))

-- the first end's move, and the second's
first_move : (d parts first_parts move : Vec3) (rest first second k f : ℤ) → Even first second k f
    → parts ≡ parts_of d (pos (length_of d)) rest f → first_parts ≡ opposite parts → (pos 0 <ℤ first → move ≡ first_parts)
    → (first ≤ℤ pos 0 → move ≡ zero_vector) → move ≡ opposite
    (shares (corrections d rest) k first (unsigned_abs first + unsigned_abs second))
first_move d parts first_parts move rest (pos zero) second k f w is turned free held = held (omega (arith, ints))
    ∙ ap opposite (held_shares (corrections d rest) k (unsigned_abs (pos 0) + unsigned_abs second) w.some)
first_move d parts first_parts move rest (pos (suc n)) second k f w is turned free held =
    free (omega (arith, ints)) ∙ turned ∙ ap opposite (first_shares d parts rest (pos (suc n)) second k f w (omega (arith, ints)) is)
first_move d parts first_parts move rest (negsuc n) second k f w is turned free held = let low = w.first_low in absurd (omega (arith, ints))

second_move : (d parts move : Vec3) (rest first second k f : ℤ) → Even first second k f → parts ≡ parts_of d (pos (length_of d)) rest f
    → (pos 0 <ℤ second → move ≡ parts) → (second ≤ℤ pos 0 → move ≡ zero_vector)
    → move ≡ shares (corrections d rest) k second (unsigned_abs first + unsigned_abs second)
second_move d parts move rest first (pos zero) k f w is free held = held (omega (arith, ints))
    ∙ held_shares (corrections d rest) k (unsigned_abs first + unsigned_abs (pos 0)) w.some
second_move d parts move rest first (pos (suc n)) k f w is free held =
    free (omega (arith, ints)) ∙ second_shares d parts rest first (pos (suc n)) k f w (omega (arith, ints)) is
second_move d parts move rest first (negsuc n) k f w is free held = let low = w.second_low in absurd (omega (arith, ints))

-- both moves
pub both_moves : (way parts first_parts first_move second_move : Vec3) (len rest first second k f : ℤ)
    → len ≡ pos (length_of way) → pos 0 <ℤ len → Even first second k f
    → parts ≡ parts_of way len rest f → first_parts ≡ opposite parts
    → (pos 0 <ℤ first → first_move ≡ first_parts) → (first ≤ℤ pos 0 → first_move ≡ zero_vector)
    → (pos 0 <ℤ second → second_move ≡ parts) → (second ≤ℤ pos 0 → second_move ≡ zero_vector)
    → (first_move, second_move) ≡ pair_moves way zero_vector rest k first second
both_moves way parts first_parts move_a move_b len rest first second k f is some w parted turned free_a held_a free_b held_b =
    let parted' = parted ∙ ap (λ l. parts_of way l rest f) is in
    let e1 = first_move way parts first_parts move_a rest first second k f w parted' turned free_a held_a in
    let e2 = second_move way parts move_b rest first second k f w parted' free_b held_b in
    (λ i. (e1 i, e2 i)) ∙ sym (along-some way rest k first second (omega (arith, ints)) w.some)

-- no move where the factor is 0
pub part_of_none : (s f part : ℤ) → f ≡ pos 0 → part ≡ rdiv (s *ℤ f) (pos 512) → part ≡ pos 0
part_of_none s f part none is = is ∙ ap (λ x. rdiv (s *ℤ x) (pos 512)) none ∙ ap (λ x. rdiv x (pos 512)) (times_zero s)
    ∙ rdiv_zero 512 (omega arith)

pub no_move : (given move : Vec3) (w : ℤ) → pos 0 ≤ℤ w → given ≡ zero_vector → (pos 0 <ℤ w → move ≡ given)
    → (w ≤ℤ pos 0 → move ≡ zero_vector) → move ≡ zero_vector
no_move given move (pos zero) low none free held = held (omega (arith, ints))
no_move given move (pos (suc n)) low none free held = free (omega (arith, ints)) ∙ none
no_move given move (negsuc n) low none free held = absurd (omega (arith, ints))
