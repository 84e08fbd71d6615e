-- A rounded part of the way from one place to another is between them.
use Rattle.std.proofs.Common.{◌≡◌, refl, ap, ◌∙◌, ℕ, zero, suc, ◌*◌, ◌<◌, ◌≤◌, arith, ℤ, pos, negsuc, neg_ℤ, ◌+ℤ◌, ◌-ℤ◌, ◌*ℤ◌, ◌≤ℤ◌}
use Rattle.std.proofs.Common.{unsigned_abs}
use Rattle.std.proofs.lemmas.Int.{ints}
use Rattle.pbd_num.specs.declared.Vec3.{Vec3}
use Rattle.pbd_num.specs.Rounding.{rdiv}
use Rattle.pbd_num.specs.Vectors.{Within, on_axes, plus, minus}
use Rattle.pbd_num.proofs.Sizes.{size_above, size_below, size_le, size-mul}
use Rattle.pbd_num.proofs.RoundingLemmas.{size-rdiv, rdiv-neg}

part_above : (n u d : ℕ) → pos 0 ≤ℤ rdiv (pos n *ℤ pos u) (pos d)
unfolding rdiv
part_above n u d = omega (arith, ints)

part_up : (n u d : ℕ) → 0 < d → u ≤ d → rdiv (pos n *ℤ pos u) (pos d) ≤ℤ pos n
part_up n u d h k =
    let r = rdiv (pos n *ℤ pos u) (pos d) in
    let size : unsigned_abs r ≤ n = size-rdiv (pos n *ℤ pos u) (pos d) n h (size-mul (pos n) (pos u) n d (omega arith) k) in
    omega (arith, ints, size_above r, size)

turned : (n u : ℕ) → negsuc n *ℤ pos u ≡ neg_ℤ (pos (suc n) *ℤ pos u)
turned n zero = refl
turned n (suc u) = refl

-- such a part of e is between 0 and e
axis_part : (a b : ℤ) (u d m : ℕ) (e : ℤ) → b -ℤ a ≡ e → 0 < d → u ≤ d → unsigned_abs a ≤ m → unsigned_abs b ≤ m
    → unsigned_abs (a +ℤ rdiv (e *ℤ pos u) (pos d)) ≤ m
axis_part a b u d m (pos n) is h k ha hb =
    let r = rdiv (pos n *ℤ pos u) (pos d) in
    let low = part_above n u d in
    let high = part_up n u d h k in
    size_le (a +ℤ r) m (omega (arith, ints, is, high, size_above b, hb)) (omega (arith, ints, is, low, size_below a, ha))
axis_part a b u d m (negsuc n) is h k ha hb =
    let q = rdiv (pos (suc n) *ℤ pos u) (pos d) in
    let low = part_above (suc n) u d in
    let high = part_up (suc n) u d h k in
    let r = rdiv (negsuc n *ℤ pos u) (pos d) in
    let same : r ≡ neg_ℤ q = ap (λ x. rdiv x (pos d)) (turned n u) ∙ rdiv-neg (pos (suc n) *ℤ pos u) (pos d) h in
    size_le (a +ℤ r) m (omega (arith, ints, is, same, low, size_above a, ha)) (omega (arith, ints, is, same, high, size_below b, hb))

pub between_axis : (a b : ℤ) (u d m : ℕ) → 0 < d → u ≤ d → unsigned_abs a ≤ m → unsigned_abs b ≤ m
    → unsigned_abs (a +ℤ rdiv ((b -ℤ a) *ℤ pos u) (pos d)) ≤ m
between_axis a b u d m h k ha hb = axis_part a b u d m (b -ℤ a) refl h k ha hb

-- u of d parts of the way from p to q
pub between : (p q : Vec3) (u d m : ℕ) → 0 < d → u ≤ d → Within m p → Within m q
    → Within m (plus p (on_axes (λ axis. rdiv (axis *ℤ pos u) (pos d)) (minus q p)))
between p q u d m h k hp hq = record {
  x = between_axis p.x q.x u d m h k hp.x hq.x;
  y = between_axis p.y q.y u d m h k hp.y hq.y;
  z = between_axis p.z q.z u d m h k hp.z hq.z;
}

-- a move between two places within a bound
move_axis : (a v : ℤ) (m : ℕ) → unsigned_abs a ≤ m → unsigned_abs (a +ℤ v) ≤ m → unsigned_abs v ≤ 2 * m
move_axis a v m h k = size_le v (2 * m) (omega (arith, ints, size_above (a +ℤ v), size_below a, h, k))
    (omega (arith, ints, size_below (a +ℤ v), size_above a, h, k))

pub move_size : (p v : Vec3) (m : ℕ) → Within m p → Within m (plus p v) → Within (2 * m) v
move_size p v m h k = record { x = move_axis p.x v.x m h.x k.x; y = move_axis p.y v.y m h.y k.y; z = move_axis p.z v.z m h.z k.z }

step_axis : (a b : ℤ) (m : ℕ) → unsigned_abs a ≤ m → unsigned_abs b ≤ m → unsigned_abs (a -ℤ b) ≤ 2 * m
step_axis a b m h k = size_le (a -ℤ b) (2 * m) (omega (arith, ints, size_above a, size_below b, h, k))
    (omega (arith, ints, size_below a, size_above b, h, k))

pub step_size : (p q : Vec3) (m : ℕ) → Within m p → Within m q → Within (2 * m) (minus p q)
step_size p q m h k = record { x = step_axis p.x q.x m h.x k.x; y = step_axis p.y q.y m h.y k.y; z = step_axis p.z q.z m h.z k.z }

-- a loss of c out of d parts is no greater than what it is taken of
loss_axis : (a : ℤ) (u d m : ℕ) → 0 < d → u ≤ d → unsigned_abs a ≤ m → unsigned_abs (rdiv (a *ℤ pos u) (pos d)) ≤ m
loss_axis a u d m h k s = size-rdiv (a *ℤ pos u) (pos d) m h (size-mul a (pos u) m d s k)

pub loss_size : (v : Vec3) (u d m : ℕ) → 0 < d → u ≤ d → Within m v → Within m (on_axes (λ axis. rdiv (axis *ℤ pos u) (pos d)) v)
loss_size v u d m h k s = record { x = loss_axis v.x u d m h k s.x; y = loss_axis v.y u d m h k s.y; z = loss_axis v.z u d m h k s.z }
