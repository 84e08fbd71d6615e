-- Totals with room: there is room at a greater bound, and a move more fits and leaves room.
use Rattle.std.proofs.Common.{ℕ, ◌+◌, ◌<◌, ◌≤◌, ◌^◌, arith, ℤ, ◌+ℤ◌, unsigned_abs, FitsSigned}
use Rattle.std.specs.Int.{w128}
use Rattle.std.proofs.lemmas.Int.{fits_signed_from_abs}
use Rattle.pbd_num.specs.declared.Vec3.{Vec3}
use Rattle.pbd_num.specs.Vectors.{Within}
use Rattle.pbd_num.proofs.Sizes.{size-add}
use Rattle.pbd_world.specs.declared.totals.Class.{Class}
use Rattle.pbd_world.specs.declared.totals.Class.TheVariants as classes
use Rattle.pbd_world.specs.Ledger.{Sum, Ledger, sum_plus, total_of, added, SumWithin, SumFits, HaveRoom}

axis_fits : (t v : ℤ) (b c : ℕ) → unsigned_abs t ≤ b → unsigned_abs v ≤ c → b + c < 2 ^ 127 → FitsSigned w128 (t +ℤ v)
axis_fits t v b c h k room = fits_signed_from_abs w128 (t +ℤ v) (omega (arith, size-add t v))

sum_fits : (s : Sum) (v : Vec3) (b c : ℕ) → SumWithin b s → Within c v → b + c < 2 ^ 127 → SumFits (sum_plus s v)
sum_fits s v b c h k room = record {
  x = axis_fits s.x v.x b c h.x k.x room;
  y = axis_fits s.y v.y b c h.y k.y room;
  z = axis_fits s.z v.z b c h.z k.z room;
}

pub sum_grows : (s : Sum) (v : Vec3) (b c : ℕ) → SumWithin b s → Within c v → SumWithin (b + c) (sum_plus s v)
sum_grows s v b c h k = record {
  x = omega (arith, size-add s.x v.x, h.x, k.x);
  y = omega (arith, size-add s.y v.y, h.y, k.y);
  z = omega (arith, size-add s.z v.z, h.z, k.z);
}

-- what is within a bound is within a greater one
pub sum_wider : (s : Sum) (b c : ℕ) → b ≤ c → SumWithin b s → SumWithin c s
sum_wider s b c l h = record { x = omega (arith, l, h.x); y = omega (arith, l, h.y); z = omega (arith, l, h.z) }

total_within : (t : Ledger) (class : Class) (b : ℕ) → HaveRoom b t → SumWithin b (total_of t class)
total_within t classes.Gravity b h = h.gravity
total_within t classes.Damping b h = h.damping
total_within t classes.Link b h = h.link
total_within t classes.Contact b h = h.contact
total_within t classes.Pin b h = h.pin
total_within t classes.Shape b h = h.shape

room_from : (n : ℕ) (t : Ledger) → ((d : Class) → SumWithin n (total_of t d)) → HaveRoom n t
room_from n t f = record {
  gravity = f classes.Gravity;
  damping = f classes.Damping;
  link = f classes.Link;
  contact = f classes.Contact;
  pin = f classes.Pin;
  shape = f classes.Shape;
}

pub room_at : {n : ℕ} {t : Ledger} (m : ℕ) → n ≤ m → HaveRoom n t → HaveRoom m t
room_at {n} {t} m l h = room_from m t (λ d. sum_wider (total_of t d) n m l (total_within t d n h))

-- with room, the totals take the move
pub move_fits : (t : Ledger) (class : Class) (v : Vec3) (b c : ℕ) → HaveRoom b t → Within c v → b + c < 2 ^ 127
    → SumFits (sum_plus (total_of t class) v)
move_fits t class v b c h k room = sum_fits (total_of t class) v b c (total_within t class b h) k room

-- a total after a move: greater by the move in its class, and as before elsewhere
total_grows : (t : Ledger) (class d : Class) (v : Vec3) (b c : ℕ) → HaveRoom b t → HaveRoom (b + c) t → Within c v
    → SumWithin (b + c) (total_of (added t class v) d)
total_grows t classes.Gravity classes.Gravity v b c h a k = sum_grows t.gravity v b c h.gravity k
total_grows t classes.Damping classes.Damping v b c h a k = sum_grows t.damping v b c h.damping k
total_grows t classes.Link classes.Link v b c h a k = sum_grows t.link v b c h.link k
total_grows t classes.Contact classes.Contact v b c h a k = sum_grows t.contact v b c h.contact k
total_grows t classes.Pin classes.Pin v b c h a k = sum_grows t.pin v b c h.pin k
total_grows t classes.Shape classes.Shape v b c h a k = sum_grows t.shape v b c h.shape k
total_grows t class d v b c h a k = total_within t d (b + c) a

-- so no total grows by more than the move
pub room_left : (t : Ledger) (class : Class) (v : Vec3) (b c : ℕ) → HaveRoom b t → Within c v → HaveRoom (b + c) (added t class v)
room_left t class v b c h k = room_from (b + c) (added t class v)
    (λ d. total_grows t class d v b c h (room_at (b + c) (omega arith) h) k)
