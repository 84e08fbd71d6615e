-- The bytes of a world are bytes.
use Rattle.std.proofs.Common.{ℕ, ◌-◌, Bool, true, false, ℤ, List, [], ◌∷◌, ◌++◌, length, refl, arith, inl, inr}
use Rattle.std.specs.Int.{Width, w64, w128, cast_unsigned}
use Rattle.std.specs.Prelude.{IsTrue, nat_lt}
use Rattle.std.specs.List.{flat_map, list_all}
use Rattle.std.proofs.lemmas.Bool.{cases_lt, and_parts, ltb-true}
use Rattle.std.proofs.lemmas.List.{get_or_append_left, get_or-append_right}
use Rattle.pbd_num.specs.declared.Vec3.{Vec3}
use Rattle.pbd_world.specs.declared.parts.Particle.{Particle}
use Rattle.pbd_world.specs.declared.parts.Link.{Link}
use Rattle.pbd_world.specs.Ledger.{Sum, Ledger}
use Rattle.pbd_world.specs.World.{World}
use Rattle.pbd_log.specs.Entries.{number_bytes, signed_bytes, vector_bytes}
use Rattle.pbd_log.specs.Laws.{IsBytes}
use Rattle.pbd_log.proofs.Numbers.{IsBytes-cons, IsBytes-number}
use Rattle.pbd_encoding.specs.Encoding.{wide_bytes, sum_bytes, name, header_bytes, header_of, head_bytes, flag_bytes, at_bytes}
use Rattle.pbd_encoding.specs.Encoding.{before_bytes, held_bytes, live_bytes, first_totals_bytes, last_totals_bytes, state_bytes}
use Rattle.pbd_encoding.proofs.Axes.{axis_bytes, axes_bytes}

both_bytes : (a b : List ℕ) → IsBytes a → IsBytes b → IsBytes (a ++ b)
both_bytes a b ha hb i =
    elim (cases_lt i (length a)) [
      | inl lt ↦ rw (get_or_append_left a b 0 i lt) (ha i)
      | inr le ↦ rw (get_or-append_right a b (length a) i 0 refl le) (hb (i - length a))
    ]

none_bytes : IsBytes []
none_bytes i = omega arith

each_bytes : {A : Type 0} (f : A → List ℕ) (xs : List A) → ((x : A) → IsBytes (f x)) → IsBytes (flat_map f xs)
each_bytes f [] h = none_bytes
each_bytes f (x ∷ xs) h = both_bytes (f x) (flat_map f xs) (h x) (each_bytes f xs h)

number_is : (n x : ℕ) → IsBytes (number_bytes n x)
unfolding number_bytes
number_is n x = IsBytes-number n x

axis_is : (w : Width) (n : ℕ) (z : ℤ) → IsBytes (axis_bytes w n z)
axis_is w n z = number_is n (cast_unsigned w z)

axes_are : (w : Width) (n : ℕ) (x y z : ℤ) → IsBytes (axes_bytes w n x y z)
axes_are w n x y z =
    both_bytes (axis_bytes w n x ++ axis_bytes w n y) (axis_bytes w n z)
    (both_bytes (axis_bytes w n x) (axis_bytes w n y) (axis_is w n x) (axis_is w n y)) (axis_is w n z)

vector_is : (v : Vec3) → IsBytes (vector_bytes v)
unfolding vector_bytes signed_bytes
vector_is v = axes_are w64 8 v.x v.y v.z

sum_is : (s : Sum) → IsBytes (sum_bytes s)
unfolding sum_bytes wide_bytes
sum_is s = axes_are w128 16 s.x s.y s.z

flag_is : (flag : Bool) → IsBytes (flag_bytes flag)
flag_is true = IsBytes-cons 1 [] (omega arith) none_bytes
flag_is false = IsBytes-cons 0 [] (omega arith) none_bytes

listed_bytes : (xs : List ℕ) → IsTrue (list_all (λ b. nat_lt b 256) xs) → IsBytes xs
listed_bytes [] h = none_bytes
listed_bytes (x ∷ xs) h =
    let parts = and_parts (nat_lt x 256) (list_all (λ b. nat_lt b 256) xs) h in
    IsBytes-cons x xs (ltb-true x 256 parts.0) (listed_bytes xs parts.1)

name_is : IsBytes name
name_is = listed_bytes name refl

header_is : (scene : List ℕ) (n m : ℕ) (opening : Sum) → IsBytes scene → IsBytes (header_bytes scene n m opening)
unfolding header_bytes
header_is scene n m opening h =
    let a = name ++ scene in
    let b = a ++ number_bytes 4 n in
    let c = b ++ number_bytes 4 m in
    both_bytes c (sum_bytes opening)
    (both_bytes b (number_bytes 4 m) (both_bytes a (number_bytes 4 n) (both_bytes name scene name_is h) (number_is 4 n)) (number_is 4 m))
    (sum_is opening)

head_is : (scene : List ℕ) (w : World) → IsBytes scene → IsBytes (head_bytes scene w)
unfolding head_bytes
head_is scene w h =
    let header = header_of scene w in
    both_bytes (header ++ number_bytes 8 w.steps) (vector_bytes w.gravity)
    (both_bytes header (number_bytes 8 w.steps) (header_is scene (length w.particles) (length w.links) w.opening h) (number_is 8 w.steps))
    (vector_is w.gravity)

first_totals_is : (contacts : ℕ) (t : Ledger) → IsBytes (first_totals_bytes contacts t)
unfolding first_totals_bytes
first_totals_is contacts t =
    let a = number_bytes 4 contacts in
    let b = a ++ sum_bytes t.gravity in
    let c = b ++ sum_bytes t.damping in
    both_bytes c (sum_bytes t.link)
    (both_bytes b (sum_bytes t.damping) (both_bytes a (sum_bytes t.gravity) (number_is 4 contacts) (sum_is t.gravity)) (sum_is t.damping))
    (sum_is t.link)

last_totals_is : (t : Ledger) → IsBytes (last_totals_bytes t)
unfolding last_totals_bytes
last_totals_is t =
    both_bytes (sum_bytes t.contact ++ sum_bytes t.shape) (sum_bytes t.pin)
    (both_bytes (sum_bytes t.contact) (sum_bytes t.shape) (sum_is t.contact) (sum_is t.shape)) (sum_is t.pin)

pub state_is : (scene : List ℕ) (w : World) → IsBytes scene → IsBytes (state_bytes scene w)
unfolding state_bytes
state_is scene w h =
    let head = head_is scene w h in
    let at = both_bytes _ (flat_map at_bytes w.particles) head (each_bytes {A = Particle} at_bytes w.particles (λ p. vector_is p.at)) in
    let before = both_bytes _ (flat_map before_bytes w.particles) at
    (each_bytes {A = Particle} before_bytes w.particles (λ p. vector_is p.before)) in
    let held = both_bytes _ (flat_map held_bytes w.particles) before
    (each_bytes {A = Particle} held_bytes w.particles (λ p. flag_is p.held)) in
    let live = both_bytes _ (flat_map live_bytes w.links) held (each_bytes {A = Link} live_bytes w.links (λ l. flag_is l.live)) in
    let totals = both_bytes _ (first_totals_bytes w.contacts w.totals) live (first_totals_is w.contacts w.totals) in
    both_bytes _ (last_totals_bytes w.totals) totals (last_totals_is w.totals)
