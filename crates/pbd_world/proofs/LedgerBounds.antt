-- Totals grow by no more than their entries.
use Rattle.std.proofs.Common.{◌≡◌, refl, ◌∙◌, ℕ, ◌+◌, ◌*◌, ◌≤◌, ◌^◌, List, [], ◌∷◌, length, arith}
use Rattle.std.specs.Prelude.{fold}
use Rattle.std.specs.List.{AllByRecursion}
use Rattle.pbd_num.specs.declared.Vec3.{Vec3}
use Rattle.pbd_num.specs.Vectors.{Within}
use Rattle.pbd_world.specs.declared.totals.Class.{Class}
use Rattle.pbd_world.specs.declared.totals.Class.TheVariants as classes
use Rattle.pbd_world.specs.Ledger.{Ledger, Entry, zero_sum, added, booked, HaveRoom}
use Rattle.pbd_world.specs.Particles.{Moved}
use Rattle.pbd_world.specs.World.{AreBounded}
use Rattle.pbd_world.proofs.Rooms.{room_at, room_left}

-- the bounds are those of room, but for what pins put
abbrev unpinned : Ledger → Ledger
unpinned t = record t { pin = zero_sum }

room_of : (t : Ledger) (b : ℕ) → AreBounded b t → HaveRoom b (unpinned t)
room_of t b h = record {
  gravity = h.gravity;
  damping = h.damping;
  link = h.link;
  contact = h.contact;
  pin = record { x = omega arith; y = omega arith; z = omega arith };
  shape = h.shape;
}

bounds_of : (t : Ledger) (b : ℕ) → HaveRoom b (unpinned t) → AreBounded b t
bounds_of t b h = record { gravity = h.gravity; damping = h.damping; link = h.link; contact = h.contact; shape = h.shape }

pub bounded_weaker : (t : Ledger) (b c : ℕ) → b ≤ c → AreBounded b t → AreBounded c t
bounded_weaker t b c l h = bounds_of t c (room_at c l (room_of t b h))

added_by : (t : Ledger) (class : Class) (v : Vec3) (b c : ℕ) → AreBounded b t → Within c v → AreBounded (b + c) (added t class v)
added_by t classes.Pin v b c h k = bounds_of (added t classes.Pin v) (b + c) (room_at (b + c) (omega arith) (room_of t b h))
added_by t class v b c h k = bounds_of (added t class v) (b + c) (room_left (unpinned t) class v b c (room_of t b h) k)

-- entries of at most c on each axis
abbrev pub AreSmall : ℕ → List Entry → Type 0
AreSmall c es = AllByRecursion {X = Entry} (λ e. Within c e.1) es

pub booked_bounded : (es : List Entry) (t : Ledger) (b c : ℕ) → AreSmall c es → AreBounded b t
    → AreBounded (b + length es * c) (booked t es)
booked_bounded [] t b c s h = bounded_weaker t b (b + length {A = Entry} [] * c) (omega arith) h
booked_bounded (e ∷ es) t b c s h =
    let one = added_by t e.0 e.1 b c h s.0 in
    bounded_weaker (booked (added t e.0 e.1) es) ((b + c) + length es * c) (b + length (e ∷ es) * c) (omega arith)
    (booked_bounded es (added t e.0 e.1) (b + c) c s.1 one)

-- ---- particles that carry their entries

-- at most two entries, small ones, none of them of a link or contact, and of damping only where `still` doesn't hold
pub record IsQuiet (still : Type 0) (x : Moved) : Type 0 where
  pub few : length x.entries ≤ 2
  pub small : AreSmall (2 ^ 30) x.entries
  pub links : (t : Ledger) → (booked t x.entries).link ≡ t.link
  pub contacts : (t : Ledger) → (booked t x.entries).contact ≡ t.contact
  pub damping : still → (t : Ledger) → (booked t x.entries).damping ≡ t.damping

abbrev pub all_booked : Ledger → List Moved → Ledger
all_booked t ms = fold {A = Moved} (λ u m. booked u m.entries) t ms

pub moved_bounded : (still : Type 0) (ms : List Moved) (t : Ledger) (b : ℕ) → AllByRecursion (IsQuiet still) ms → AreBounded b t
    → AreBounded (b + length ms * 2 ^ 31) (all_booked t ms)
moved_bounded still [] t b q h = bounded_weaker t b (b + length {A = Moved} [] * 2 ^ 31) (omega arith) h
moved_bounded still (m ∷ ms) t b q h =
    let few = q.0.few in
    let one = bounded_weaker (booked t m.entries) (b + length m.entries * 2 ^ 30) (b + 2 ^ 31) (omega (arith, few))
    (booked_bounded m.entries t b (2 ^ 30) q.0.small h) in
    bounded_weaker (all_booked (booked t m.entries) ms) ((b + 2 ^ 31) + length ms * 2 ^ 31) (b + length (m ∷ ms) * 2 ^ 31) (omega arith)
    (moved_bounded still ms (booked t m.entries) (b + 2 ^ 31) q.1 one)

pub moved_links : (still : Type 0) (ms : List Moved) (t : Ledger) → AllByRecursion (IsQuiet still) ms → (all_booked t ms).link ≡ t.link
moved_links still [] t q = refl
moved_links still (m ∷ ms) t q = moved_links still ms (booked t m.entries) q.1 ∙ q.0.links t

pub moved_contacts : (still : Type 0) (ms : List Moved) (t : Ledger) → AllByRecursion (IsQuiet still) ms
    → (all_booked t ms).contact ≡ t.contact
moved_contacts still [] t q = refl
moved_contacts still (m ∷ ms) t q = moved_contacts still ms (booked t m.entries) q.1 ∙ q.0.contacts t

pub moved_damping : (still : Type 0) (ms : List Moved) (t : Ledger) → still → AllByRecursion (IsQuiet still) ms
    → (all_booked t ms).damping ≡ t.damping
moved_damping still [] t s q = refl
moved_damping still (m ∷ ms) t s q = moved_damping still ms (booked t m.entries) s q.1 ∙ q.0.damping s t
