-- A chunk whose ends have moved, as its bonds one by one.
use Rattle.std.proofs.Common.{◌≡◌, ℕ, ◌<◌, ◌≤◌, ◌^◌, ℤ, pos, ◌≤ℤ◌, ◌<ℤ◌, List, length, get_or, Bool, true, false, ◌&&◌}
use Rattle.std.proofs.Common.{◌||◌, not, int_lt, cond, refl, ap, sym, ◌∙◌, arith, subst, Err}
use Rattle.std.proofs.Common.{IsTrue, to_z, of_z, w32, FitsSigned}
use Rattle.std.proofs.lemmas.Int.{to_z-of_z}
use Rattle.std.specs.Int.Signed.{<ℤ-≤ℤ_trans}
use Rattle.pbd_num.proofs.Tests.{less}
use Rattle.pbd_num.specs.declared.Vec3.{Vec3}
use Rattle.pbd_num.specs.declared.row.Row.{Row}
use Rattle.pbd_num.specs.Rows.{vector_of, no_row}
use Rattle.pbd_num.specs.Vectors.{Within, plus, minus, opposite, is_within, zero_vector}
use Rattle.pbd_world.specs.declared.parts.Particle.{Particle}
use Rattle.pbd_world.specs.declared.bond.Bond.{Bond}
use Rattle.pbd_world.specs.declared.bond.Shift.{Shift}
use Rattle.pbd_world.specs.declared.totals.Totals.{Totals}
use Rattle.pbd_world.specs.declared.totals.Class.{Class}
use Rattle.pbd_world.specs.declared.totals.Class.TheVariants as classes
use Rattle.pbd_world.specs.Ledger.{Ledger, ledger_of, added, booked}
use Rattle.pbd_world.specs.Particles.{particle_at, effective_weight}
use Rattle.pbd_world.specs.Bonds.{end_of, class_of, entries_of}
use Rattle.pbd_store.specs.Stored.{Stored}
use Rattle.pbd_store.specs.Moving.{motion_of}
use Rattle.pbd_store.specs.declared.pairs.EndMoves.{EndMoves}
use Rattle.pbd_pair.specs.declared.bonds.Bonds.{Bonds}
use Rattle.pbd_pair.specs.declared.bonds.Bonds.TheVariants.{Links, Contacts, LaidLinks, LaidContacts}
use Rattle.pbd_pair.specs.declared.chunk.Found.{Found}
use Rattle.pbd_store.specs.Pairs.{row_in, moves_in, ways_in, opposites_in, first_moves, second_moves, stays, ArePairs, PairsApart, AreMoves}
use Rattle.pbd_store.specs.Pairs.{AreShort, EachMoved, LeavesAt}
use Rattle.pbd_pair.specs.Bonds.{bond_of, shift_by}
use Rattle.pbd_pair.specs.Projecting.{CanProject, ShareNone, projected_block}
use Rattle.pbd_pair.specs.Moves.{moves_at, moves_by, stay_at, entries_at, settled, moved_below}
use Rattle.pbd_pair.specs.Laid.{number_in}
use Rattle.pbd_pair.specs.Chunks.{kept_by, entries_in, has_held, lying_in, moved_if, unplaced, AreExact, AreInColumns, AreMoved, AreNear}
use Rattle.pbd_pair.specs.Chunks.{AreSized, AreTried, IsFound, IsMasked, Lying}
use Rattle.pbd_pair.proofs.ByWay.{same_entries, added_nothing}
use Rattle.pbd_pair.proofs.Reaching.{nth}
use Rattle.pbd_pair.proofs.Parting.{AreDone, chunk_done, chunk_leaves}
use Rattle.pbd_pair.proofs.Counted.{HeldStay, counted_all, first_stays, second_stays, together_if}
use Rattle.pbd_pair.proofs.Pinning.{settled_same, moved_same}
use Rattle.pbd_pair.proofs.NearBonds.{kept_some}
use Rattle.pbd_pair.proofs.Chunks.{ends_apart, moves_told, first_flag, second_flag, sized}

kept_size : (b : Bool) (row : Row) → Within (2 ^ 22) (vector_of row) → Within (2 ^ 22) (vector_of (cond b row no_row))
kept_size true row h = h
kept_size false row h = record { x = omega arith; y = omega arith; z = omega arith }

kept_flag : (b : Bool) (row : Row) → row.flag ≡ pos 0 → (cond b row no_row).flag ≡ pos 0
kept_flag true row h = h
kept_flag false row h = refl

-- what a bond's rows move, as they are kept
abbrev pub kept_moves : List ℤ → List ℤ → List Row → ℕ → Vec3
kept_moves firsts seconds moves k = plus (opposite (vector_of (kept_by (number_in firsts k) (row_in moves k))))
    (vector_of (kept_by (number_in seconds k)
    (row_in moves k)))

pub kept_size_by : (w : ℤ) (row : Row) → Within (2 ^ 22) (vector_of row) → Within (2 ^ 22) (vector_of (kept_by w row))
kept_size_by w row h = kept_size (int_lt (pos 0) w) row h

pub kept_short : (w : ℤ) (row : Row) {kept : Row} → kept ≡ kept_by w row → Within (2 ^ 22) (vector_of row)
    → Within (2 ^ 22) (vector_of kept)
kept_short w row is h = subst (λ (r : Row). Within (2 ^ 22) (vector_of r)) (sym is) (kept_size_by w row h)

pub kept_unflagged : (w : ℤ) (row : Row) {kept : Row} → kept ≡ kept_by w row → row.flag ≡ pos 0 → kept.flag ≡ pos 0
kept_unflagged w row is h = ap (λ (r : Row). r.flag) is ∙ kept_flag (int_lt (pos 0) w) row h

-- the class of a chunk's bonds
class_all : Bonds → Class
class_all (Links links) = classes.Link
class_all (Contacts pairs thickness) = classes.Contact
class_all (LaidLinks links laid) = classes.Link
class_all (LaidContacts pairs thickness laid) = classes.Contact

class_is : (bonds : Bonds) (n : ℕ) → class_of (bond_of bonds n) ≡ class_all bonds
unfolding class_all
class_is (Links links) n = refl
class_is (Contacts pairs thickness) n = refl
class_is (LaidLinks links laid) n = refl
class_is (LaidContacts pairs thickness laid) n = refl

module _ {found : Found} {s : Stored} {t : Totals} (can : CanProject 128 found.chunk.bonds found.chunk.numbers.now s t)
    (is : IsFound s.particles found) where
  abbrev numbers : List ℕ
  numbers = found.chunk.numbers.now

  abbrev B : ℕ → Bond
  B k = nth (bond_of found.chunk.bonds) numbers k

  apart : (i k : ℕ) → i < k → k < length numbers → ShareNone (B i) (B k)
  apart i k p q = can.batch.apart.each i k p q

  -- as many pairs as the store is asked for
  abbrev pub asked : ℕ
  asked = length found.pairs.first.now

  pub pairs_asked : ArePairs asked (length s.particles) found.pairs
  pairs_asked = subst (λ (n : ℕ). ArePairs n (length s.particles) found.pairs) (sym is.pairs.first_long) is.pairs

  pub apart_asked : PairsApart asked found.pairs
  apart_asked = subst (λ (n : ℕ). PairsApart n found.pairs) (sym is.pairs.first_long) (ends_apart can is.first is.second)

  pub sized_asked : AreSized (length numbers) (lying_in found)
  sized_asked = sized can is.first is.second is.between

  pub columns_asked : AreInColumns found
  columns_asked = record {
    rest_long = is.rest_long;
    factor_long = is.factor_long;
    first_long = is.first_long;
    second_long = is.second_long;
    sized = sized_asked;
    rest = is.rest;
    factor = is.factor;
  }

  -- ends that have moved by what the bonds move them, wherever that leads
  module _ {f g : ℕ → Vec3} (is_f : (j : ℕ) → j < length numbers → f j ≡ (moves_at s.particles (B j)).0)
      (is_g : (j : ℕ) → j < length numbers
      → g j ≡ (moves_at s.particles (B j)).1) where
    same_stays : (j : ℕ) → j < length numbers → stays s.limit s.particles found.pairs.first.now found.pairs.second.now f g j
        ≡ stay_at s.limit s.particles (B j)
    same_stays j p = λ i. is_within s.limit (plus (particle_at s.particles (is.first j p i)).at (is_f j p i)) && is_within s.limit (plus
        (particle_at s.particles (is.second j p i)).at (is_g j p i))

    pub side_done : {new : List Particle} {u : Ledger} → EachMoved asked s.limit found.pairs.first.now found.pairs.second.now f g
        s.particles new
        → u ≡ settled (λ k. entries_at s.particles (B k)) (length numbers) (ledger_of t)
        → AreDone s.limit (bond_of found.chunk.bonds) numbers (motion_of s t) new u
    side_done {new} {u} told booked_all =
        let moved = subst (λ (n : ℕ). EachMoved n s.limit found.pairs.first.now found.pairs.second.now f g s.particles new)
        is.pairs.first_long told in
        chunk_done s.limit (bond_of found.chunk.bonds) numbers s.particles can.bound.low can.inside can.batch.bond apart
        found.pairs.first.now found.pairs.second.now is.first is.second f g is_f is_g
        (λ k p. sym (same_stays k p) ∙ moved.stay k p) new moved.parted (ledger_of t) u booked_all

    pub side_leaves : {k : ℕ} → LeavesAt k asked s.limit found.pairs.first.now found.pairs.second.now f g s.particles
        → projected_block found.chunk.bonds numbers s t ≡ Err (get_or numbers k 0)
    side_leaves {k} told =
        let leaves = subst (λ (n : ℕ). LeavesAt k n s.limit found.pairs.first.now found.pairs.second.now f g s.particles)
        is.pairs.first_long told in
        chunk_leaves s.limit (bond_of found.chunk.bonds) numbers s.particles can.bound.low can.inside can.batch.bond apart
        (ledger_of t) k leaves.one
        (λ j p. sym (same_stays j (omega (arith, leaves.one))) ∙ leaves.before j p) (sym (same_stays k leaves.one) ∙ leaves.leaves)

  -- ---- one by one

  module _ {moves : List EndMoves} (exact : AreExact found moves) where
    pub first_exact : (j : ℕ) → j < length numbers → (moves_in moves j).first ≡ (moves_at s.particles (B j)).0
    first_exact j p = ap (λ (m : Vec3 × Vec3). m.0) ((exact.each j p).moves ∙ moves_told can is.first is.second is.between j p)

    pub second_exact : (j : ℕ) → j < length numbers → (moves_in moves j).second ≡ (moves_at s.particles (B j)).1
    second_exact j p = ap (λ (m : Vec3 × Vec3). m.1) ((exact.each j p).moves ∙ moves_told can is.first is.second is.between j p)

    pub are_moves : AreMoves asked moves
    are_moves = subst (λ (n : ℕ). AreMoves n moves) (sym is.pairs.first_long) (record {
      long = omega (arith, exact.whole, can.short);
      first = λ j p. (exact.each j p).first;
      second = λ j p. (exact.each j p).second;
    })

    pub entries_exact : (u : Ledger) → settled (entries_in found moves) (length numbers) u
        ≡ settled (λ k. entries_at s.particles (B k)) (length numbers) u
    entries_exact u = settled_same (entries_in found moves) (λ k. entries_at s.particles (B k)) (length numbers) u (λ k p v.
        (λ i. booked v (entries_of (first_flag can is.first is.second is.between k p i)
        (second_flag can is.first is.second is.between k p i)
        (class_of (B k)) (unplaced (moves_in moves k).first (moves_in moves k).second)))
        ∙ same_entries (particle_at s.particles (B k).a).held (particle_at s.particles (B k).b).held (class_of (B k)) _ _ v
        (first_exact k p)
        (second_exact k p))

    -- once the ends have moved by the moves
    pub exact_done : {new : List Particle} {u : Ledger}
        → EachMoved asked s.limit found.pairs.first.now found.pairs.second.now (first_moves moves) (second_moves moves) s.particles new
        → u ≡ settled (entries_in found moves) (length numbers) (ledger_of t)
        → AreDone s.limit (bond_of found.chunk.bonds) numbers (motion_of s t) new u
    exact_done told books = side_done first_exact second_exact told (books ∙ entries_exact (ledger_of t))

    pub exact_leaves : {k : ℕ} → LeavesAt k asked s.limit found.pairs.first.now found.pairs.second.now (first_moves moves)
        (second_moves moves) s.particles
        → projected_block found.chunk.bonds numbers s t ≡ Err (get_or numbers k 0)
    exact_leaves told = side_leaves first_exact second_exact told

  -- ---- in 32-bit numbers

  module _ {back forth : List Row} (moved : AreMoved (bond_of found.chunk.bonds) numbers (lying_in found) back forth) where
    told_moves : (j : ℕ) → j < length numbers → ◌≡◌ {A = Vec3 × Vec3} (opposite (vector_of (row_in back j)), vector_of (row_in forth j))
        (moves_at s.particles (B j))
    told_moves j p = sym (moved.each j p).moves ∙ moves_told can is.first is.second is.between j p

    pub first_moved : (j : ℕ) → j < length numbers → opposite (vector_of (row_in back j)) ≡ (moves_at s.particles (B j)).0
    first_moved j p = ap (λ (m : Vec3 × Vec3). m.0) (told_moves j p)

    pub second_moved : (j : ℕ) → j < length numbers → vector_of (row_in forth j) ≡ (moves_at s.particles (B j)).1
    second_moved j p = ap (λ (m : Vec3 × Vec3). m.1) (told_moves j p)

    pub back_short : AreShort asked back
    back_short = subst (λ (n : ℕ). AreShort n back) (sym is.pairs.first_long) (record {
      long = moved.back_long;
      each = λ j p. (moved.each j p).back_size;
      flags = λ j p. (moved.each j p).back_flag;
    })

    pub forth_short : AreShort asked forth
    forth_short = subst (λ (n : ℕ). AreShort n forth) (sym is.pairs.first_long) (record {
      long = moved.forth_long;
      each = λ j p. (moved.each j p).forth_size;
      flags = λ j p. (moved.each j p).forth_flag;
    })

    pub moved_leaves : {k : ℕ} → LeavesAt k asked s.limit found.pairs.first.now found.pairs.second.now (opposites_in back)
        (ways_in forth) s.particles
        → projected_block found.chunk.bonds numbers s t ≡ Err (get_or numbers k 0)
    moved_leaves told = side_leaves first_moved second_moved told

    -- what is booked where bonds are of one class
    abbrev shift_at : ℕ → Shift
    shift_at k = shift_by (end_of (particle_at s.particles (B k).a)) (end_of (particle_at s.particles (B k).b))
        (moves_at s.particles (B k)).0 (moves_at s.particles (B k)).1

    held_stay : (k : ℕ) → HeldStay (particle_at s.particles (B k).a).held (particle_at s.particles (B k).b).held (shift_at k)
    held_stay k =
        let p = particle_at s.particles (B k).a in
        let q = particle_at s.particles (B k).b in
        record {
          first = λ e. ap (λ (h : Bool). (moves_by (minus p.at q.at) (pos (cond h 0 p.weight)) (pos (effective_weight q)) (B k)).0) e
              ∙ first_stays (minus p.at q.at) (pos (effective_weight q)) (B k);
          second = λ e. ap (λ (h : Bool). (moves_by (minus p.at q.at) (pos (effective_weight p)) (pos (cond h 0 q.weight)) (B k)).1) e
              ∙ second_stays (minus p.at q.at) (pos (effective_weight p)) (B k);
        }

    -- whether a bond of the chunk has a held end
    abbrev beside : ℕ → Bool
    beside j = has_held (number_in found.laid.first_weight.now j) (number_in found.laid.second_weight.now j)

    beside_is : (j : ℕ) → j < length numbers → beside j
        ≡ ((particle_at s.particles (B j).a).held || (particle_at s.particles (B j).b).held)
    beside_is j p = λ i. first_flag can is.first is.second is.between j p i || second_flag can is.first is.second is.between j p i

    -- once the ends have moved by the rows, and one sum is booked after another
    pub apart_done : (class : Class) {pins own : Vec3} {new : List Particle} {u v : Ledger}
        → ((n : ℕ) → class_of (bond_of found.chunk.bonds n) ≡ class)
        → pins ≡ moved_below (λ j. moved_if (beside j) (row_in back j) (row_in forth j)) (length numbers)
        → own ≡ moved_below (λ j. moved_if (not (beside j)) (row_in back j) (row_in forth j)) (length numbers)
        → EachMoved asked s.limit found.pairs.first.now found.pairs.second.now (opposites_in back) (ways_in forth) s.particles new
        → u ≡ added (ledger_of t) classes.Pin pins → v ≡ added u class own
        → AreDone s.limit (bond_of found.chunk.bonds) numbers (motion_of s t) new v
    apart_done class {own = own} kind pins_are own_are told pins_booked own_booked =
        let held : ℕ → Bool = λ k. (particle_at s.particles (B k).a).held in
        let held_second : ℕ → Bool = λ k. (particle_at s.particles (B k).b).held in
        let pins_told = pins_are ∙ moved_same _ (λ k. together_if (held k || held_second k) (shift_at k)) (length numbers)
        (λ k p. λ i. cond (beside_is k p i) (plus (first_moved k p i) (second_moved k p i)) zero_vector) in
        let own_told = own_are ∙ moved_same _ (λ k. together_if (not (held k || held_second k)) (shift_at k)) (length numbers)
        (λ k p. λ i. cond (not (beside_is k p i)) (plus (first_moved k p i) (second_moved k p i)) zero_vector) in
        side_done first_moved second_moved told (own_booked ∙ ap (λ (x : Ledger). added x class own) pins_booked
        ∙ (λ i. added (added (ledger_of t) classes.Pin (pins_told i)) class (own_told i))
        ∙ sym (counted_all (ledger_of t) class held held_second shift_at (length numbers) (λ k p. held_stay k))
        ∙ settled_same (λ k. entries_of (held k) (held_second k) class (shift_at k)) (λ k. entries_at s.particles (B k)) (length numbers)
        (ledger_of t)
        (λ k p v. ap (λ (x : Class). booked v (entries_of (held k) (held_second k) x (shift_at k))) (sym (kind (get_or numbers k 0)))))

    -- where the sums are nothing
    pub alike_done : {new : List Particle}
        → zero_vector ≡ moved_below (λ j. moved_if (beside j) (row_in back j) (row_in forth j)) (length numbers)
        → zero_vector ≡ moved_below (λ j. moved_if (not (beside j)) (row_in back j) (row_in forth j)) (length numbers)
        → EachMoved asked s.limit found.pairs.first.now found.pairs.second.now (opposites_in back) (ways_in forth) s.particles new
        → AreDone s.limit (bond_of found.chunk.bonds) numbers (motion_of s t) new (ledger_of t)
    alike_done pins own told =
        let class = class_all found.chunk.bonds in
        apart_done class (class_is found.chunk.bonds) pins own told refl
        (sym (added_nothing (added (ledger_of t) classes.Pin zero_vector) class ∙ added_nothing (ledger_of t) classes.Pin))

-- rows without flags tell the moves
pub near_tried : {bond : ℕ → Bond} {numbers : List ℕ} {l : Lying} {rows : List Row} → AreTried bond numbers l rows
    → ((j : ℕ) → j < length numbers → (row_in rows j).flag ≡ pos 0) → AreNear bond numbers l rows
near_tried tried flags = record { long = tried.long; each = λ j p. tried.each j p (flags j p) }

-- a number is above 0 where its word is
pub above_zero : {z : ℤ} → FitsSigned w32 z → IsTrue (int_lt (pos 0) (to_z w32 (of_z w32 z))) → pos 0 <ℤ z
above_zero {z} fit t = less (pos 0) z (simp to_z-of_z at t)

-- where all ends are free, no row is masked
pub free_masked : {n m : ℕ} {least : ℤ} (l : Lying) (moves : List Row) → n ≤ length moves → m ≡ n → pos 0 <ℤ least
    → ((j : ℕ) → j < m → least ≤ℤ number_in l.first_weight j) → ((j : ℕ) → j < m → least ≤ℤ number_in l.second_weight j)
    → IsMasked n l moves moves moves
free_masked {n} {m} {least} l moves long whole some first second = record {
  back_long = long;
  forth_long = long;
  back = λ j p. sym (kept_some _ _ (<ℤ-≤ℤ_trans some (first j (omega (arith, p, whole)))));
  forth = λ j p. sym (kept_some _ _ (<ℤ-≤ℤ_trans some (second j (omega (arith, p, whole)))));
}
