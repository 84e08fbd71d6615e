-- Pairs of particles: what lies between their ends, and how the ends move.
use Rattle.std.specs.Prelude.{◌≡◌, ℕ, ◌^◌, ◌<◌, ◌≤◌, ◌≤ℤ◌, ℤ, pos, unsigned_abs, List, length, slice_index_or, Bool, false, IsTrue, ◌&&◌}
use Rattle.pbd_num.specs.declared.Vec3.{Vec3}
use Rattle.pbd_num.specs.declared.row.Row.{Row}
use Rattle.pbd_num.specs.Rows.{vector_of, no_row}
use Rattle.pbd_num.specs.Vectors.{Within, is_within, plus, minus, opposite, zero_vector}
use Rattle.pbd_world.specs.declared.parts.Particle.{Particle}
use Rattle.pbd_world.specs.Particles.{particle_at, effective_weight}
use Rattle.pbd_store.specs.Gathering.{index_at}
use Rattle.pbd_store.specs.declared.pairs.Pairs.{Pairs}
use Rattle.pbd_store.specs.declared.pairs.Between.{Between}
use Rattle.pbd_store.specs.declared.pairs.EndMoves.{EndMoves}
use Rattle.pbd_store.specs.declared.pulling.RowMoves.{RowMoves}

-- n pairs, at most 128, of `count` particles
pub record ArePairs (n count : ℕ) (pairs : Pairs) : Type 0 where
  pub few : n ≤ 128
  pub first_long : length pairs.first.now ≡ n
  pub second_long : length pairs.second.now ≡ n
  pub first : (j : ℕ) → j < n → index_at pairs.first.now j < count
  pub second : (j : ℕ) → j < n → index_at pairs.second.now j < count

-- no two of the ends of n pairs are one particle
pub record PairsApart (n : ℕ) (pairs : Pairs) : Type 0 where
  pub across : (j k : ℕ) → j < n → k < n → index_at pairs.first.now j ≡ index_at pairs.second.now k → ⊥
  pub first : (j k : ℕ) → j < k → k < n → index_at pairs.first.now j ≡ index_at pairs.first.now k → ⊥
  pub second : (j k : ℕ) → j < k → k < n → index_at pairs.second.now j ≡ index_at pairs.second.now k → ⊥

-- row j of a list
abbrev pub row_in : List Row → ℕ → Row
row_in rows j = slice_index_or rows j no_row

-- the ways in a list of rows, and their opposites
abbrev pub ways_in : List Row → ℕ → Vec3
ways_in rows j = vector_of (row_in rows j)

abbrev pub opposites_in : List Row → ℕ → Vec3
opposites_in rows j = opposite (vector_of (row_in rows j))

-- the way from the second place to the first, as a row with flag 0
abbrev pub IsWay : Row → Vec3 → Vec3 → Type 0
IsWay way first second = (vector_of way ≡ minus first second) × (way.flag ≡ pos 0)

-- what lies between the ends of n pairs: the ways from the second ends to the first, and the effective weights
pub record AreBetween (n : ℕ) (ps : List Particle) (first second : List ℕ) (between : Between) : Type 0 where
  pub ways : (j : ℕ) → j < n
      → IsWay (row_in between.ways j) (particle_at ps (index_at first j)).at (particle_at ps (index_at second j)).at
  pub first_weights : (j : ℕ) → j < n
      → slice_index_or between.first_weight j (pos 0) ≡ pos (effective_weight (particle_at ps (index_at first j)))
  pub second_weights : (j : ℕ) → j < n
      → slice_index_or between.second_weight j (pos 0) ≡ pos (effective_weight (particle_at ps (index_at second j)))

-- n rows or more, the first n of them with axes of at most 2^22 and flag 0
pub record AreShort (n : ℕ) (rows : List Row) : Type 0 where
  pub long : n ≤ length rows
  pub each : (j : ℕ) → j < n → Within (2 ^ 22) (vector_of (row_in rows j))
  pub flags : (j : ℕ) → j < n → (row_in rows j).flag ≡ pos 0

-- moves of n pairs that are short, and a limit from 0 to 2^29
pub record CanPull (n : ℕ) (moves : RowMoves) (limit : ℤ) : Type 0 where
  pub back : AreShort n moves.back.now
  pub forth : AreShort n moves.forth.now
  pub low : pos 0 ≤ℤ limit
  pub high : unsigned_abs limit ≤ 2 ^ 29

-- each of n pairs has moved, its first end by f and its second by s, and nothing else has changed
pub record Parted (n : ℕ) (first second : List ℕ) (f s : ℕ → Vec3) (old new : List Particle) : Type 0 where
  pub whole : length new ≡ length old
  pub firsts : (j : ℕ) → j < n → particle_at new (index_at first j)
      ≡ record (particle_at old (index_at first j)) { at = plus (particle_at old (index_at first j)).at (f j) }
  pub seconds : (j : ℕ) → j < n → particle_at new (index_at second j)
      ≡ record (particle_at old (index_at second j)) { at = plus (particle_at old (index_at second j)).at (s j) }
  pub others : (i : ℕ) → ((j : ℕ) → j < n → index_at first j ≡ i → ⊥) → ((j : ℕ) → j < n → index_at second j ≡ i → ⊥)
      → particle_at new i ≡ particle_at old i

-- each of n pairs of elements has changed, its first end by f and its second by s, and nothing else has
pub record EndsChanged {A : Type 0} (n : ℕ) (first second : List ℕ) (f s : ℕ → A → A) (none : A) (old new : List A) : Type 0 where
  pub whole : length new ≡ length old
  pub firsts : (j : ℕ) → j < n → slice_index_or new (index_at first j) none ≡ f j (slice_index_or old (index_at first j) none)
  pub seconds : (j : ℕ) → j < n → slice_index_or new (index_at second j) none ≡ s j (slice_index_or old (index_at second j) none)
  pub others : (i : ℕ) → ((j : ℕ) → j < n → index_at first j ≡ i → ⊥) → ((j : ℕ) → j < n → index_at second j ≡ i → ⊥)
      → slice_index_or new i none ≡ slice_index_or old i none

-- the same of places that are moved
abbrev pub PlacesParted : ℕ → List ℕ → List ℕ → (ℕ → Vec3) → (ℕ → Vec3) → List Vec3 → List Vec3 → Type 0
PlacesParted n first second f s old new =
    EndsChanged n first second (λ j v. plus v (f j)) (λ j v. plus v (s j)) zero_vector old new

-- no moves
abbrev pub no_moves : EndMoves
no_moves = record { first = zero_vector; second = zero_vector }

-- the moves of pair j
abbrev pub moves_in : List EndMoves → ℕ → EndMoves
moves_in moves j = slice_index_or moves j no_moves

-- the moves of the first ends, and of the second
abbrev pub first_moves : List EndMoves → ℕ → Vec3
first_moves moves j = (moves_in moves j).first

abbrev pub second_moves : List EndMoves → ℕ → Vec3
second_moves moves j = (moves_in moves j).second

-- n moves or more, the first n of them with axes of at most 2^31
pub record AreMoves (n : ℕ) (moves : List EndMoves) : Type 0 where
  pub long : n ≤ length moves
  pub first : (j : ℕ) → j < n → Within (2 ^ 31) (moves_in moves j).first
  pub second : (j : ℕ) → j < n → Within (2 ^ 31) (moves_in moves j).second

-- the moves of pair j, its first end by f and its second by s, lead to places within the limit
abbrev pub stays : ℤ → List Particle → List ℕ → List ℕ → (ℕ → Vec3) → (ℕ → Vec3) → ℕ → Bool
stays limit ps first second f s j =
    is_within limit (plus (particle_at ps (index_at first j)).at (f j))
    && is_within limit (plus (particle_at ps (index_at second j)).at (s j))

-- each of n pairs has moved, and stays within the limit
pub record EachMoved (n : ℕ) (limit : ℤ) (first second : List ℕ) (f s : ℕ → Vec3) (old new : List Particle) : Type 0 where
  pub parted : Parted n first second f s old new
  pub stay : (j : ℕ) → j < n → IsTrue (stays limit old first second f s j)

-- pair k is the first of n whose moves lead out of the limit
pub record LeavesAt (k n : ℕ) (limit : ℤ) (first second : List ℕ) (f s : ℕ → Vec3) (ps : List Particle) : Type 0 where
  pub one : k < n
  pub before : (j : ℕ) → j < k → IsTrue (stays limit ps first second f s j)
  pub leaves : stays limit ps first second f s k ≡ false

-- both ends of pair j are within the limit
abbrev pub ends_within : ℤ → List Particle → List ℕ → List ℕ → ℕ → Bool
ends_within limit ps first second j =
    is_within limit (particle_at ps (index_at first j)).at && is_within limit (particle_at ps (index_at second j)).at

-- pair k is the first of n of which an end is outside the limit
pub record OutsideAt (k n : ℕ) (limit : ℤ) (ps : List Particle) (first second : List ℕ) : Type 0 where
  pub one : k < n
  pub before : (j : ℕ) → j < k → IsTrue (ends_within limit ps first second j)
  pub leaves : ends_within limit ps first second k ≡ false
