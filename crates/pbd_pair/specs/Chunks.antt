-- Bonds of a chunk, number by number.
use Rattle.std.specs.Prelude.{◌≡◌, ℕ, ◌+◌, ◌<◌, ◌≤◌, ◌^◌, ℤ, pos, neg_ℤ, ◌<ℤ◌, ◌≤ℤ◌, ◌*ℤ◌, int_lt, int_le, if◌then◌else◌, List, length}
use Rattle.std.specs.Prelude.{slice_index_or, take, unsigned_abs, Bool, ◌||◌, IsTrue}
use Rattle.pbd_num.specs.declared.Vec3.{Vec3}
use Rattle.pbd_num.specs.declared.row.Row.{Row}
use Rattle.pbd_num.specs.declared.tried.Pull.{Pull}
use Rattle.pbd_num.specs.declared.tried.Weights.{Weights}
use Rattle.pbd_num.specs.Rows.{vector_of, no_row}
use Rattle.pbd_num.specs.Vectors.{Within, plus, opposite, zero_vector}
use Rattle.pbd_world.specs.declared.parts.Particle.{Particle}
use Rattle.pbd_world.specs.declared.bond.Bond.{Bond}
use Rattle.pbd_world.specs.declared.bond.Shift.{Shift}
use Rattle.pbd_world.specs.Ledger.{Entry}
use Rattle.pbd_world.specs.Particles.{particle_at, effective_weight}
use Rattle.pbd_world.specs.Bonds.{entries_of, class_of}
use Rattle.pbd_store.specs.Gathering.{index_at}
use Rattle.pbd_store.specs.declared.pairs.Between.{Between}
use Rattle.pbd_store.specs.declared.pairs.EndMoves.{EndMoves}
use Rattle.pbd_store.specs.Pairs.{row_in, moves_in, ArePairs, IsWay}
use Rattle.pbd_pair.specs.declared.bonds.Bonds.{Bonds}
use Rattle.pbd_pair.specs.declared.chunk.Columns.{Columns}
use Rattle.pbd_pair.specs.declared.chunk.Found.{Found}
use Rattle.pbd_pair.specs.Bonds.{bond_of, bond_count}
use Rattle.pbd_pair.specs.Moves.{moves_by}
use Rattle.pbd_pair.specs.Laid.{factor_of, number_in, portion_of, short_rest, stiffness_of, IsFirm, Lists}

-- at most 128 numbers of firm bonds
pub record AreKnown (bonds : Bonds) (numbers : List ℕ) : Type 0 where
  pub few : length numbers ≤ 128
  pub known : (j : ℕ) → j < length numbers → slice_index_or numbers j 0 < bond_count bonds
  pub firm : (j : ℕ) → j < length numbers → IsFirm (bond_of bonds (slice_index_or numbers j 0))

-- the ends of a chunk's bonds are taken
pub record AreEnds (bond : ℕ → Bond) (numbers : List ℕ) (c : Columns) : Type 0 where
  pub first_long : length c.first ≡ 128
  pub second_long : length c.second ≡ 128
  pub first : (j : ℕ) → j < length numbers → index_at c.first j ≡ (bond (slice_index_or numbers j 0)).a
  pub second : (j : ℕ) → j < length numbers → index_at c.second j ≡ (bond (slice_index_or numbers j 0)).b

-- two weights in 0..=65,535
pub record AreWeights (w : Weights) : Type 0 where
  pub first_low : pos 0 ≤ℤ w.first
  pub first_high : w.first ≤ℤ pos 65535
  pub second_low : pos 0 ≤ℤ w.second
  pub second_high : w.second ≤ℤ pos 65535

-- n weights each, in 0..=65,535
pub record AreWeighed (n : ℕ) (firsts seconds : List ℤ) : Type 0 where
  pub first_low : (j : ℕ) → j < n → pos 0 ≤ℤ number_in firsts j
  pub first_high : (j : ℕ) → j < n → number_in firsts j ≤ℤ pos 65535
  pub second_low : (j : ℕ) → j < n → pos 0 ≤ℤ number_in seconds j
  pub second_high : (j : ℕ) → j < n → number_in seconds j ≤ℤ pos 65535

-- what loops go by of a chunk's bonds, whose ends have these weights
pub record AreShared (bond : ℕ → Bond) (numbers : List ℕ) (between : Between) (c : Columns) : Type 0 where
  pub rest_long : length c.rest ≡ 128
  pub factor_long : length c.factor ≡ 128
  pub stiffness_long : length c.stiffness ≡ 128
  pub portion_long : length c.portion ≡ 128
  pub rest : (j : ℕ) → j < length numbers → number_in c.rest j ≡ short_rest (bond (slice_index_or numbers j 0)).rest
  pub factor : (j : ℕ) → j < length numbers → number_in c.factor j
      ≡ factor_of (bond (slice_index_or numbers j 0)) (number_in between.first_weight j) (number_in between.second_weight j)
  pub stiffness : (j : ℕ) → j < length numbers → number_in c.stiffness j
      ≡ stiffness_of (bond (slice_index_or numbers j 0)) (number_in between.first_weight j) (number_in between.second_weight j)
  pub portion : (j : ℕ) → j < length numbers → number_in c.portion j
      ≡ portion_of (bond (slice_index_or numbers j 0)) (number_in between.first_weight j) (number_in between.second_weight j)

-- the first n rows of a chunk's columns
abbrev pub rows_of : ℕ → Between → Columns → Lists
rows_of n between c = record {
  first = take n c.first;
  second = take n c.second;
  rest = take n c.rest;
  factor = take n c.factor;
  stiffness = take n c.stiffness;
  portion = take n c.portion;
  first_weight = take n between.first_weight;
  second_weight = take n between.second_weight;
}

-- what lies between the ends of pairs: the ways from the second ends to the first, and their effective weights
pub record Lying : Type 0 where
  pub ways : List Row
  pub first_weight : List ℤ
  pub second_weight : List ℤ

-- the same of n pairs of a list of particles
pub record LieBetween (n : ℕ) (ps : List Particle) (first second : List ℕ) (l : Lying) : Type 0 where
  pub ways : (j : ℕ) → j < n
      → IsWay (row_in l.ways j) (particle_at ps (index_at first j)).at (particle_at ps (index_at second j)).at
  pub first_weights : (j : ℕ) → j < n
      → number_in l.first_weight j ≡ pos (effective_weight (particle_at ps (index_at first j)))
  pub second_weights : (j : ℕ) → j < n
      → number_in l.second_weight j ≡ pos (effective_weight (particle_at ps (index_at second j)))

-- the same of a chunk
abbrev pub lying_in : Found → Lying
lying_in found = record {
  ways = found.ways.now;
  first_weight = found.laid.first_weight.now;
  second_weight = found.laid.second_weight.now;
}

-- the rest length of a bond where it is below 16,384
pub record HoldsRest (b : Bond) (rest : ℤ) : Type 0 where
  pub low : pos 0 ≤ℤ rest
  pub high : rest ≤ℤ pos 16383
  pub near : b.rest <ℤ pos 16384 → rest ≡ b.rest

-- n ways of at most 2^30 an axis, and weights in 0..=65,535
pub record AreSized (n : ℕ) (between : Lying) : Type 0 where
  pub way : (j : ℕ) → j < n → Within (2 ^ 30) (vector_of (row_in between.ways j))
  pub first_low : (j : ℕ) → j < n → pos 0 ≤ℤ number_in between.first_weight j
  pub first_high : (j : ℕ) → j < n → number_in between.first_weight j ≤ℤ pos 65535
  pub second_low : (j : ℕ) → j < n → pos 0 ≤ℤ number_in between.second_weight j
  pub second_high : (j : ℕ) → j < n → number_in between.second_weight j ≤ℤ pos 65535

-- f / 512 is the share of a free end, and f is below 0 where the bond isn't short, or both ends are free and their weights differ
pub record HoldsFactor (b : Bond) (first second f : ℤ) : Type 0 where
  pub low : neg_ℤ (pos 1) ≤ℤ f
  pub high : f ≤ℤ pos 512
  pub short : pos 0 ≤ℤ f → b.rest <ℤ pos 16384
  pub even : pos 0 ≤ℤ f → pos 0 <ℤ first → pos 0 <ℤ second → first ≡ second
  pub both : pos 0 ≤ℤ f → pos 0 <ℤ first → pos 0 <ℤ second → f ≡ b.k
  pub first_held : pos 0 ≤ℤ f → first ≡ pos 0 → f ≡ pos 2 *ℤ b.k
  pub second_held : pos 0 ≤ℤ f → second ≡ pos 0 → f ≡ pos 2 *ℤ b.k

-- s / 256 is the part of a correction that both ends of a bond move by together, and s is below 0 where the bond isn't short; where both
-- ends are held, neither moves
pub record HoldsStiffness (b : Bond) (first second s : ℤ) : Type 0 where
  pub low : neg_ℤ (pos 1) ≤ℤ s
  pub high : s ≤ℤ pos 256
  pub short : pos 0 ≤ℤ s → b.rest <ℤ pos 16384
  pub shared : pos 0 ≤ℤ s → 0 < unsigned_abs first + unsigned_abs second → s ≡ b.k
  pub held : pos 0 ≤ℤ s → unsigned_abs first + unsigned_abs second ≡ 0 → s ≡ pos 0

-- a guess is bounded, and nothing else is said of it
pub record IsGuess (guess : ℤ) : Type 0 where
  pub low : pos 0 ≤ℤ guess
  pub high : guess ≤ℤ pos (2 ^ 30)

-- a row of a free end, and none of a held one
abbrev pub kept_by : ℤ → Row → Row
kept_by weight row = if int_lt (pos 0) weight then row else no_row

-- a row is the move of the second end where that is free, and its opposite the move of the first where that is free
pub record IsNear (way : Vec3) (first second : ℤ) (b : Bond) (row : Row) : Type 0 where
  pub flag : row.flag ≡ pos 0
  pub size : Within (2 ^ 22) (vector_of row)
  pub moves : moves_by way first second b ≡ (opposite (vector_of (kept_by first row)), vector_of (kept_by second row))

-- the same of each bond of a chunk
pub record AreNear (bond : ℕ → Bond) (numbers : List ℕ) (between : Lying) (moves : List Row) : Type 0 where
  pub long : length numbers ≤ length moves
  pub each : (j : ℕ) → j < length numbers → IsNear (vector_of (row_in between.ways j)) (number_in between.first_weight j)
      (number_in between.second_weight j) (bond (slice_index_or numbers j 0)) (row_in moves j)

-- a row of each bond of a chunk, which is its move where it has no flag
pub record AreTried (bond : ℕ → Bond) (numbers : List ℕ) (between : Lying) (rows : List Row) : Type 0 where
  pub long : length numbers ≤ length rows
  pub each : (j : ℕ) → j < length numbers → (row_in rows j).flag ≡ pos 0 → IsNear (vector_of (row_in between.ways j))
      (number_in between.first_weight j) (number_in between.second_weight j) (bond (slice_index_or numbers j 0)) (row_in rows j)

-- the same, and none has a flag where that is told
pub record AreRightIf (told : Bool) (found : Found) (rows : List Row) : Type 0 where
  pub tried : AreTried (bond_of found.chunk.bonds) found.chunk.numbers.now (lying_in found) rows
  pub all : IsTrue told → (j : ℕ) → j < length found.chunk.numbers.now → (row_in rows j).flag ≡ pos 0

-- n rows as they are kept by both weights
pub record IsMasked (n : ℕ) (between : Lying) (moves firsts seconds : List Row) : Type 0 where
  pub back_long : n ≤ length firsts
  pub forth_long : n ≤ length seconds
  pub back : (j : ℕ) → j < n → row_in firsts j ≡ kept_by (number_in between.first_weight j) (row_in moves j)
  pub forth : (j : ℕ) → j < n → row_in seconds j ≡ kept_by (number_in between.second_weight j) (row_in moves j)

-- two rows are both moves of a bond: the first is the opposite of the first end's
pub record IsMoved (way : Vec3) (first second : ℤ) (b : Bond) (back forth : Row) : Type 0 where
  pub back_flag : back.flag ≡ pos 0
  pub forth_flag : forth.flag ≡ pos 0
  pub back_size : Within (2 ^ 22) (vector_of back)
  pub forth_size : Within (2 ^ 22) (vector_of forth)
  pub moves : moves_by way first second b ≡ (opposite (vector_of back), vector_of forth)

-- the same of each bond of a chunk
pub record AreMoved (bond : ℕ → Bond) (numbers : List ℕ) (between : Lying) (back forth : List Row) : Type 0 where
  pub back_long : length numbers ≤ length back
  pub forth_long : length numbers ≤ length forth
  pub each : (j : ℕ) → j < length numbers → IsMoved (vector_of (row_in between.ways j)) (number_in between.first_weight j)
      (number_in between.second_weight j) (bond (slice_index_or numbers j 0)) (row_in back j) (row_in forth j)

-- at least one of two ends is held
abbrev pub has_held : ℤ → ℤ → Bool
has_held first second = int_le first (pos 0) || int_le second (pos 0)

-- what both ends of a bond move by together, where that counts
abbrev pub moved_if : Bool → Row → Row → Vec3
moved_if counts back forth = if counts then plus (opposite (vector_of back)) (vector_of forth) else zero_vector

-- the stiffnesses of a chunk's bonds, and guesses
pub record HaveStiffness (found : Found) : Type 0 where
  pub stiffness_long : length found.laid.stiffness.now ≡ length found.chunk.numbers.now
  pub portion_long : length found.laid.portion.now ≡ length found.chunk.numbers.now
  pub stiffness : (j : ℕ) → j < length found.chunk.numbers.now
      → HoldsStiffness (bond_of found.chunk.bonds (slice_index_or found.chunk.numbers.now j 0)) (number_in found.laid.first_weight.now j)
      (number_in found.laid.second_weight.now j) (number_in found.laid.stiffness.now j)
  pub portion : (j : ℕ) → j < length found.chunk.numbers.now → IsGuess (number_in found.laid.portion.now j)

-- a chunk's bonds are laid, and what lies between their ends is told
pub record IsFound (ps : List Particle) (found : Found) : Type 0 where
  pub first : (j : ℕ) → j < length found.chunk.numbers.now
      → index_at found.pairs.first.now j ≡ (bond_of found.chunk.bonds (slice_index_or found.chunk.numbers.now j 0)).a
  pub second : (j : ℕ) → j < length found.chunk.numbers.now
      → index_at found.pairs.second.now j ≡ (bond_of found.chunk.bonds (slice_index_or found.chunk.numbers.now j 0)).b
  pub pairs : ArePairs (length found.chunk.numbers.now) (length ps) found.pairs
  pub between : LieBetween (length found.chunk.numbers.now) ps found.pairs.first.now found.pairs.second.now (lying_in found)
  pub rest_long : length found.chunk.numbers.now ≤ length found.laid.rest.now
  pub factor_long : length found.laid.factor.now ≡ length found.chunk.numbers.now
  pub first_long : length found.laid.first_weight.now ≡ length found.chunk.numbers.now
  pub second_long : length found.laid.second_weight.now ≡ length found.chunk.numbers.now
  pub rest : (j : ℕ) → j < length found.chunk.numbers.now
      → HoldsRest (bond_of found.chunk.bonds (slice_index_or found.chunk.numbers.now j 0)) (number_in found.laid.rest.now j)
  pub factor : (j : ℕ) → j < length found.chunk.numbers.now
      → HoldsFactor (bond_of found.chunk.bonds (slice_index_or found.chunk.numbers.now j 0)) (number_in found.laid.first_weight.now j)
      (number_in found.laid.second_weight.now j) (number_in found.laid.factor.now j)
  pub stiff : HaveStiffness found

-- the length from which on a bond does nothing: no length is 2^31
abbrev pub reach_of : Bond → ℤ
reach_of b = if b.contact then b.rest else pos (2 ^ 31)

-- what a bond pulls its ends to
abbrev pub pull_by : Bond → Pull
pull_by b = record { rest = b.rest; k = b.k; reach = reach_of b }

abbrev pub no_pull : Pull
no_pull = record { rest = pos 0; k = pos 0; reach = pos 0 }

abbrev pub pull_in : List Pull → ℕ → Pull
pull_in pulls j = slice_index_or pulls j no_pull

-- a length of at most 2^31, and a stiffness in 0..=256
pub record IsMild (d : Pull) : Type 0 where
  pub rest_low : pos 0 ≤ℤ d.rest
  pub rest_high : d.rest ≤ℤ pos (2 ^ 31)
  pub k_low : pos 0 ≤ℤ d.k
  pub k_high : d.k ≤ℤ pos 256

-- what a firm bond pulls its ends to
pub record IsPull (b : Bond) (d : Pull) : Type 0 where
  pub value : d ≡ pull_by b
  pub mild : IsMild d

-- the same of each bond of a chunk
pub record ArePulled (bond : ℕ → Bond) (numbers : List ℕ) (pulls : List Pull) : Type 0 where
  pub each : (j : ℕ) → j < length numbers → IsPull (bond (slice_index_or numbers j 0)) (pull_in pulls j)

-- both moves of a bond, which are short
pub record IsExact (way : Vec3) (weight other : ℤ) (b : Bond) (m : EndMoves) : Type 0 where
  pub moves : (m.first, m.second) ≡ moves_by way weight other b
  pub first : Within (2 ^ 31) m.first
  pub second : Within (2 ^ 31) m.second

-- the same of each bond of a chunk
pub record AreExact (found : Found) (moves : List EndMoves) : Type 0 where
  pub whole : length moves ≡ 128
  pub each : (j : ℕ) → j < length found.chunk.numbers.now → IsExact (vector_of (row_in (lying_in found).ways j))
      (number_in (lying_in found).first_weight j) (number_in (lying_in found).second_weight j)
      (bond_of found.chunk.bonds (slice_index_or found.chunk.numbers.now j 0)) (moves_in moves j)

-- moves as a shift without places
abbrev pub unplaced : Vec3 → Vec3 → Shift
unplaced first second = record { first = zero_vector; second = zero_vector; first_move = first; second_move = second }

-- the entries of bond j of a chunk
abbrev pub entries_in : Found → List EndMoves → ℕ → List Entry
entries_in found moves j = entries_of (int_le (number_in (lying_in found).first_weight j) (pos 0))
    (int_le (number_in (lying_in found).second_weight j) (pos 0))
    (class_of (bond_of found.chunk.bonds (slice_index_or found.chunk.numbers.now j 0)))
    (unplaced (moves_in moves j).first (moves_in moves j).second)

-- the columns of a chunk have a row for each of its bonds, and hold their rest lengths and factors, and ways and weights in range
pub record AreInColumns (found : Found) : Type 0 where
  pub rest_long : length found.chunk.numbers.now ≤ length found.laid.rest.now
  pub factor_long : length found.laid.factor.now ≡ length found.chunk.numbers.now
  pub first_long : length found.laid.first_weight.now ≡ length found.chunk.numbers.now
  pub second_long : length found.laid.second_weight.now ≡ length found.chunk.numbers.now
  pub sized : AreSized (length found.chunk.numbers.now) (lying_in found)
  pub rest : (j : ℕ) → j < length found.chunk.numbers.now
      → HoldsRest (bond_of found.chunk.bonds (slice_index_or found.chunk.numbers.now j 0)) (number_in found.laid.rest.now j)
  pub factor : (j : ℕ) → j < length found.chunk.numbers.now
      → HoldsFactor (bond_of found.chunk.bonds (slice_index_or found.chunk.numbers.now j 0)) (number_in found.laid.first_weight.now j)
      (number_in found.laid.second_weight.now j) (number_in found.laid.factor.now j)

-- a row without a flag is short, and tells the moves of two ends of these weights
pub record IsTold (weight other : ℤ) (m : EndMoves) (row : Row) : Type 0 where
  pub size : row.flag ≡ pos 0 → Within (2 ^ 22) (vector_of row)
  pub first : row.flag ≡ pos 0 → m.first ≡ opposite (vector_of (kept_by weight row))
  pub second : row.flag ≡ pos 0 → m.second ≡ vector_of (kept_by other row)
