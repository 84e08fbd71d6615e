-- Bonds in columns.
use Rattle.std.specs.Prelude.{◌≡◌, ℕ, ◌+◌, ◌*◌, ◌/◌, ◌<◌, ◌≤◌, ◌^◌, min, max, ℤ, pos, neg_ℤ, ◌≤ℤ◌, ◌*ℤ◌, unsigned_abs, int_lt, int_le, ◌&&◌, ◌||◌}
use Rattle.std.specs.Prelude.{if◌then◌else◌, Bool, List}
use Rattle.std.specs.Prelude.{length, slice_index_or, slice_set, take, drop, Option, Some, None}
use Rattle.std.specs.Int.{int_min}
use Rattle.pbd_world.specs.declared.parts.Particle.{Particle}
use Rattle.pbd_world.specs.declared.bond.Bond.{Bond}
use Rattle.pbd_world.specs.Particles.{particle_at, effective_weight}
use Rattle.pbd_store.specs.Gathering.{index_at}
use Rattle.pbd_pair.specs.declared.bonds.Bonds.{Bonds}
use Rattle.pbd_pair.specs.declared.bonds.Bonds.TheVariants.{Links, Contacts, LaidLinks, LaidContacts}
use Rattle.pbd_pair.specs.declared.laid.Laid.{Laid}
use Rattle.pbd_pair.specs.declared.laid.LaidBond.{LaidBond}
use Rattle.pbd_pair.specs.declared.laid.BondColumns.{BondColumns}
use Rattle.pbd_pair.specs.Bonds.{bond_of, bond_count}

-- number j of a column
abbrev pub number_in : List ℤ → ℕ → ℤ
number_in xs j = slice_index_or xs j (pos 0)

-- a rest length of at most 2^31, and a stiffness in 0..=256
pub record IsFirm (b : Bond) : Type 0 where
  pub rest_low : pos 0 ≤ℤ b.rest
  pub rest_high : b.rest ≤ℤ pos (2 ^ 31)
  pub k_low : pos 0 ≤ℤ b.k
  pub k_high : b.k ≤ℤ pos 256

-- ---- one bond

-- a rest length as short loops take it: at most 16,383
abbrev pub short_rest : ℤ → ℤ
short_rest rest = int_min rest (pos 16383)

-- both ends are free
abbrev pub are_free : ℤ → ℤ → Bool
are_free first second = int_lt (pos 0) first && int_lt (pos 0) second

-- two weights differ
abbrev pub differ : ℤ → ℤ → Bool
differ first second = int_lt first second || int_lt second first

-- f / 512 is the share of a free end of a bond whose ends have these weights; -1 where its rest length is 16,384 or more, or where
-- both ends are free and their weights differ
unfoldable pub factor_of : Bond → ℤ → ℤ → ℤ
factor_of b first second =
    if int_le (pos 16384) b.rest || (are_free first second && differ first second) then neg_ℤ (pos 1)
    else if are_free first second then b.k
    else pos 2 *ℤ b.k

-- the stiffness of a bond whose ends have these weights, as both of them share its correction; -1 where its rest length is 16,384 or
-- more, and else 0 where both are held
unfoldable pub stiffness_of : Bond → ℤ → ℤ → ℤ
stiffness_of b first second =
    if int_le (pos 16384) b.rest then neg_ℤ (pos 1)
    else if int_le first (pos 0) && int_le second (pos 0) then pos 0
    else b.k

-- 2^30 times the part of a bond's correction that the first end moves by, rounded up or one more: loops guess by it
unfoldable pub portion_of : Bond → ℤ → ℤ → ℤ
portion_of b first second = pos (min (2 ^ 30)
    (unsigned_abs b.k * unsigned_abs first * 2 ^ 22 / max 1 (unsigned_abs first + unsigned_abs second) + 1))

-- a bond as short loops take it
abbrev pub laid_bond : Bond → ℤ → ℤ → LaidBond
laid_bond b first second = record {
  first = b.a;
  second = b.b;
  rest = short_rest b.rest;
  factor = factor_of b first second;
  stiffness = stiffness_of b first second;
  portion = portion_of b first second;
  first_weight = first;
  second_weight = second;
}

-- ---- many

-- the columns
pub record Lists : Type 0 where
  pub first : List ℕ
  pub second : List ℕ
  pub rest : List ℤ
  pub factor : List ℤ
  pub stiffness : List ℤ
  pub portion : List ℤ
  pub first_weight : List ℤ
  pub second_weight : List ℤ

abbrev pub lists_of : Laid → Lists
lists_of l = record {
  first = l.first.now;
  second = l.second.now;
  rest = l.rest.now;
  factor = l.factor.now;
  stiffness = l.stiffness.now;
  portion = l.portion.now;
  first_weight = l.first_weight.now;
  second_weight = l.second_weight.now;
}

abbrev pub lists_in : BondColumns → Lists
lists_in c = record {
  first = c.first.items;
  second = c.second.items;
  rest = c.rest.items;
  factor = c.factor.items;
  stiffness = c.stiffness.items;
  portion = c.portion.items;
  first_weight = c.first_weight.items;
  second_weight = c.second_weight.items;
}

-- the columns are as long as the first
pub record AreEven (ls : Lists) : Type 0 where
  pub second : length ls.second ≡ length ls.first
  pub rest : length ls.rest ≡ length ls.first
  pub factor : length ls.factor ≡ length ls.first
  pub stiffness : length ls.stiffness ≡ length ls.first
  pub portion : length ls.portion ≡ length ls.first
  pub first_weight : length ls.first_weight ≡ length ls.first
  pub second_weight : length ls.second_weight ≡ length ls.first

-- columns of n rows
pub record HaveRows (n : ℕ) (c : BondColumns) : Type 0 where
  pub even : AreEven (lists_in c)
  pub rows : length c.first.items ≡ n

-- the same done with each column
abbrev pub each_column : (List ℕ → List ℕ) → (List ℤ → List ℤ) → Lists → Lists
each_column f g ls = record {
  first = f ls.first;
  second = f ls.second;
  rest = g ls.rest;
  factor = g ls.factor;
  stiffness = g ls.stiffness;
  portion = g ls.portion;
  first_weight = g ls.first_weight;
  second_weight = g ls.second_weight;
}

-- the first n rows, and those after them
abbrev pub front_of : ℕ → Lists → Lists
front_of n ls = each_column (take n) (take n) ls

abbrev pub back_of : ℕ → Lists → Lists
back_of n ls = each_column (drop n) (drop n) ls

-- row i is now this one
abbrev pub with_row : ℕ → LaidBond → Lists → Lists
with_row i l ls = record {
  first = slice_set ls.first i l.first;
  second = slice_set ls.second i l.second;
  rest = slice_set ls.rest i l.rest;
  factor = slice_set ls.factor i l.factor;
  stiffness = slice_set ls.stiffness i l.stiffness;
  portion = slice_set ls.portion i l.portion;
  first_weight = slice_set ls.first_weight i l.first_weight;
  second_weight = slice_set ls.second_weight i l.second_weight;
}

-- row j
abbrev pub laid_at : Lists → ℕ → LaidBond
laid_at ls j = record {
  first = index_at ls.first j;
  second = index_at ls.second j;
  rest = number_in ls.rest j;
  factor = number_in ls.factor j;
  stiffness = number_in ls.stiffness j;
  portion = number_in ls.portion j;
  first_weight = number_in ls.first_weight j;
  second_weight = number_in ls.second_weight j;
}

-- the first rows are the laid bonds of some numbers, where the particles have these effective weights
pub record AreLaid (bond : ℕ → Bond) (weight : ℕ → ℕ) (numbers : List ℕ) (ls : Lists) : Type 0 where
  pub even : AreEven ls
  pub long : length numbers ≤ length ls.first
  pub each : (j : ℕ) → j < length numbers → laid_at ls j ≡ laid_bond (bond (slice_index_or numbers j 0))
      (pos (weight (bond (slice_index_or numbers j 0)).a)) (pos (weight (bond (slice_index_or numbers j 0)).b))

-- the bonds of some numbers can be laid: each is there and firm, and its particles have a weight
pub record AreLayable (bonds : Bonds) (numbers weights : List ℕ) : Type 0 where
  pub known : (j : ℕ) → j < length numbers → slice_index_or numbers j 0 < bond_count bonds
  pub firm : (j : ℕ) → j < length numbers → IsFirm (bond_of bonds (slice_index_or numbers j 0))
  pub first : (j : ℕ) → j < length numbers → (bond_of bonds (slice_index_or numbers j 0)).a < length weights
  pub second : (j : ℕ) → j < length numbers → (bond_of bonds (slice_index_or numbers j 0)).b < length weights

-- columns, where there are some, have n rows or more
abbrev pub CanSplit : ℕ → Option Laid → Type 0
CanSplit n None = Unit {0}
CanSplit n (Some laid) = AreEven (lists_of laid) × (n ≤ length laid.first.now)

-- the first n rows of columns, and those after them, where there are some
abbrev pub AreSplit : ℕ → Option Laid → Option Laid → Option Laid → Type 0
AreSplit n None front back = (front ≡ None) × (back ≡ None)
AreSplit n (Some laid) None back = ⊥
AreSplit n (Some laid) (Some front) None = ⊥
AreSplit n (Some laid) (Some front) (Some back) =
    (lists_of front ≡ front_of n (lists_of laid)) × (lists_of back ≡ back_of n (lists_of laid))

-- ---- what a projector may go by

-- the columns that come with bonds
abbrev pub laid_in : Bonds → Option Laid
laid_in (Links links) = None
laid_in (Contacts pairs thickness) = None
laid_in (LaidLinks links laid) = Some laid
laid_in (LaidContacts pairs thickness laid) = Some laid

-- the weight of each of some particles, 0 where it is held
abbrev pub weight_in : List Particle → ℕ → ℕ
weight_in ps i = effective_weight (particle_at ps i)

-- columns are those of the batch, row by row
pub record AreOfBatch (bond : ℕ → Bond) (batch : List ℕ) (ps : List Particle) (l : Laid) : Type 0 where
  pub exact : length l.first.now ≡ length batch
  pub laid : AreLaid bond (weight_in ps) batch (lists_of l)

abbrev pub SuitIf : Option Laid → (ℕ → Bond) → List ℕ → List Particle → Type 0
SuitIf None bond batch ps = Unit {0}
SuitIf (Some laid) bond batch ps = AreOfBatch bond batch ps laid

-- the columns that come with the bonds, if there are some, are those of the batch
abbrev pub Suit : Bonds → List ℕ → List Particle → Type 0
Suit bonds batch ps = SuitIf (laid_in bonds) (bond_of bonds) batch ps
