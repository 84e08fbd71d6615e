use Rattle.std.proofs.Common.{arith, ◌≡◌, ◌∙◌, ap, sym, refl, ◌^◌, pos, ◌*ℤ◌, ◌-ℤ◌, ◌<ℤ◌, w32, IsTrue, Bool, ◌&&◌, FitsSigned, w64, ◌≤ℤ◌, ◌≤◌, ℤ}
use Rattle.std.proofs.Common.{unsigned_abs, to_z, of_z, rules}
use Rattle.std.proofs.lemmas.Int.{ints, to_z-of_z, fits_signed_from_abs}
use Rattle.std.proofs.lemmas.Bool.{and_parts}
use Rattle.pbd_num.specs.Vectors.{Within, opposite, length_of, zero_vector}
use Rattle.pbd_num.specs.declared.Vec3.{Vec3}
use Rattle.pbd_num.proofs.Sizes.{fits, size_at_most}
use Rattle.pbd_num.proofs.Ranges.{wider}
use Rattle.pbd_num.proofs.VectorSizes.{FitAxes, fit_axes, word, words_within}
use Rattle.pbd_num.proofs.Ends.{Even, parts_of, same_axes, both_moves, no_move, part_of_none}
use Rattle.pbd_num.proofs.tried.try_moves.Goals as goal
use Rattle.pbd_num.proofs.tried.try_moves.Goals.{After-factor-factor, After-try_part-z}

-- the parts as they are guessed, and whether all is right
abbrev parts : After-try_part-z → Vec3
parts c = record { x = c.try_part-x.result.part; y = c.try_part-y.result.part; z = c.try_part-z.result.part }

abbrev guessed : goal.After-struct_told-12-1 → Vec3
guessed c = parts (goal.at.returns-clause-moves c).After-try_part-z

abbrev all_exact : goal.After-struct_told-12-1 → Bool
all_exact c = c.try_length-tried.result.exact && c.are_even.result && c.try_part-x.result.exact && c.try_part-y.result.exact
    && c.try_part-z.result.exact

record Right (c : goal.After-struct_told-12-1) : Type 0 where
  length : IsTrue c.try_length-tried.result.exact
  even : IsTrue c.are_even.result
  x : IsTrue c.try_part-x.result.exact
  y : IsTrue c.try_part-y.result.exact
  z : IsTrue c.try_part-z.result.exact

each_right : (c : goal.After-struct_told-12-1) → IsTrue (all_exact c) → Right c
each_right c right =
    let to_y = and_parts _ _ right in
    let to_x = and_parts _ _ to_y.0 in
    let to_even = and_parts _ _ to_x.0 in
    let to_length = and_parts _ _ to_even.0 in
    record { length = to_length.0; even = to_length.1; x = to_even.1; y = to_x.1; z = to_y.1 }

-- an axis as it is handed on is as short as the way's
short_size : (x axis : ℤ) → x ≡ axis → unsigned_abs axis ≤ 2 ^ 30 → unsigned_abs x ≤ 2 ^ 30
short_size x axis is size = rw is size

-- what fits
factor_fits : (c : After-factor-factor) → FitsSigned w32 c.factor-factor.result
factor_fits c = fits_signed_from_abs w32 c.factor-factor.result (omega (arith, c.factor-factor.ensures.size))

first_fits : (c : goal.After-struct_told-12-1) → FitsSigned w64 c.args.weights.first
first_fits c = fits _ (omega (arith, size_at_most c.args.weights.first 65535 c.requires.first_low c.requires.first_high))

second_fits : (c : goal.After-struct_told-12-1) → FitsSigned w64 c.args.weights.second
second_fits c = fits _ (omega (arith, size_at_most c.args.weights.second 65535 c.requires.second_low c.requires.second_high))

parts_within : (c : After-try_part-z) → Within (2 ^ 31) (parts c)
parts_within c = record { x = c.try_part-x.ensures.size; y = c.try_part-y.ensures.size; z = c.try_part-z.ensures.size }

parts_fit : (c : After-try_part-z) → FitAxes (parts c)
parts_fit c = fit_axes (parts c) (2 ^ 31) (omega arith) (parts_within c)

-- the length and its error as they are handed on
stretched : (c : After-factor-factor) → record {
  length : c.stretch_of-stretch.result.length ≡ c.try_length-tried.result.length;
  error : c.stretch_of-stretch.result.error ≡ c.try_length-tried.result.length -ℤ c.args.pull.rest;
}
stretched c =
    let length : FitsSigned w64 c.try_length-tried.result.length = search rules in
    let rest : FitsSigned w64 c.args.pull.rest = search rules in
    record {
      length = simp to_z-of_z at c.stretch_of-stretch.ensures.length;
      error = simp to_z-of_z at c.stretch_of-stretch.ensures.error;
    }

-- the length
length_is : (c : goal.After-struct_told-12-1) → Right c → c.try_length-tried.result.length ≡ pos (length_of c.args.way)
length_is c right =
    let same = c.short_way-way.ensures in
    c.try_length-tried.ensures.value right.length ∙ rw (same.x, same.y, same.z) refl

-- the parts
parted : (c : goal.After-struct_told-12-1) → Right c
    → guessed c ≡ parts_of c.args.way c.try_length-tried.result.length c.args.pull.rest c.factor-factor.result
parted c right =
    let at = (goal.at.returns-clause-moves c).After-factor-factor in
    let f_fits = factor_fits at in
    let way_x = fits_signed_from_abs w32 c.short_way-way.result.x
    (omega (arith, short_size _ _ c.short_way-way.ensures.x c.requires.way.x)) in
    let way_y = fits_signed_from_abs w32 c.short_way-way.result.y
    (omega (arith, short_size _ _ c.short_way-way.ensures.y c.requires.way.y)) in
    let way_z = fits_signed_from_abs w32 c.short_way-way.result.z
    (omega (arith, short_size _ _ c.short_way-way.ensures.z c.requires.way.z)) in
    let stretch = stretched at in
    let some : pos 0 <ℤ c.stretch_of-stretch.result.length = rw stretch.length (c.try_length-tried.ensures.some right.length) in
    let vx = simp to_z-of_z at (c.try_part-x.ensures.value right.x some) in
    let vy = simp to_z-of_z at (c.try_part-y.ensures.value right.y some) in
    let vz = simp to_z-of_z at (c.try_part-z.ensures.value right.z some) in
    let same = c.short_way-way.ensures in
    same_axes _ _ (vx ∙ rw (stretch.error, stretch.length, same.x) refl) (vy ∙ rw (stretch.error, stretch.length, same.y) refl)
    (vz ∙ rw (stretch.error, stretch.length, same.z) refl)

turned : (c : goal.After-struct_told-12-1) → c.opposite.result ≡ opposite (guessed c)
turned c =
    let axes = parts_fit (goal.at.returns-clause-moves c).After-try_part-z in
    let x = axes.x in
    let y = axes.y in
    let z = axes.z in
    simp to_z-of_z at c.opposite.ensures.value

-- what the ends do
record Moves (c : goal.After-struct_told-12-1) : Type 0 where
  first_free : pos 0 <ℤ c.args.weights.first → c.moved.result ≡ c.opposite.result
  first_held : c.args.weights.first ≤ℤ pos 0 → c.moved.result ≡ zero_vector
  second_free : pos 0 <ℤ c.args.weights.second → c.moved-2.result ≡ guessed c
  second_held : c.args.weights.second ≤ℤ pos 0 → c.moved-2.result ≡ zero_vector

moves_are : (c : goal.After-struct_told-12-1) → Moves c
moves_are c =
    let first = first_fits c in
    let second = second_fits c in
    let axes = parts_fit (goal.at.returns-clause-moves c).After-try_part-z in
    let x = axes.x in
    let y = axes.y in
    let z = axes.z in
    record {
      first_free = simp to_z-of_z at c.moved.ensures.free;
      first_held = simp to_z-of_z at c.moved.ensures.held;
      second_free = simp to_z-of_z at c.moved-2.ensures.free;
      second_held = simp to_z-of_z at c.moved-2.ensures.held;
    }

-- what the factor is
even_factor : (c : goal.After-struct_told-12-1) → Right c → c.pulled.result ≡ c.args.pull.k
    → Even c.args.weights.first c.args.weights.second c.args.pull.k c.factor-factor.result
even_factor c right k_is =
    let first = first_fits c in
    let second = second_fits c in
    let k : FitsSigned w64 c.pulled.result = search rules in
    let both = simp to_z-of_z at c.factor-factor.ensures.both in
    let by_first = simp to_z-of_z at c.factor-factor.ensures.first in
    let by_second = simp to_z-of_z at c.factor-factor.ensures.second in
    record {
      first_low = c.requires.first_low;
      second_low = c.requires.second_low;
      some = c.are_even.ensures.some right.even;
      even = c.are_even.ensures.even right.even;
      both = (λ p q. both p q ∙ k_is);
      by_first = (λ e. by_first e ∙ ap (λ k. pos 2 *ℤ k) k_is);
      by_second = (λ e. by_second e ∙ ap (λ k. pos 2 *ℤ k) k_is);
    }

no_parts : (c : goal.After-struct_told-12-1) → Right c → c.pulled.result ≡ pos 0 → guessed c ≡ zero_vector
no_parts c right none =
    let f_is = c.factor-factor.ensures.none (ap (λ (k : ℤ). word k) none) in
    let is = parted c right in
    same_axes _ _ (part_of_none _ _ _ f_is (ap (λ v. v.x) is)) (part_of_none _ _ _ f_is (ap (λ v. v.y) is))
    (part_of_none _ _ _ f_is (ap (λ v. v.z) is))

pub stretch_of-stretch-requires : goal.stretch_of-stretch-requires
stretch_of-stretch-requires c =
    let length : FitsSigned w64 c.try_length-tried.result.length = search rules in
    let rest : FitsSigned w64 c.args.pull.rest = search rules in
    record {
      low = simp to_z-of_z c.try_length-tried.ensures.low;
      high = simp to_z-of_z c.try_length-tried.ensures.high;
      rest_low = simp to_z-of_z c.requires.rest_low;
      rest_high = simp to_z-of_z c.requires.rest_high;
    }

pub factor-factor-requires : goal.factor-factor-requires
factor-factor-requires c = record { k = rw (to_z-of_z w64 c.pulled.result (search rules)) c.pulled.ensures.size }

-- what the part of one axis asks
pulled : (c : After-factor-factor) (axis : ℤ) → unsigned_abs axis ≤ 2 ^ 30 → record {
  low : pos 0 ≤ℤ c.stretch_of-stretch.result.length;
  high : c.stretch_of-stretch.result.length <ℤ pos (2 ^ 31);
  error : FitsSigned w32 c.stretch_of-stretch.result.error;
  axis : unsigned_abs (to_z w32 (of_z w32 axis)) ≤ 2 ^ 30;
  f : unsigned_abs (to_z w32 (of_z w32 c.factor-factor.result)) ≤ 512;
}
pulled c axis size =
    let axis_fits = fits_signed_from_abs w32 axis (omega (arith, size)) in
    let f_fits = factor_fits c in
    let long = (stretched c).length in
    record {
      low = rw long c.try_length-tried.ensures.low;
      high = rw long c.try_length-tried.ensures.high;
      error = c.stretch_of-stretch.ensures.fits;
      axis = simp to_z-of_z size;
      f = simp to_z-of_z c.factor-factor.ensures.size;
    }

pub try_part-x-requires : goal.try_part-x-requires
try_part-x-requires c =
    pulled (goal.at.try_part-x-requires c).After-factor-factor c.short_way-way.result.x
    (short_size _ _ c.short_way-way.ensures.x c.requires.way.x)

pub try_part-y-requires : goal.try_part-y-requires
try_part-y-requires c =
    pulled (goal.at.try_part-y-requires c).After-factor-factor c.short_way-way.result.y
    (short_size _ _ c.short_way-way.ensures.y c.requires.way.y)

pub try_part-z-requires : goal.try_part-z-requires
try_part-z-requires c =
    pulled (goal.at.try_part-z-requires c).After-factor-factor c.short_way-way.result.z
    (short_size _ _ c.short_way-way.ensures.z c.requires.way.z)

pub opposite-requires : goal.opposite-requires
opposite-requires c =
    let at = (goal.at.opposite-requires c).After-try_part-z in
    words_within (parts at) (2 ^ 61) (omega arith) (wider (parts at) (2 ^ 31) (2 ^ 61) (omega arith) (parts_within at))

pub moved-requires : goal.moved-requires
moved-requires c =
    let at = (goal.at.moved-requires c).After-try_part-z in
    let axes = parts_fit at in
    let x = axes.x in
    let y = axes.y in
    let z = axes.z in
    let size = simp to_z-of_z at c.opposite.ensures.size in
    size (2 ^ 31) (parts_within at)

pub moved-requires-2 : goal.moved-requires-2
moved-requires-2 c =
    let at = (goal.at.moved-requires-2 c).After-try_part-z in
    words_within (parts at) (2 ^ 31) (omega arith) (parts_within at)

pub returns-clause-length : goal.returns-clause-length
returns-clause-length c right = to_z-of_z w64 c.try_length-tried.result.length (search rules) ∙ length_is c (each_right c right)

pub returns-clause-moves : goal.returns-clause-moves
returns-clause-moves c right near =
    let all = each_right c right in
    let moves = moves_are c in
    both_moves c.args.way (guessed c) c.opposite.result c.moved.result c.moved-2.result
    c.try_length-tried.result.length c.args.pull.rest c.args.weights.first c.args.weights.second c.args.pull.k c.factor-factor.result
    (length_is c all) (c.try_length-tried.ensures.some all.length) (even_factor c all (c.pulled.ensures.near near)) (parted c all) (turned c)
    moves.first_free moves.first_held moves.second_free moves.second_held

pub returns-clause-first_rests : goal.returns-clause-first_rests
returns-clause-first_rests c right far =
    let moves = moves_are c in
    no_move c.opposite.result c.moved.result c.args.weights.first c.requires.first_low
    (turned c ∙ ap opposite (no_parts c (each_right c right) (c.pulled.ensures.far far))) moves.first_free moves.first_held

pub returns-clause-second_rests : goal.returns-clause-second_rests
returns-clause-second_rests c right far =
    let moves = moves_are c in
    no_move (guessed c) c.moved-2.result c.args.weights.second c.requires.second_low
    (no_parts c (each_right c right) (c.pulled.ensures.far far)) moves.second_free moves.second_held

pub returns-clause-first_held : goal.returns-clause-first_held
returns-clause-first_held c e =
    let first = first_fits c in
    let moves = moves_are c in
    moves.first_held (omega (arith, ints))

pub returns-clause-second_held : goal.returns-clause-second_held
returns-clause-second_held c e =
    let second = second_fits c in
    let moves = moves_are c in
    moves.second_held (omega (arith, ints))

pub returns-clause-opposed : goal.returns-clause-opposed
returns-clause-opposed c first second =
    let moves = moves_are c in
    moves.first_free first ∙ turned c ∙ ap opposite (sym (moves.second_free second))
