-- The moves of a bond by its reach.
use Rattle.std.proofs.Common.{◌≡◌, ◌<◌, ◌^◌, ℤ, pos, ◌≤ℤ◌, ◌<ℤ◌, int_le, Bool, true, false, ◌&&◌, cond, refl}
use Rattle.std.proofs.Common.{arith, subst}
use Rattle.std.proofs.lemmas.Int.{ints}
use Rattle.pbd_num.specs.declared.Vec3.{Vec3}
use Rattle.pbd_num.specs.Vectors.{zero_vector, length_of}
use Rattle.pbd_num.specs.PairMove.{pair_moves}
use Rattle.pbd_world.specs.declared.bond.Bond.{Bond}
use Rattle.pbd_pair.specs.Moves.{moves_by}
use Rattle.pbd_pair.specs.Chunks.{reach_of}
use Rattle.pbd_num.proofs.Tests.{beyond}

at_least : (a b : ℤ) → int_le a b ≡ true → a ≤ℤ b
at_least a b e = grind (arith, ints, e)

reach_case : (contact slack : Bool) (rest len : ℤ) (m near : Vec3 × Vec3) → int_le rest len ≡ slack → len <ℤ pos (2 ^ 31)
    → (len <ℤ cond contact rest (pos
    (2 ^ 31)) → m ≡ near) → (cond contact rest (pos (2 ^ 31)) ≤ℤ len → m ≡ (zero_vector, zero_vector)) → m ≡ cond (contact && slack)
    (zero_vector, zero_vector) near
reach_case false slack rest len m near e short some none = some short
reach_case true true rest len m near e short some none = none (at_least rest len e)
reach_case true false rest len m near e short some none = some (beyond rest len e)

pub moves_by_reach : (way : Vec3) (first second : ℤ) (b : Bond) (m : Vec3 × Vec3) (reach : ℤ) → reach ≡ reach_of b → length_of way < 2 ^ 31
    → (pos (length_of way) <ℤ reach → m ≡ pair_moves way zero_vector b.rest b.k first second) → (reach ≤ℤ pos (length_of way)
    → m ≡ (zero_vector, zero_vector)) → m ≡ moves_by way first second b
unfolding moves_by
moves_by_reach way first second b m reach e short some none =
    reach_case b.contact (int_le b.rest (pos (length_of way))) b.rest (pos (length_of way)) m
    (pair_moves way zero_vector b.rest b.k first second) refl
    (omega (arith, ints, short))
    (subst (λ (z : ℤ). pos (length_of way) <ℤ z → m ≡ pair_moves way zero_vector b.rest b.k first second) e some)
    (subst (λ (z : ℤ). z ≤ℤ pos (length_of way) → m ≡ (zero_vector, zero_vector)) e none)
