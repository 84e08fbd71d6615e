-- The momentum of particles within the limit is far from 128 bits.
use Rattle.std.proofs.Common.{◌≡◌, ap, ℕ, ◌+◌, ◌*◌, ◌≤◌, ◌^◌, Bool, true, false, List, [], ◌∷◌, length, arith, ℤ, ◌+ℤ◌, ◌-ℤ◌, unsigned_abs, subst}
use Rattle.std.proofs.Common.{sym}
use Rattle.std.specs.Prelude.{IsTrue}
use Rattle.std.specs.List.{AllByRecursion}
use Rattle.std.proofs.lemmas.Int.{ints}
use Rattle.pbd_num.specs.declared.Vec3.{Vec3}
use Rattle.pbd_num.specs.Vectors.{Within, is_within}
use Rattle.pbd_num.proofs.Ranges.{within_facts, wider}
use Rattle.pbd_num.proofs.Sizes.{size-add, size-sub}
use Rattle.pbd_world.specs.declared.parts.Particle.{Particle}
use Rattle.pbd_world.specs.Ledger.{Sum, zero_sum, SumWithin}
use Rattle.pbd_world.specs.Particles.{velocity}
use Rattle.pbd_world.specs.Momentum.{momentum}
use Rattle.pbd_ledger.proofs.Adding.{both_within}
use Rattle.pbd_world.proofs.MomentumLemmas.{part_by, part, momentum_cons}
use Rattle.pbd_world.proofs.BetweenLemmas.{step_size}
use Rattle.pbd_world.proofs.KeptLemmas.{IsLimit}
use Rattle.pbd_world.proofs.Rooms.{sum_grows}

-- both places of a particle are within the limit
pub record IsPlaced (limit : ℤ) (p : Particle) : Type 0 where
  pub at : IsTrue (is_within limit p.at)
  pub before : IsTrue (is_within limit p.before)

part_within : (held : Bool) (v : Vec3) → Within (2 ^ 30) v → SumWithin (2 ^ 30) (part_by held v)
part_within true v h = record { x = omega arith; y = omega arith; z = omega arith }
part_within false v h = sum_grows zero_sum v 0 (2 ^ 30) (record { x = omega arith; y = omega arith; z = omega arith }) h

velocity_within : (limit : ℤ) (p : Particle) → IsLimit limit → IsPlaced limit p → Within (2 ^ 30) (velocity p)
velocity_within limit p lim placed =
    let l = unsigned_abs limit in
    wider (velocity p) (2 * l) (2 ^ 30) (omega (arith, lim.high))
    (step_size p.at p.before l ((within_facts limit p.at lim.low).0 placed.at) ((within_facts limit p.before lim.low).0 placed.before))

pub momentum_within : (limit : ℤ) (ps : List Particle) → IsLimit limit → AllByRecursion (IsPlaced limit) ps
    → SumWithin (length ps * 2 ^ 30) (momentum ps)
momentum_within limit [] lim placed = record { x = omega arith; y = omega arith; z = omega arith }
momentum_within limit (p ∷ ps) lim placed =
    let first = part_within p.held (velocity p) (velocity_within limit p lim placed.0) in
    let rest = momentum_within limit ps lim placed.1 in
    let both : SumWithin (2 ^ 30 + length ps * 2 ^ 30) (momentum (p ∷ ps)) =
    subst (λ (s : Sum). SumWithin (2 ^ 30 + length ps * 2 ^ 30) s) (sym (momentum_cons p ps))
    (both_within (2 ^ 30) (length ps * 2 ^ 30) (part p) (momentum ps) first rest) in
    record { x = omega (arith, both.x); y = omega (arith, both.y); z = omega (arith, both.z) }

-- one total is bounded by the others and the momentum
pub pin_axis : (m o g d l c p s : ℤ) (b : ℕ) → m ≡ o +ℤ (g +ℤ (d +ℤ (l +ℤ (c +ℤ (p +ℤ s))))) → unsigned_abs m ≤ b → unsigned_abs o ≤ b
    → unsigned_abs g ≤ b → unsigned_abs d ≤ b → unsigned_abs l ≤ b → unsigned_abs c ≤ b → unsigned_abs s ≤ b → unsigned_abs p ≤ 8 * b
pin_axis m o g d l c p s b e hm ho hg hd hl hc hs =
    let others = o +ℤ (g +ℤ (d +ℤ (l +ℤ (c +ℤ s)))) in
    let rest : p ≡ m -ℤ others = omega (arith, ints, e) in
    let far : unsigned_abs others ≤ 6 * b = omega (
      arith,
      size-add o (g +ℤ (d +ℤ (l +ℤ (c +ℤ s)))),
      size-add g (d +ℤ (l +ℤ (c +ℤ s))),
      size-add d (l +ℤ (c +ℤ s)),
      size-add l (c +ℤ s),
      size-add c s,
      ho,
      hg,
      hd,
      hl,
      hc,
      hs,
    ) in
    rw rest (omega (arith, size-sub m others, hm, far))
