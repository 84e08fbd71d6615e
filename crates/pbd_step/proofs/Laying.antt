-- The bonds of an order of pairs, as they are laid in columns.
use Rattle.std.proofs.Common.{◌≡◌, ℕ, zero, suc, ◌<◌, ◌≤◌, ℤ, Bool, true, false, List, [], ◌∷◌, length, get_or, cond, map}
use Rattle.std.proofs.Common.{ap, sym, ◌∙◌, arith, subst, IsTrue}
use Rattle.std.specs.Prelude.{filter}
use Rattle.std.specs.List.{AllByRecursion}
use Rattle.std.proofs.lemmas.Int.{ints}
use Rattle.std.proofs.lemmas.Bool.Decides.{nat_tests}
use Rattle.pbd_world.specs.declared.parts.Link.{Link}
use Rattle.pbd_world.specs.declared.parts.Particle.{Particle}
use Rattle.pbd_world.specs.Particles.{effective_weight}
use Rattle.pbd_world.specs.Colours.{order}
use Rattle.pbd_world.specs.Step.{link_order}
use Rattle.pbd_world.specs.Valid.{is_limit}
use Rattle.pbd_world.specs.World.{live_count}
use Rattle.pbd_world.proofs.KeepingOn.{length-mapped}
use Rattle.pbd_world.proofs.OrderCounts.{links_count}
use Rattle.pbd_world.proofs.StepBalance.{all-order}
use Rattle.pbd_pair.specs.declared.bonds.Bonds.{Bonds}
use Rattle.pbd_pair.specs.Bonds.{bond_of, IsBound}
use Rattle.pbd_pair.specs.Laid.{AreLayable}
use Rattle.pbd_pair.proofs.Ranges.{rest_fits}
use Rattle.pbd_step.specs.Projecting.{AreBondsOf}
use Rattle.pbd_world.proofs.WholeLemmas.{limit_low, limit_high}
use Rattle.pbd_world.proofs.WorkLemmas.{live_few}

each_of : (Q : ℕ → Type 0) (xs : List ℕ) → AllByRecursion Q xs → (k : ℕ) → k < length xs → Q (get_or xs k 0)
each_of Q [] h k l = absurd (omega (arith, l))
each_of Q (x ∷ xs) h zero l = h.0
each_of Q (x ∷ xs) h (suc k) l = each_of Q xs h.1 k (omega (arith, l))

-- an order has numbers of pairs alone
pub order_within : (pairs : List (ℕ × ℕ)) (live : List Bool) (k : ℕ) → k < length (order pairs live)
    → get_or (order pairs live) k 0 < length pairs
order_within pairs live = each_of (λ n. n < length pairs) (order pairs live) (all-order (λ n. n < length pairs) pairs live (λ k h. h))

limit_bound : (limit : ℤ) → IsTrue (is_limit limit) → IsBound limit
limit_bound limit h = record { low = (limit_low limit h); high = grind (arith, ints, nat_tests); size = (limit_high limit h) }

-- the bonds of an order of pairs can be laid, by a weight for each particle
pub layable : {limit : ℤ} {n : ℕ} {bonds : Bonds} {pairs : List (ℕ × ℕ)} (live : List Bool) {numbers weights : List ℕ}
    → IsTrue (is_limit limit)
    → AreBondsOf limit n bonds pairs → numbers ≡ order pairs live → length weights ≡ n → AreLayable bonds numbers weights
layable {limit} {n} {bonds} {pairs} live {numbers} {weights} l fit is many =
    subst (λ (ns : List ℕ). AreLayable bonds ns weights) (sym is) (record {
      known = λ j p. omega (arith, order_within pairs live j p, fit.count);
      firm = λ j p.
          let k = get_or (order pairs live) j 0 in
          let d = (fit.bond k (order_within pairs live j p)).pulled in
          record {
            rest_low = d.rest_low;
            rest_high = rest_fits limit (bond_of bonds k) (limit_bound limit l) d;
            k_low = d.k_low;
            k_high = d.k_high;
          };
      first = λ j p. omega (arith, (fit.bond (get_or (order pairs live) j 0) (order_within pairs live j p)).first, many);
      second = λ j p. omega (arith, (fit.bond (get_or (order pairs live) j 0) (order_within pairs live j p)).second, many);
    })

-- no more links are laid than there are
pub order_few : (links : List Link) → length (link_order links) ≤ length links
order_few links = omega (arith, links_count links, live_few links)

-- a weight for each particle
pub a_weight_each : (weights : List ℕ) (ps : List Particle) → weights ≡ map effective_weight ps → length weights ≡ length ps
a_weight_each weights ps e = ap (λ (ws : List ℕ). length ws) e ∙ length-mapped effective_weight ps
