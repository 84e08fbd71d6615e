use Rattle.std.proofs.Common.{sym, ap, ◌∙◌, ℤ, ℕ, ◌<◌, length, IsTrue, subst, rules, w64, FitsSigned}
use Rattle.std.proofs.lemmas.Int.{to_z-of_z}
use Rattle.std.specs.Prelude.{MatchResult}
use Rattle.pbd_num.specs.Vectors.{plus}
use Rattle.pbd_world.specs.Particles.{particle_at}
use Rattle.pbd_store.specs.Gathering.{index_at}
use Rattle.pbd_store.specs.Pairs.{opposites_in, ways_in, ends_within, stays, OutsideAt}
use Rattle.pbd_store.specs.Reaching.{Covers}
use Rattle.pbd_store.specs.Stored.{Stored}
use Rattle.pbd_store.proofs.Parting.{both_stay, outcome_from}
use Rattle.pbd_store.proofs.store.Store.pull.Goals as goal
use Rattle.pbd_world.proofs.WholeLemmas.{limit_low}

pub returns-then-is_within-clause-outcome : goal.returns-then-is_within-clause-outcome
returns-then-is_within-clause-outcome g c =
    let l : FitsSigned w64 c.self.inside.limit = search rules in
    let inside = simp to_z-of_z at c.is_within.ensures in
    let limit = ap (λ (s : Stored). s.limit) c.self.view_is ∙ c.pull_ends-reach.ensures.limit in
    let low = (limit_low c.self.inside.limit c.self.invariant) in
    record {
      parted = c.pull_ends-reach.ensures.particles;
      stay = λ j p. subst (λ (z : ℤ). IsTrue (stays z c.args.self.now.particles c.args.pairs.first.now c.args.pairs.second.now
          (opposites_in c.args.back.now) (ways_in c.args.forth.now) j)) limit
          (both_stay c.self.inside.limit _ _ low
          (inside c.if-is_within.true _ (subst (λ (z : ℤ). Covers c.pull_ends-reach.result z
          (plus (particle_at c.args.self.now.particles (index_at c.args.pairs.first.now j)).at (opposites_in c.args.back.now j)))
          (sym limit) (c.pull_ends-reach.ensures.covered.firsts j p)))
          (inside c.if-is_within.true _ (subst (λ (z : ℤ). Covers c.pull_ends-reach.result z
          (plus (particle_at c.args.self.now.particles (index_at c.args.pairs.second.now j)).at (ways_in c.args.forth.now j)))
          (sym limit) (c.pull_ends-reach.ensures.covered.seconds j p))));
    }

pub returns-clause-outcome : goal.returns-clause-outcome
returns-clause-outcome g c = outcome_from (length c.args.pairs.first.now) c.args.self.now.limit c.args.pairs.first.now
    c.args.pairs.second.now
    (opposites_in c.args.back.now) (ways_in c.args.forth.now) c.args.self.now.particles c.pull_ends-reach.new.self.particles
    c.pull_ends-reach.ensures.particles c.find_outside.result
    (subst (λ (z : ℤ). MatchResult c.find_outside.result (λ _. (j : ℕ) → j < length c.args.pairs.first.now
    → IsTrue (ends_within z c.pull_ends-reach.new.self.particles c.args.pairs.first.now c.args.pairs.second.now j))
    (λ k. OutsideAt k (length c.args.pairs.first.now) z c.pull_ends-reach.new.self.particles c.args.pairs.first.now
    c.args.pairs.second.now))
    c.pull_ends-reach.ensures.limit c.find_outside.ensures)
