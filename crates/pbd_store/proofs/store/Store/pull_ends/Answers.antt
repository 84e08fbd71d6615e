use Rattle.std.proofs.Common.{arith, rules, sym, ℤ, List, subst, length, w64, FitsSigned}
use Rattle.std.proofs.lemmas.Int.{to_z-of_z}
use Rattle.pbd_world.specs.declared.parts.Particle.{Particle}
use Rattle.pbd_world.specs.Particles.{particle_at}
use Rattle.pbd_store.specs.Moving.{AreInside}
use Rattle.pbd_store.specs.Pairs.{ArePairs, opposites_in, ways_in}
use Rattle.pbd_store.specs.Reaching.{CoversEnds}
use Rattle.pbd_store.specs.Stored.{Stored}
use Rattle.pbd_store.proofs.Limits.{inside_both, read_limit}
use Rattle.pbd_store.proofs.store.Store.pull_ends.Goals as goal

pub pull-requires : goal.pull-requires
pull-requires g c =
    let are = subst (λ (s : Stored). ArePairs (length c.args.pairs.first.now) (length s.particles) c.args.pairs)
    (sym c.self.view_is) c.requires.pairs in
    let inside = inside_both c.self.inside.limit c.self.inside.columns c.self.invariant
    (subst (λ (s : Stored). AreInside s.limit s.particles) (sym c.self.view_is) c.requires.inside) in
    let limit = read_limit c.self.inside.limit c.self.invariant in (
      omega arith,
      (
        c.requires.lanes,
        (are, (c.requires.apart, (inside.each, (record { back = c.requires.back; forth = c.requires.forth; low = limit.0; high = limit.1 })))),
      ),
    )

pub returns-clause-covered : goal.returns-clause-covered
returns-clause-covered g c =
    let range : FitsSigned w64 c.self.inside.limit = search rules in
    let covers = λ (z : ℤ) (ps : List Particle). CoversEnds (length c.args.pairs.first.now) c.args.pairs.first.now c.args.pairs.second.now
    (opposites_in c.args.back.now) (ways_in c.args.forth.now) c.pull.result z (λ i. (particle_at ps i).at) in
    subst (λ (s : Stored). covers s.limit s.particles) c.self.view_is
    (subst (λ (z : ℤ). covers z c.self.inside.columns) (to_z-of_z w64 c.self.inside.limit range) c.pull.ensures.covered)
