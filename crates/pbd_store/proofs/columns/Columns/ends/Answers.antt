use Rattle.std.proofs.Common.{arith, rules, refl, ap, ◌∙◌, pos, get_or, length, ℕ, List}
use Rattle.pbd_lanes.specs.Lane.{lanes_of}
use Rattle.pbd_world.specs.declared.parts.Particle.{Particle}
use Rattle.pbd_world.specs.Particles.{effective_weight}
use Rattle.pbd_store.specs.Gathering.{index_at}
use Rattle.pbd_store.specs.Listed.{place_at}
use Rattle.pbd_store.proofs.Listing.{gathered_is, row_near}
use Rattle.pbd_store.proofs.columns.Columns.ends.Goals as goal

pub picked-requires : goal.picked-requires
picked-requires g c =
    let near = row_near c.self.invariant.padded c.self.view_is g.row.L c.args.indices.now c.args.set.now c.rows-rows.result
    c.rows-rows.ensures c.requires in
    (search rules, (search rules, (λ j p. omega (arith, p, near j p, c.self.invariant.padded.places))))

pub picked_weights-requires : goal.picked_weights-requires
picked_weights-requires g c =
    let near = row_near c.self.invariant.padded c.self.view_is g.row.L c.args.indices.now c.args.set.now c.rows-rows.result
    c.rows-rows.ensures c.requires in (
      search rules,
      (
        search rules,
        (λ j p. omega (
          arith,
          p,
          near j p,
          c.self.invariant.long,
          ap (λ (xs : List ℕ). length xs) c.deref.ensures.value,
        )),
      ),
    )

pub returns-clause-x : goal.returns-clause-x
returns-clause-x g c = c.picked.ensures.x ∙ gathered_is c.self.invariant.padded c.self.view_is g.row.L c.args.indices.now c.args.set.now
    c.rows-rows.result c.rows-rows.ensures (λ (p : Particle). p.at.x) refl (λ (k : ℕ). (place_at c.self.inside.at k).x) (λ k. refl)

pub returns-clause-y : goal.returns-clause-y
returns-clause-y g c = c.picked.ensures.y ∙ gathered_is c.self.invariant.padded c.self.view_is g.row.L c.args.indices.now c.args.set.now
    c.rows-rows.result c.rows-rows.ensures (λ (p : Particle). p.at.y) refl (λ (k : ℕ). (place_at c.self.inside.at k).y) (λ k. refl)

pub returns-clause-z : goal.returns-clause-z
returns-clause-z g c = c.picked.ensures.z ∙ gathered_is c.self.invariant.padded c.self.view_is g.row.L c.args.indices.now c.args.set.now
    c.rows-rows.result c.rows-rows.ensures (λ (p : Particle). p.at.z) refl (λ (k : ℕ). (place_at c.self.inside.at k).z) (λ k. refl)

pub returns-clause-weight : goal.returns-clause-weight
returns-clause-weight g c = c.from_array.ensures ∙ c.picked_weights.ensures
    ∙ ap (λ (xs : List ℕ). lanes_of g.row.L (λ (j : ℕ). pos (get_or xs (index_at c.rows-rows.result j) 0))) c.deref.ensures.value
    ∙ gathered_is c.self.invariant.padded c.self.view_is g.row.L c.args.indices.now c.args.set.now c.rows-rows.result c.rows-rows.ensures
    (λ (p : Particle). pos (effective_weight p)) refl (λ (k : ℕ). pos (get_or c.self.inside.effective.items k 0))
    (λ k. ap (λ (w : ℕ). pos w) (c.self.invariant.weighs k))
