use Rattle.std.proofs.Common.{arith, rules, refl, ap, ◌∙◌, pos, get_or, length, ℕ, ℤ, List}
use Rattle.pbd_lanes.specs.Lane.{lanes_of}
use Rattle.pbd_world.specs.declared.parts.Particle.{Particle}
use Rattle.pbd_world.specs.Particles.{particle_at}
use Rattle.pbd_store.specs.Gathering.{index_at}
use Rattle.pbd_store.proofs.Listing.{block_is, block_of, count_is}
use Rattle.pbd_store.proofs.columns.Columns.load.Goals as goal

pub picked-requires : goal.picked-requires
picked-requires g c =
    let count = count_is c.self.invariant.padded c.self.view_is in
    (search rules, (search rules, (λ j p. omega (arith, c.rows_of-rows.ensures.within j p, count, c.self.invariant.padded.places))))

pub picked-requires-2 : goal.picked-requires-2
picked-requires-2 g c =
    let count = count_is c.self.invariant.padded c.self.view_is in
    (search rules, (search rules, (λ j p. omega (arith, c.rows_of-rows.ensures.within j p, count, c.self.invariant.padded.befores))))

pub picked_weights-requires : goal.picked_weights-requires
picked_weights-requires g c =
    let long = ap (λ (xs : List ℕ). length xs) c.deref.ensures.value ∙ c.self.invariant.padded.weights in
    let count = count_is c.self.invariant.padded c.self.view_is in
    (search rules, (search rules, (λ j p. omega (arith, c.rows_of-rows.ensures.within j p, count, long))))

pub returns : goal.returns
returns g c =
    let block = λ (f : Particle → ℤ). block_of c.self.invariant.padded c.self.view_is g.row.L c.args.block c.rows_of-rows.ensures.each f in
    record {
      at_x = c.picked.ensures.x ∙ block (λ p. p.at.x);
      at_y = c.picked.ensures.y ∙ block (λ p. p.at.y);
      at_z = c.picked.ensures.z ∙ block (λ p. p.at.z);
      before_x = c.picked-2.ensures.x ∙ block (λ p. p.before.x);
      before_y = c.picked-2.ensures.y ∙ block (λ p. p.before.y);
      before_z = c.picked-2.ensures.z ∙ block (λ p. p.before.z);
      weight = c.from_array.ensures ∙ c.picked_weights.ensures
          ∙ ap (λ (xs : List ℕ). lanes_of g.row.L (λ (j : ℕ). pos (get_or xs (index_at c.rows_of-rows.result j) 0))) c.deref.ensures.value
          ∙ block (λ p. pos p.weight);
      held = c.from_array-2.ensures ∙ c.picked_flags.ensures ∙ block_is g.row.L c.args.block c.rows_of-rows.ensures.each c.args.self.now
          (λ p. p.held) (λ k. (particle_at c.args.self.now k).held) (λ k. refl);
      filled = c.filled.ensures;
    }
