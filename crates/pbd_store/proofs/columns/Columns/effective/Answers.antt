use Rattle.std.proofs.Common.{arith, sym, ap, ◌∙◌, pos, ℕ, rules, w32, FitsSigned}
use Rattle.std.proofs.lemmas.Int.{to_z-of_z}
use Rattle.pbd_world.specs.declared.parts.Particle.{Particle}
use Rattle.pbd_world.specs.Particles.{effective_weight}
use Rattle.pbd_store.proofs.Listing.{count_is, row_is, any_default}
use Rattle.pbd_store.proofs.columns.Columns.effective.Goals as goal

pub index-requires : goal.index-requires
index-requires g c = omega (arith, c.requires, count_is c.self.invariant.padded c.self.view_is, c.self.invariant.long)

pub returns : goal.returns
returns g c =
    let read = c.index.ensures ∙ any_default c.self.inside.effective.items c.args.i c.index.result.now 0
    (omega (arith, c.requires, count_is c.self.invariant.padded c.self.view_is, c.self.invariant.long)) in
    let f : FitsSigned w32 c.from.result = search rules in
    simp to_z-of_z (c.from.ensures ∙ ap (λ (w : ℕ). pos w) (read ∙ c.self.invariant.weighs c.args.i
    ∙ ap (λ (p : Particle). effective_weight p) (sym (row_is c.self.invariant.padded c.self.view_is c.args.i))))
