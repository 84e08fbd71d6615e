use Rattle.std.proofs.Common.{rules, sym, ap, ◌∙◌, arith, subst, length, ◌≤◌, List}
use Rattle.pbd_world.specs.declared.parts.Link.{Link}
use Rattle.pbd_tear.specs.Tearing.{numbers_with_tear_length}
use Rattle.pbd_step.specs.States.{HaveSpace}
use Rattle.pbd_step.proofs.Keeping.{valid_fit}
use Rattle.pbd_step.proofs.open.open_coloured.Goals as goal

pub overflow_cast-particles : goal.overflow_cast-particles
overflow_cast-particles c =
    let few : c.len-particles.result ≤ 65536 = omega (arith, c.len-particles.ensures, (valid_fit c.args.parts.now c.requires).particles) in
    search rules

pub open_scratch-requires-clause-particles : goal.open_scratch-requires-clause-particles
open_scratch-requires-clause-particles c = omega (arith, c.len-particles.ensures, (valid_fit c.args.parts.now c.requires).particles)

pub open_scratch-requires-clause-links : goal.open_scratch-requires-clause-links
open_scratch-requires-clause-links c = subst (λ (ls : List Link). length ls ≤ 524288) (sym c.as_slice.ensures)
    (valid_fit c.args.parts.now c.requires).links

pub returns-in-Ok-clause-space : goal.returns-in-Ok-clause-space
returns-in-Ok-clause-space c =
    let many = ap (λ (ls : List Link). length ls) c.as_slice.ensures in
    coe 0 1 (i. HaveSpace (c.len-particles.ensures i) (many i) c.in-Ok.scratch) c.in-Ok.ensures.space

pub returns-in-Ok-clause-unused : goal.returns-in-Ok-clause-unused
returns-in-Ok-clause-unused c = record {
  numbers = c.in-Ok.ensures.unused.numbers ∙ ap numbers_with_tear_length c.as_slice.ensures;
  unlaid = c.in-Ok.ensures.unused.unlaid;
}
