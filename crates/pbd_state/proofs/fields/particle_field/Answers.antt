use Rattle.std.proofs.Common.{sym, ap, ◌∙◌, ℕ, ◌+◌, ◌-◌, ◌*◌, arith}
use Rattle.pbd_world.specs.declared.parts.Particle.{Particle}
use Rattle.pbd_world.specs.Particles.{particle_at}
use Rattle.pbd_log.specs.Entries.{vector_bytes}
use Rattle.pbd_encoding.specs.Encoding.{flag_bytes}
use Rattle.pbd_state.proofs.Numbering.{is_at, is_before, is_held}
use Rattle.pbd_state.proofs.fields.particle_field.Goals as goal

pub returns-then-k-n-clause-bytes : goal.returns-then-k-n-clause-bytes
returns-then-k-n-clause-bytes g c = λ scene.
    c.vector.ensures ∙ ap (λ (p : Particle). vector_bytes p.at) c.particle.ensures.value
    ∙ sym (is_at scene c.args.shown.now c.args.k c.requires.low (omega (arith, c.if-k-n.true, c.particles-n.ensures.value)))

pub returns-then-k-n-2-clause-bytes : goal.returns-then-k-n-2-clause-bytes
returns-then-k-n-2-clause-bytes g c = λ scene.
    c.vector-then-k-n-2.ensures ∙ ap (λ (p : Particle). vector_bytes p.before) c.particle-then-k-n-2.ensures.value
    ∙ ap (λ (n : ℕ). vector_bytes (particle_at c.args.shown.now.particles (c.args.k - (n + 1))).before) c.particles-n.ensures.value
    ∙ sym (is_before scene c.args.shown.now c.args.k
    (omega (arith, c.if-k-n.false, c.particles-n.ensures.value)) (omega (arith, c.if-k-n-2.true, c.particles-n.ensures.value)))

pub returns-clause-bytes : goal.returns-clause-bytes
returns-clause-bytes g c = λ scene.
    c.flag.ensures ∙ ap (λ (p : Particle). flag_bytes p.held) c.particle-2.ensures.value
    ∙ ap (λ (n : ℕ). flag_bytes (particle_at c.args.shown.now.particles (c.args.k - (2 * n + 1))).held) c.particles-n.ensures.value
    ∙ sym (is_held scene c.args.shown.now c.args.k (omega (arith, c.if-k-n-2.false, c.particles-n.ensures.value)) c.requires.high)
