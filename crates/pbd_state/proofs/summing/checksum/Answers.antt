use Rattle.std.proofs.Common.{ap, ◌∙◌, ℕ, List, map}
use Rattle.pbd_num.specs.declared.Vec3.{Vec3}
use Rattle.pbd_world.specs.declared.parts.Link.{Link}
use Rattle.pbd_world.specs.Ledger.{Ledger}
use Rattle.pbd_state.specs.Checksum.{live_word, totals_words, vector_words, with_word, with_words}
use Rattle.pbd_state.proofs.Folding.{world_summed}
use Rattle.pbd_state.proofs.summing.checksum.Goals as goal

pub returns-clause-value : goal.returns-clause-value
returns-clause-value g c =
    let particles = c.of_particles-sum in
    let flags = c.with_flags-sum in
    let steps = c.with_word-sum in
    let gravity = c.with_vector-sum in
    let contacts = c.with_word-sum-2 in
    world_summed c.args.shown.now particles.result flags.result steps.result gravity.result contacts.result c.with_totals.result
    particles.ensures.value
    (flags.ensures ∙ ap (λ (ls : List Link). with_words particles.result (map live_word ls)) c.links.ensures.value)
    (steps.ensures ∙ ap (λ (n : ℕ). with_word flags.result n) c.step_count.ensures.value)
    (gravity.ensures ∙ ap (λ (v : Vec3). with_words steps.result (vector_words v)) c.gravity.ensures)
    (contacts.ensures ∙ ap (λ (n : ℕ). with_word gravity.result n) (c.from.ensures ∙ c.contacts.ensures.value))
    (c.with_totals.ensures ∙ ap (λ (t : Ledger). with_words contacts.result (totals_words t)) c.totals.ensures.value)
