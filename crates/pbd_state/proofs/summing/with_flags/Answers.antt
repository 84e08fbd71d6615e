use Rattle.std.proofs.Common.{sym, ap, ◌∙◌, ℕ, ◌+◌, ◌≤◌, length, drop, map, arith}
use Rattle.pbd_state.specs.Checksum.{live_word, with_words}
use Rattle.pbd_state.proofs.Folding.{flag_next, flags_end}
use Rattle.pbd_state.proofs.summing.with_flags.Goals as goal

pub loop-link-preserved : goal.loop-link-preserved
loop-link-preserved c =
    let links = c.args.links.now in
    let i = c.loop-link.link-index in
    ap (λ (s : ℕ). with_words s (map live_word (drop (i + 1) links))) c.with_flag-folded.ensures
    ∙ sym (flag_next links i _ c.loop-link.folded c.loop-link-test.true) ∙ c.loop-link.invariant

pub returns : goal.returns
returns c =
    let all : length c.args.links.now ≤ c.loop-link.link-index = omega (arith, c.loop-link-test.false) in
    sym (flags_end c.args.links.now c.loop-link.link-index c.loop-link.folded all) ∙ c.loop-link.invariant
