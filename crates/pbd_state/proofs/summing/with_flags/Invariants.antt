use Rattle.std.proofs.Common.{◌≡◌, drop, map}
use Rattle.pbd_state.specs.Checksum.{live_word, with_words}
use Rattle.pbd_state.proofs.summing.with_flags.Given as goal

-- the flags so far, and those that are left, make the whole
abbrev pub invariant-loop-link : goal.invariant-loop-link
invariant-loop-link l = with_words l.folded (map live_word (drop l.link-index l.links)) ≡ with_words l.sum (map live_word l.links)
