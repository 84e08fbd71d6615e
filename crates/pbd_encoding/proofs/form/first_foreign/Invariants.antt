use Rattle.std.proofs.Common.{◌≡◌, drop}
use Rattle.pbd_sound.specs.Soundness.{first_where}
use Rattle.pbd_encoding.specs.Form.{is_foreign}
use Rattle.pbd_encoding.proofs.form.first_foreign.Given as goal

-- no byte so far is foreign
abbrev pub invariant-loop-k : goal.invariant-loop-k
invariant-loop-k l =
    first_where l.k (is_foreign l.header l.counts.particles l.counts.links) (drop l.k l.bytes)
    ≡ first_where 0 (is_foreign l.header l.counts.particles l.counts.links) l.bytes
