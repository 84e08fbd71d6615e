use Rattle.std.proofs.Common.{ap, ◌∙◌, arith, rules}
use Rattle.pbd_pair.specs.Chunks.{pull_by}
use Rattle.pbd_pair.proofs.Filling.{filled_none, filled_more}
use Rattle.pbd_pair.proofs.WideRows.{is_pull}
use Rattle.pbd_pair.proofs.wide.put_pulls.Goals as goal

pub loop-j-init : goal.loop-j-init
loop-j-init c = filled_none (search rules)

pub loop-j-preserved : goal.loop-j-preserved
loop-j-preserved c =
    let told = c.pull_of.ensures ∙ ap pull_by c.get.ensures in
    filled_more c.pull_of.result (omega (arith, c.requires.few))
    (is_pull told (c.requires.firm c.loop-j.j (omega arith))) c.loop-j.invariant

pub returns : goal.returns
returns c = record { each = λ j p. c.loop-j.invariant.below j (omega arith) }
