use Rattle.std.proofs.Common.{arith, rules, w32, FitsSigned}
use Rattle.std.proofs.lemmas.Bool.{false≢true}
use Rattle.pbd_pair.proofs.WideRows.{no_flag, tried_more, unflagged_more}
use Rattle.pbd_pair.proofs.mend.mend.Goals as goal

pub loop-j-init : goal.loop-j-init
loop-j-init c = record { tried = c.requires.tried; right = λ i h. absurd (omega (arith, h)) }

pub loop-j-preserved : goal.loop-j-preserved
loop-j-preserved c =
    let row = c.mended-row.result in
    let tried = c.loop-j.invariant.tried in
    let fits : FitsSigned w32 row.flag = search rules in
    record {
      tried = tried_more c.loop-j.j row tried (omega arith) c.mended-row.ensures;
      right = unflagged_more c.loop-j.rows c.loop-j.j row (omega (arith, tried.long)) (no_flag row.flag fits c.if-flagged.false)
          c.loop-j.invariant.right;
    }

pub returns-then-flagged : goal.returns-then-flagged
returns-then-flagged c = record {
  tried = tried_more c.loop-j.j c.mended-row.result c.loop-j.invariant.tried (omega arith) c.mended-row.ensures;
  all = λ right. absurd (false≢true right);
}

pub returns : goal.returns
returns c = record { tried = c.loop-j.invariant.tried; all = λ right j p. c.loop-j.invariant.right j (omega arith) }
