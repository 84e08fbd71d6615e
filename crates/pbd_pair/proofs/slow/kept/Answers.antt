use Rattle.std.proofs.Common.{◌≡◌, pos, int_lt, false, cond, Bool, ap, sym, ◌∙◌, w64, FitsSigned}
use Rattle.std.proofs.lemmas.Int.{to_z-of_z}
use Rattle.pbd_num.specs.Rows.{vector_of, no_row}
use Rattle.pbd_num.proofs.Tests.{less}
use Rattle.pbd_pair.proofs.NearBonds.{kept_some}
use Rattle.pbd_pair.proofs.slow.kept.Goals as goal

pub returns-then-free : goal.returns-then-free
returns-then-free c =
    let f : FitsSigned w64 c.args.weight = c.ranges.weight in
    let heavy = simp to_z-of_z at c.if-free.true in
    c.vector.ensures ∙ ap vector_of (sym (kept_some c.args.weight c.args.row (less _ _ heavy)))

pub returns-else-free : goal.returns-else-free
returns-else-free c =
    let f : FitsSigned w64 c.args.weight = c.ranges.weight in
    let e : int_lt (pos 0) c.args.weight ≡ false = simp to_z-of_z at c.if-free.false in
    ap (λ (b : Bool). vector_of (cond b c.args.row no_row)) (sym e)
