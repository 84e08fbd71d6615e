use Rattle.pbd_pair.proofs.Summing.{axis_moved, with_moved}
use Rattle.pbd_pair.proofs.sums.with_rows_if.Goals as goal

pub returns : goal.returns
returns c =
    let a = c.args in
    let r = c.requires in
    let x = c.moved_if-x.ensures in
    let y = c.moved_if-y.ensures in
    let z = c.moved_if-z.ensures in
    with_moved a.counts _ a.sum a.back a.forth (axis_moved a.counts a.sum.x a.back.x a.forth.x r.sum.x r.back.x r.forth.x x.value x.size)
    (axis_moved a.counts a.sum.y a.back.y a.forth.y r.sum.y r.back.y r.forth.y y.value y.size)
    (axis_moved a.counts a.sum.z a.back.z a.forth.z r.sum.z r.back.z r.forth.z z.value z.size)
