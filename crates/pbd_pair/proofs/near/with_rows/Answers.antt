use Rattle.pbd_num.proofs.Ends.{same_axes}
use Rattle.pbd_pair.proofs.Summing.{axis_added}
use Rattle.pbd_pair.proofs.near.with_rows.Goals as goal

pub returns : goal.returns
returns c =
    let s = c.args.sum in
    let b = c.args.back in
    let f = c.args.forth in
    let r = c.requires in
    same_axes _ _ (axis_added s.x b.x f.x r.sum.x r.back.x r.forth.x c.with_axis-x.ensures)
    (axis_added s.y b.y f.y r.sum.y r.back.y r.forth.y c.with_axis-y.ensures)
    (axis_added s.z b.z f.z r.sum.z r.back.z r.forth.z c.with_axis-z.ensures)
