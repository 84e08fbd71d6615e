use Rattle.std.proofs.Common.{◌∙◌, sym, ap, arith, List, get_or, slice_set}
use Rattle.pbd_obj.specs.declared.triangles.Triangle.{Triangle}
use Rattle.pbd_cloth.proofs.Writing.{over_end, over_next, over_none}
use Rattle.lakmozet_c.proofs.drawing.write_over.Goals as goal

pub loop-i-init : goal.loop-i-init
loop-i-init c = sym (over_none c.args.into.now)

abbrev no_triangle : Triangle
no_triangle = record { a = 0; b = 0; c = 0 }

pub loop-i-preserved : goal.loop-i-preserved
loop-i-preserved c =
    ap (λ (ts : List Triangle). slice_set ts c.loop-i.i (get_or c.args.triangles.now c.loop-i.i no_triangle)) c.loop-i.invariant
    ∙ over_next {T = Triangle} c.args.into.now c.args.triangles.now c.loop-i.i no_triangle (omega arith) (omega arith)

pub returns : goal.returns
returns c = c.loop-i.invariant ∙ over_end c.args.into.now c.args.triangles.now c.loop-i.i (omega arith)
