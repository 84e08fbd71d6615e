use Rattle.std.proofs.Common.{arith, sym}
use Rattle.pbd_scene.proofs.Views.{three_items, three_of_other}
use Rattle.pbd_scene.proofs.vectors.three_of.Goals as goal

pub returns-in_default : goal.returns-in_default
returns-in_default c = sym (three_of_other c.args.items.now (λ same. omega (arith, same, c.in_default.len_below)))

pub returns-in_default-2 : goal.returns-in_default-2
returns-in_default-2 c = sym (three_of_other c.args.items.now (λ same. omega (arith, same, c.in_default.len_at_least)))

pub returns-in-len3 : goal.returns-in-len3
returns-in-len3 c = rw (three_items c.args.items.now c.x-item.result c.y-item.result c.z-item.result
    (omega (arith, c.in-len3.len_at_least, c.in-len3.len_below)) c.x-item.is c.y-item.is c.z-item.is) c.axes_of.ensures
