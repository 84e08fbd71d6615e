use Rattle.std.proofs.Common.{arith, sym}
use Rattle.pbd_scene.proofs.Views.{four_items, four_of_other}
use Rattle.pbd_scene.proofs.arrays.four_of.Goals as goal

pub returns-in_default : goal.returns-in_default
returns-in_default c = sym (four_of_other c.args.items.now (λ same. omega (arith, same, c.in_default.len_below)))

pub returns-in_default-2 : goal.returns-in_default-2
returns-in_default-2 c = sym (four_of_other c.args.items.now (λ same. omega (arith, same, c.in_default.len_at_least)))

pub returns-in-len4 : goal.returns-in-len4
returns-in-len4 c = rw (four_items c.args.items.now c.n-item.result c.x-item.result c.y-item.result c.z-item.result
    (omega (arith, c.in-len4.len_at_least, c.in-len4.len_below)) c.n-item.is c.x-item.is c.y-item.is c.z-item.is) c.row_of.ensures
