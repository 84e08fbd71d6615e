use Rattle.std.proofs.Common.{◌<◌, ap, arith, rules}
use Rattle.pbd_world.specs.declared.bond.Bond.{Bond}
use Rattle.pbd_pair.proofs.Filling.{filled_none, filled_more}
use Rattle.pbd_pair.proofs.chunk.Columns.take_ends.Goals as goal

pub loop-j-init : goal.loop-j-init
loop-j-init c = record { first = filled_none (search rules); second = filled_none (search rules) }

pub loop-j-preserved : goal.loop-j-preserved
loop-j-preserved c =
    let inv = c.loop-j.invariant in
    let e = c.get-bond.ensures in
    let room : c.loop-j.j < 128 = omega (arith, c.requires.few) in
    record {
      first = filled_more _ room (ap (λ (b : Bond). b.a) e) inv.first;
      second = filled_more _ room (ap (λ (b : Bond). b.b) e) inv.second;
    }

pub returns : goal.returns
returns c =
    let inv = c.loop-j.invariant in
    record {
      first_long = inv.first.whole;
      second_long = inv.second.whole;
      first = λ j p. inv.first.below j (omega arith);
      second = λ j p. inv.second.below j (omega arith);
    }
