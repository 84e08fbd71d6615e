use Rattle.std.proofs.Common.{ap, length, arith}
use Rattle.pbd_world.proofs.GreedyLemmas.{colour-is_greedy}
use Rattle.pbd_colour.proofs.KeptLemmas.{live_below}
use Rattle.pbd_colour.proofs.colouring.Colouring.colour.Goals as goal

pub returns-clause-within : goal.returns-clause-within
returns-clause-within c = rw c.as_slice.ensures (let w = colour-is_greedy c.self.inside.pairs.entries c.self.inside.live.entries c.args.i in
    let a = rw (← c.self.view_is) at c.requires in
    let l = live_below c.self.inside.live.entries c.args.i a in
    omega (arith, c.self.invariant.coloured.painted c.args.i (omega (arith, l, c.self.invariant.live_length)) a, w.within))

pub bounds-as_slice-i : goal.bounds-as_slice-i
bounds-as_slice-i c =
    let a = rw (← c.self.view_is) at c.requires in
    omega (
      arith,
      live_below c.self.inside.live.entries c.args.i a,
      c.self.invariant.live_length,
      c.self.invariant.colours_length,
      ap length c.as_slice.ensures,
    )
