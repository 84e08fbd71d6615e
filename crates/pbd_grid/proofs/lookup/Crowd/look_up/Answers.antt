use Rattle.std.proofs.Common.{arith}
use Rattle.pbd_grid.proofs.Counting.{none_found, none_read, behind_found, behind_read}
use Rattle.pbd_grid.proofs.lookup.Crowd.look_up.Goals as goal

pub returns-in_default : goal.returns-in_default
returns-in_default g c = record {
  found = none_found c.requires.laid (g.F.PairFilter.test c.args.filter.now) c.args.i c.slot.result c.args.cell c.slot.ensures.value
      c.slot.ensures.below c.first.result c.first.ensures.value c.in_default.is c.args.found.now;
  looks = none_read c.requires.laid (g.F.PairFilter.test c.args.filter.now) c.args.i c.slot.result c.args.cell c.slot.ensures.value
      c.slot.ensures.below c.first.result c.first.ensures.value c.in_default.is;
}

pub returns-then-first-i-clause-found : goal.returns-then-first-i-clause-found
returns-then-first-i-clause-found g c = behind_found c.requires.laid (g.F.PairFilter.test c.args.filter.now) c.args.i c.slot.result
    c.args.cell c.slot.ensures.value c.slot.ensures.below c.first.result c.first.ensures.value c.in-Some.first c.in-Some.is
    (omega (arith, c.if-first-i.true)) c.args.found.now

pub returns-then-first-i-clause-looks : goal.returns-then-first-i-clause-looks
returns-then-first-i-clause-looks g c = behind_read c.requires.laid (g.F.PairFilter.test c.args.filter.now) c.args.i c.slot.result
    c.args.cell c.slot.ensures.value c.slot.ensures.below c.first.result c.first.ensures.value c.in-Some.first c.in-Some.is
    (omega (arith, c.if-first-i.true))
