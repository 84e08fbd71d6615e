use Rattle.std.proofs.Common.{sym, arith}
use Rattle.pbd_grid.proofs.Counting.{round_none, round_added, round_small, in_few}
use Rattle.pbd_grid.proofs.Walking.{IsRound-none, round_fits, IsRound-more}
use Rattle.pbd_grid.proofs.lookup.Crowd.look_round.Goals as goal

pub loop-n-init : goal.loop-n-init
loop-n-init g c = record {
  kept = IsRound-none c.args.self.now.chains.now.chains c.args.self.now.places.now c.args.self.now.cells.side
      (g.F.PairFilter.test c.args.filter.now) c.args.i c.args.from c.args.found.now;
  looks = sym (round_none c.args.self.now.cells.count c.args.self.now.cells.side c.args.self.now.places.now c.args.i c.args.from);
}

pub look_up-looks-requires-clause-room : goal.look_up-looks-requires-clause-room
look_up-looks-requires-clause-room g c = round_fits c.args.self.now.chains.now.chains c.args.self.now.places.now c.args.self.now.cells.side
    (g.F.PairFilter.test c.args.filter.now) c.args.i c.args.from c.loop-n.invariant.kept c.loop-n-test.true c.requires.room
    c.part_of_block-cell.result c.part_of_block-cell.ensures.value

pub loop-n-preserved : goal.loop-n-preserved
loop-n-preserved g c = record {
  kept = IsRound-more c.args.self.now.chains.now.chains c.args.self.now.places.now c.args.self.now.cells.side
      (g.F.PairFilter.test c.args.filter.now) c.args.i c.args.from c.loop-n.invariant.kept c.look_up-looks.new.found
      c.part_of_block-cell.result c.part_of_block-cell.ensures.value c.look_up-looks.ensures.found;
  looks = round_added c.args.self.now.cells.count c.args.self.now.cells.side c.args.self.now.places.now c.args.i c.args.from c.loop-n.n
      c.loop-n.looks c.look_up-looks.result c.part_of_block-cell.result c.loop-n.invariant.looks c.part_of_block-cell.ensures.value
      c.look_up-looks.ensures.looks;
}

pub overflow_add-looks : goal.overflow_add-looks
overflow_add-looks g c = omega (
  arith,
  c.loop-n.invariant.looks,
  c.loop-n-test.true,
  c.requires.laid.few,
  round_small c.args.self.now.cells.count c.args.self.now.cells.side c.args.self.now.places.now c.args.i c.args.from c.requires.i c.loop-n.n
      (omega (arith, c.loop-n-test.true)),
  c.look_up-looks.ensures.looks,
  in_few c.args.self.now.cells.count c.args.self.now.cells.side c.args.self.now.places.now c.args.i c.part_of_block-cell.result c.requires.i,
)
