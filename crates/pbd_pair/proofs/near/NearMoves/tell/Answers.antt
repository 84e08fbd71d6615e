use Rattle.pbd_pair.proofs.Settled.{near_tried}
use Rattle.pbd_pair.proofs.near.NearMoves.tell.Goals as goal

pub tell_masked-requires-clause-near : goal.tell_masked-requires-clause-near
tell_masked-requires-clause-near c = c.try_short.ensures c.if-try_short.true

pub tell_masked-requires-then-try_rows-clause-near : goal.tell_masked-requires-then-try_rows-clause-near
tell_masked-requires-then-try_rows-clause-near c = near_tried c.try_rows.ensures.tried (c.try_rows.ensures.all c.if-try_rows.true)

pub sums_of-requires-clause-back : goal.sums_of-requires-clause-back
sums_of-requires-clause-back c = λ j p. ((c.try_uneven.ensures c.if-try_uneven.true).each j p).back_size

pub sums_of-requires-clause-forth : goal.sums_of-requires-clause-forth
sums_of-requires-clause-forth c = λ j p. ((c.try_uneven.ensures c.if-try_uneven.true).each j p).forth_size

pub returns-then-try_uneven : goal.returns-then-try_uneven
returns-then-try_uneven c = record {
  moved = c.try_uneven.ensures c.if-try_uneven.true;
  pins = c.sums_of.ensures.pins;
  own = c.sums_of.ensures.own;
  pins_size = c.sums_of.ensures.pins_size;
  own_size = c.sums_of.ensures.own_size;
}

pub returns : goal.returns
returns c = c.try_rows.ensures.tried
