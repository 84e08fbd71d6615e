use Rattle.std.proofs.Common.{◌∙◌, sym, arith, ◌+◌, drop}
use Rattle.pbd_track.proofs.Following.{before_next, from_next, left_over, none_left}
use Rattle.pbd_track.proofs.place_after.Goals as goal

pub returns-then-t-key : goal.returns-then-t-key
returns-then-t-key c =
    c.place_between.ensures
    ∙ sym (before_next c.loop-key.from _ (drop (c.loop-key.key-index + 1) c.args.later.now) c.args.t c.if-t-key.true)
    ∙ sym (left_over c.loop-key.from c.args.later.now c.loop-key.key-index c.args.t _ c.loop-key-test.true)
    ∙ c.loop-key.invariant.same

pub loop-key-preserved : goal.loop-key-preserved
loop-key-preserved c = record {
  same = sym (from_next c.loop-key.from _ (drop (c.loop-key.key-index + 1) c.args.later.now) c.args.t c.if-t-key.false)
      ∙ sym (left_over c.loop-key.from c.args.later.now c.loop-key.key-index c.args.t _ c.loop-key-test.true)
      ∙ c.loop-key.invariant.same;
  key = c.requires.later c.loop-key.key-index _ c.loop-key-test.true;
  after = c.if-t-key.false;
}

pub returns : goal.returns
returns c = sym (none_left c.loop-key.from c.args.later.now c.loop-key.key-index c.args.t (omega arith)) ∙ c.loop-key.invariant.same
