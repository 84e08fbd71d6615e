use Rattle.std.proofs.Common.{◌∙◌, sym, arith, ◌^◌}
use Rattle.pbd_ledger.proofs.Adding.{part_more, part_all, sum_within}
use Rattle.pbd_ledger.proofs.momentum_of.Goals as goal

pub with_velocity-next-requires : goal.with_velocity-next-requires
with_velocity-next-requires c = sum_within (2 ^ 80) (omega (arith, c.loop-i-test.true, c.requires)) c.loop-i.invariant.size

pub loop-i-preserved : goal.loop-i-preserved
loop-i-preserved c = record {
  rest = part_more c.args.particles.now c.loop-i.i _ _ c.loop-i-test.true c.with_velocity-next.ensures.value ∙ c.loop-i.invariant.rest;
  size = sum_within _ (omega arith) (c.with_velocity-next.ensures.size _ c.loop-i.invariant.size);
}

pub returns : goal.returns
returns c = sym (part_all c.args.particles.now c.loop-i.i _ (omega (arith, c.loop-i-test.false))) ∙ c.loop-i.invariant.rest
