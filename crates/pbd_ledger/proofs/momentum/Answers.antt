use Rattle.std.proofs.Common.{◌∙◌, sym, ap, arith, ◌^◌}
use Rattle.pbd_world.specs.declared.parts.Particle.{Particle}
use Rattle.pbd_world.specs.Ledger.{sum_of}
use Rattle.pbd_ledger.proofs.Adding.{with_part, part_more, part_all, sum_within}
use Rattle.pbd_ledger.proofs.momentum.Goals as goal

pub with_velocity-next-requires : goal.with_velocity-next-requires
with_velocity-next-requires g c = sum_within (2 ^ 80) (omega (arith, c.len-i-end.ensures.size)) c.loop-i.invariant.size

pub loop-i-preserved : goal.loop-i-preserved
loop-i-preserved g c =
    let now = c.with_velocity-next.ensures.value ∙ ap (λ (p : Particle). with_part (sum_of c.loop-i.sum) p) c.at.ensures.value in
    record {
      rest = part_more c.args.store.now.particles c.loop-i.i _ _ (omega (arith, c.len-i-end.ensures.value)) now ∙ c.loop-i.invariant.rest;
      size = sum_within _ (omega arith) (c.with_velocity-next.ensures.size _ c.loop-i.invariant.size);
      cost = omega (arith, c.at.ensures.cost, c.loop-i.invariant.cost);
    }

pub returns : goal.returns
returns g c = record {
  value = sym (part_all c.args.store.now.particles c.loop-i.i _ (omega (arith, c.len-i-end.ensures.value))) ∙ c.loop-i.invariant.rest;
  cost = omega (arith, c.loop-i.invariant.cost, c.len-i-end.ensures.value);
}
