use Rattle.std.proofs.Common.{sym, ap, Bool, cond}
use Rattle.pbd_store.proofs.columns.effective_weight_of.Goals as goal

pub returns-then-particle : goal.returns-then-particle
returns-then-particle c = sym (ap (λ (held : Bool). cond held 0 c.args.particle.weight) c.if-particle.true)

pub returns-else-particle : goal.returns-else-particle
returns-else-particle c = sym (ap (λ (held : Bool). cond held 0 c.args.particle.weight) c.if-particle.false)
