use Rattle.std.proofs.Common.{arith, rules}
use Rattle.std.proofs.lemmas.Grind.{common_steps}
use Rattle.pbd_laws.proofs.OneBond.{one-held, equal-ends, stay-together}
use Rattle.pbd_laws.proofs.bonds.one_projection_comes_to_the_rest_length.Goals as goal

pub returns : goal.returns
returns c = record { one_held = one-held; equal = equal-ends; longer = first_of (search rules, grind (arith, common_steps)); together = stay-together }
