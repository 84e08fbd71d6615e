use Rattle.std.proofs.Common.{◌≤◌, arith, ap, length}
use Rattle.pbd_world.specs.declared.parts.Parts.{Parts}
use Rattle.pbd_obj.proofs.AddLemmas.{valid_few}
use Rattle.pbd_run.proofs.thirds.count.Goals as goal

scenes_few : (c : goal.After-len) → c.len.result ≤ 65536
scenes_few c = omega (
  arith,
  (valid_few c.args.scene.now c.parts.ensures.valid).0,
  c.len.ensures,
  ap (λ (p : Parts). length p.particles) c.parts.ensures.parts,
)

pub overflow_cast-result : goal.overflow_cast-result
overflow_cast-result c = omega (arith, scenes_few c)

pub returns-clause-most : goal.returns-clause-most
returns-clause-most c = omega (arith, scenes_few c)
