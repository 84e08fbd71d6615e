use Rattle.std.proofs.Common.{sym, subst, List, length, ◌≤◌}
use Rattle.pbd_world.specs.declared.parts.Link.{Link}
use Rattle.pbd_step.specs.States.{world_of}
use Rattle.pbd_step.proofs.Keeping.{formed_fit}
use Rattle.pbd_step.proofs.snapshot.Snapshot.links.Goals as goal

pub returns-clause-size : goal.returns-clause-size
returns-clause-size g c = subst (λ (ls : List Link). length ls ≤ 524288) (sym c.deref.ensures.value)
    (formed_fit (world_of c.self.inside.setting c.self.inside.state) c.self.invariant.sound.well_formed).links
