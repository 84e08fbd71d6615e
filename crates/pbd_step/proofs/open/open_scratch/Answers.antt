use Rattle.std.proofs.Common.{sym, ap, ◌∙◌, subst, ℕ, List, Bool, length}
use Rattle.std.specs.Prelude.{IfOk}
use Rattle.std.proofs.lemmas.List.{length-replicate}
use Rattle.pbd_self.specs.Touching.{Found}
use Rattle.pbd_step.specs.States.{HaveSpace}
use Rattle.pbd_step.proofs.open.open_scratch.Goals as goal

pub with_room-requires-clause-touched : goal.with_room-requires-clause-touched
with_room-requires-clause-touched c = ap (λ (fs : List Bool). length fs) c.in-Ok.ensures ∙ length-replicate _ _
    ∙ sym (ap (λ (f : Found). f.particles) c.in_ok-found.ensures.empty)

pub returns-in-Ok-clause-space : goal.returns-in-Ok-clause-space
returns-in-Ok-clause-space c = subst (λ (n : ℕ). IfOk c.with_room.result (HaveSpace n (length c.args.links.now)))
    (ap (λ (f : Found). f.particles) c.in_ok-found.ensures.empty) c.with_room.ensures.space
