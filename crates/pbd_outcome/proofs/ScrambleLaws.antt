-- `scramble` comes to what `simulate` comes to.
use Rattle.std.proofs.Common.{ℕ, List, Option, Some, subst}
use Rattle.pbd_world.specs.declared.command.Width.{Width}
use Rattle.pbd_outcome.specs.declared.job.Job.{Job}
use Rattle.pbd_outcome.specs.declared.job.Job.TheVariants.{Simulate, Scramble}
use Rattle.pbd_outcome.specs.Clauses.{Run, ScramblesAlike, Settles}
use Rattle.pbd_outcome.specs.Outcome.{IsOutcome, Outcome}

pub scrambled_outcome : (number : ℕ) (width : Width) (input : List ℕ) (o : Outcome) → IsOutcome (Some (Scramble number)) input o
    → IsOutcome (Some (Simulate width)) input o
scrambled_outcome number width input o is = is

settled_alike : (number : ℕ) (width : Width) (run : Run) → Settles (record run { job = Some (Scramble number) })
    → Settles (record run { job = Some (Simulate width) })
settled_alike number width run settles not_read not_written not_out input given =
    let goes = settles not_read not_written not_out input given in
    record { outcome = goes.outcome; its = goes.its; ends = goes.ends; text = goes.text; rest = goes.rest }

pub scrambles_alike : (run : Run) → Settles run → ScramblesAlike run
scrambles_alike run settles number width is = settled_alike number width run
    (subst (λ (j : Option Job). Settles (record run { job = j })) is settles)
