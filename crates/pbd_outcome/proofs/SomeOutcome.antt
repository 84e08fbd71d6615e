-- A job and an input have an outcome.
use Rattle.std.proofs.Common.{◌≡◌, refl, ℕ, ◌+◌, ◌<◌, ◌≤◌, ◌^◌, List, length, drop, Option, Some, None, inl, inr, arith}
use Rattle.std.proofs.lemmas.Bool.{cases_lt}
use Rattle.pbd_log.specs.Laws.{IsBytes}
use Rattle.pbd_outcome.specs.declared.job.Job.{Job}
use Rattle.pbd_outcome.specs.declared.job.Job.TheVariants.{Simulate, Record, Replay, Large, Scramble, Obj, Marks, Host}
use Rattle.pbd_outcome.specs.declared.status.Status.TheVariants.{InputTooLong, Usage}
use Rattle.pbd_outcome.specs.Outcome.{IsOutcome, IsReplayed, IsWithin, Outcome, hosted, large_outcome, log_outcome, log_refused, meshed}
use Rattle.pbd_outcome.specs.Outcome.{most, most_of_log, recorded, simulated, simulated_with_marks, stops}
use Rattle.pbd_outcome.proofs.EachLog.{LogOrFault, each_log}

some_within : (limit : ℕ) (IsOne : Outcome → Type 0) (input : List ℕ) → (length input ≤ limit → (o : Outcome) × IsOne o)
    → (o : Outcome) × IsWithin limit IsOne input o
some_within limit IsOne input one =
    elim (cases_lt limit (length input)) [
      | inl long ↦ (stops InputTooLong (drop (limit + 1) input), inl (long, refl))
      | inr short ↦ let its = one short in (its.0, inr (short, its.1))
    ]

some_replay : (input : List ℕ) → LogOrFault input → (o : Outcome) × IsReplayed input o
some_replay input (inl log) = (log_outcome log.0, inl (log.0, log.1, refl))
some_replay input (inr fault) = (log_refused fault.0, inr (fault.0, fault.1, refl))

log_small : (n : ℕ) → n ≤ most_of_log → n < 2 ^ 64
unfolding most_of_log
log_small n short = omega (arith, short)

pub some_outcome : (job : Option Job) (input : List ℕ) → IsBytes input → (o : Outcome) × IsOutcome job input o
some_outcome None input fits = (stops Usage input, refl)
some_outcome (Some (Simulate w)) input fits = some_within most (λ o. o ≡ simulated input) input (λ short. (simulated input, refl))
some_outcome (Some (Record w)) input fits = some_within most (λ o. o ≡ recorded input) input (λ short. (recorded input, refl))
some_outcome (Some (Replay w)) input fits = some_within most_of_log (IsReplayed input) input
    (λ short. some_replay input (each_log input fits (log_small (length input) short)))
some_outcome (Some (Large w number size)) input fits = (large_outcome number size input, refl)
some_outcome (Some (Scramble seed)) input fits = some_within most (λ o. o ≡ simulated input) input (λ short. (simulated input, refl))
some_outcome (Some (Obj w)) input fits = some_within most (λ o. o ≡ meshed input) input (λ short. (meshed input, refl))
some_outcome (Some (Marks w)) input fits = some_within most (λ o. o ≡ simulated_with_marks input) input
    (λ short. (simulated_with_marks input, refl))
some_outcome (Some (Host w)) input fits = some_within most (λ o. o ≡ hosted input) input (λ short. (hosted input, refl))
