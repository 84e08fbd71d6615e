-- A job and an input have one outcome.
use Rattle.std.proofs.Common.{◌≡◌, ◌∙◌, sym, ap, ℕ, List, Option, Some, None, inl, inr, arith}
use Rattle.pbd_log.specs.Logs.{Log}
use Rattle.pbd_log.specs.Laws.{SameLog}
use Rattle.pbd_log.proofs.Logs.{one_reading_lem}
use Rattle.pbd_log.proofs.Faults.{one_fault_lem, fault_spells_nothing}
use Rattle.pbd_outcome.specs.declared.job.Job.{Job}
use Rattle.pbd_outcome.specs.declared.job.Job.TheVariants.{Simulate, Record, Replay, Large, Scramble, Obj, Marks, Host}
use Rattle.pbd_outcome.specs.Outcome.{IsOutcome, IsReplayed, IsWithin, Outcome, log_outcome, log_refused, meshed, most, most_of_log}
use Rattle.pbd_outcome.specs.Outcome.{recorded, simulated, simulated_with_marks, hosted}

same_log : (l m : Log) → SameLog l.version m.version l.limit m.limit l.scene m.scene l.entries m.entries → l ≡ m
same_log l m same = λ i. record {
  version = same.same_version i;
  limit = same.same_limit i;
  scene = same.same_scene i;
  entries = same.same_entries i;
}

one_replay : (input : List ℕ) (o p : Outcome) → IsReplayed input o → IsReplayed input p → o ≡ p
one_replay input o p (inl (l, spells, is)) (inl (m, spelt, was)) =
    is ∙ ap log_outcome (same_log l m (one_reading_lem input l.version m.version l.limit m.limit l.scene m.scene l.entries m.entries spells
    spelt)) ∙ sym was
one_replay input o p (inl (l, spells, is)) (inr (offset, fault, was)) =
    absurd (fault_spells_nothing input offset fault l.version l.limit l.scene l.entries spells)
one_replay input o p (inr (offset, fault, is)) (inl (m, spelt, was)) =
    absurd (fault_spells_nothing input offset fault m.version m.limit m.scene m.entries spelt)
one_replay input o p (inr (offset, fault, is)) (inr (place, other, was)) = is
    ∙ ap log_refused (one_fault_lem input offset place fault other) ∙ sym was

one_within : (limit : ℕ) (IsOne : Outcome → Type 0) (input : List ℕ) (o p : Outcome) → (IsOne o → IsOne p → o ≡ p)
    → IsWithin limit IsOne input o → IsWithin limit IsOne input p → o ≡ p
one_within limit IsOne input o p one (inl (long, is)) (inl (over, was)) = is ∙ sym was
one_within limit IsOne input o p one (inl (long, is)) (inr (short, was)) = absurd (omega (arith, long, short))
one_within limit IsOne input o p one (inr (short, is)) (inl (over, was)) = absurd (omega (arith, short, over))
one_within limit IsOne input o p one (inr (short, is)) (inr (within, was)) = one is was

pub one_outcome : (job : Option Job) (input : List ℕ) (o p : Outcome) → IsOutcome job input o → IsOutcome job input p → o ≡ p
one_outcome None input o p is was = is ∙ sym was
one_outcome (Some (Simulate w)) input o p is was = one_within most (λ o. o ≡ simulated input) input o p (λ e f. e ∙ sym f) is was
one_outcome (Some (Record w)) input o p is was = one_within most (λ o. o ≡ recorded input) input o p (λ e f. e ∙ sym f) is was
one_outcome (Some (Replay w)) input o p is was = one_within most_of_log (IsReplayed input) input o p (one_replay input o p) is was
one_outcome (Some (Large w number size)) input o p is was = is ∙ sym was
one_outcome (Some (Scramble seed)) input o p is was = one_within most (λ o. o ≡ simulated input) input o p (λ e f. e ∙ sym f) is was
one_outcome (Some (Obj w)) input o p is was = one_within most (λ o. o ≡ meshed input) input o p (λ e f. e ∙ sym f) is was
one_outcome (Some (Marks w)) input o p is was = one_within most (λ o. o ≡ simulated_with_marks input) input o p (λ e f. e ∙ sym f) is was
one_outcome (Some (Host w)) input o p is was = one_within most (λ o. o ≡ hosted input) input o p (λ e f. e ∙ sym f) is was
