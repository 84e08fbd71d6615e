-- What a session keeps of a command is an entry in the log's grammar.
use Rattle.std.proofs.Common.{◌≡◌, sym, subst, refl, ℕ, ◌⊎◌, inl, inr, false, eqb, List, [], ◌∷◌, map, None, Result, Ok, Err}
use Rattle.std.specs.List.{AllByRecursion}
use Rattle.pbd_world.specs.declared.command.Command.{Command}
use Rattle.pbd_world.specs.declared.command.Command.TheVariants.{Step}
use Rattle.pbd_world.specs.declared.command.Refusal.{Refusal}
use Rattle.pbd_world.specs.declared.command.Refusal.TheVariants as refusals
use Rattle.pbd_world.specs.declared.command.Reply.{Reply}
use Rattle.pbd_world.specs.declared.command.Reply.TheVariants as replies
use Rattle.pbd_world.specs.World.{World}
use Rattle.pbd_world.specs.Meaning.{outcome, done_or_refused, meaning, after, reply}
use Rattle.pbd_world.specs.Replay.{LogEntry, kept_sums, entry, logged}
use Rattle.pbd_log.specs.declared.entry.Entry.{Entry}
use Rattle.pbd_log.specs.Entries.{refusal_answer, answer_of, has_sums, StandExactly, IsGrammatical, entry_of}
use Rattle.pbd_log.proofs.Answers.{answer_is}

-- a refusal's number isn't 0
some_number : (r : Refusal) → eqb (refusal_answer r).number 0 ≡ false
some_number (refusals.TooManyContacts step) = refl
some_number r = refl

step_stands : (v w : World) (n : ℕ) (r : Result World Refusal)
    → StandExactly (has_sums (Step n) (answer_of (done_or_refused w replies.Done r).1).number) (kept_sums v (Step n) (done_or_refused w replies.Done r).1)
step_stands v w n (Ok x) = refl
step_stands v w n (Err refusal) = some_number refusal

steps_stand : (w : World) (n : ℕ)
    → StandExactly (has_sums (Step n) (answer_of (reply w (Step n))).number) (kept_sums (after w (Step n)) (Step n) (reply w (Step n)))
unfolding meaning
steps_stand w n = step_stands (after w (Step n)) w n (outcome w (Step n))

-- no sums are kept of a command, whatever is answered
pub record HasNoSums (c : Command) : Type 0 where
  pub stand : (number : ℕ) → has_sums c number ≡ false
  pub kept : (w : World) (r : Reply) → kept_sums w c r ≡ None

pub steps_or_not : (c : Command) → ((n : ℕ) × (c ≡ Step n)) ⊎ HasNoSums c
steps_or_not (Step n) = inl (n, refl)
steps_or_not c = inr (record { stand = λ number. refl; kept = λ w r. refl })

stands : (w : World) (c : Command) → StandExactly (has_sums c (answer_of (reply w c)).number) (kept_sums (after w c) c (reply w c))
stands w c = elim (steps_or_not c) [
  | inl steps ↦ subst (λ d. StandExactly (has_sums d (answer_of (reply w d)).number) (kept_sums (after w d) d (reply w d)))
      (sym steps.1) (steps_stand w steps.0)
  | inr none ↦ rw (none.stand (answer_of (reply w c)).number, none.kept (after w c) (reply w c)) refl
]

pub kept_is : (w : World) (command : Command) → IsGrammatical (entry_of (entry w command))
kept_is w command = record { answer = answer_is (reply w command); sums = stands w command }

pub logged_are : (w : World) (commands : List Command) → AllByRecursion IsGrammatical
    (map {A = LogEntry} {B = Entry} entry_of (logged w commands))
logged_are w [] = tt
logged_are w (command ∷ commands) = (kept_is w command, logged_are (after w command) commands)
