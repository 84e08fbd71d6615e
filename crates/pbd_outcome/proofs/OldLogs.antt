-- What a log of version 1 comes to.
use Rattle.std.proofs.Common.{◌≡◌, ◌∙◌, sym, ℕ, ◌≤◌, List, length, Some, Ok, inl, inr}
use Rattle.pbd_world.specs.declared.command.Width.{Width}
use Rattle.pbd_world.specs.declared.parts.Parts.{Parts}
use Rattle.pbd_world.specs.World.{opened}
use Rattle.pbd_log.specs.declared.entry.Entry.{Entry}
use Rattle.pbd_log.specs.Logs.{Log, Spells}
use Rattle.pbd_session.specs.Replaying.{replayed}
use Rattle.pbd_outcome.specs.declared.job.Job.TheVariants as jobs
use Rattle.pbd_outcome.specs.Outcome.{IsOutcome, log_outcome, most_of_log, old_limit, replay_outcome, scene_in}
use Rattle.pbd_outcome.proofs.OutcomeLaws.{log_is, settled_ok}
use Rattle.pbd_outcome.proofs.SceneLimits.{its_limit}

log_short : (n : ℕ) → n ≤ 134217728 → n ≤ most_of_log
unfolding most_of_log
log_short n short = short

pub old_replayed : (width : Width) (input scene : List ℕ) (entries : List Entry) (parts : Parts) → length input ≤ 134217728
    → Spells input 1 old_limit scene entries → scene_in old_limit scene ≡ Ok parts
    → IsOutcome (Some (jobs.Replay width)) input (replay_outcome (replayed (opened parts) entries))
old_replayed width input scene entries parts short spells accepted =
    let log : Log = record { version = 1; limit = old_limit; scene = scene; entries = entries } in
    let all : log_outcome log ≡ replay_outcome (replayed (opened parts) entries) = log_is log
    ∙ settled_ok (scene_in old_limit scene) (λ p. replay_outcome (replayed (opened p) entries)) parts accepted in
    inr (log_short (length input) short, inl (log, spells, sym all))

pub old_world : (scene : List ℕ) (parts : Parts) → scene_in old_limit scene ≡ Ok parts → (opened parts).limit ≡ old_limit
old_world scene parts accepted = its_limit old_limit scene parts accepted
