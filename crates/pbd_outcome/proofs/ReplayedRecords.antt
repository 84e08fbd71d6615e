-- What `record` writes, replayed, is what `simulate` writes.
use Rattle.std.proofs.Common.{◌≡◌, ◌∙◌, sym, ap, refl, ℕ, ◌+◌, ◌<◌, ◌≤◌, ◌^◌, true, List, [], ◌∷◌, length, Some, Ok, inl, inr, arith}
use Rattle.std.specs.Str.{is_utf8}
use Rattle.toml.specs.Data.{Members}
use Rattle.toml.specs.Parse.{parse_document}
use Rattle.pbd_world.specs.declared.command.Command.{Command}
use Rattle.pbd_world.specs.declared.command.Width.{Width}
use Rattle.pbd_world.specs.declared.parts.Parts.{Parts}
use Rattle.pbd_world.specs.Meaning.{after}
use Rattle.pbd_world.specs.Session.{last_world, refused_count, session_text}
use Rattle.pbd_world.specs.World.{World, opened}
use Rattle.pbd_world.proofs.OpenedLemmas.{opened-is_sound}
use Rattle.pbd_scene.specs.Scene.{scene_of}
use Rattle.pbd_scene.proofs.Validity.{scene_valid}
use Rattle.pbd_script.specs.Commands.{commands}
use Rattle.pbd_script.proofs.CommandLemmas.{commands_few}
use Rattle.pbd_log.specs.Logs.{Log, Spells}
use Rattle.pbd_log.proofs.Logs.{parts_spell}
use Rattle.pbd_session.specs.Recording.{entries_of, log_bytes}
use Rattle.pbd_session.specs.Replaying.{replayed}
use Rattle.pbd_session.specs.declared.ending.ReplayEnd.TheVariants as ends
use Rattle.pbd_outcome.specs.declared.job.Job.TheVariants as jobs
use Rattle.pbd_outcome.specs.Outcome.{IsOutcome, log_outcome, most, parts_in, range, record_outcome, recorded, replay_outcome, scene_in}
use Rattle.pbd_outcome.specs.Outcome.{session_outcome, simulated, tree_in}
use Rattle.pbd_outcome.specs.Split.{split}
use Rattle.pbd_outcome.proofs.EntryFits.{entries_are}
use Rattle.pbd_outcome.proofs.OutcomeLaws.{log_is, recorded_halves, settled_ok, simulated_halves, text_read}
use Rattle.pbd_outcome.proofs.ScriptFits.{script_fits}
use Rattle.pbd_outcome.proofs.ShortRecords.{halves_length, recorded_short}
use Rattle.pbd_session.proofs.Recorded.{as_many}

-- a part of an input can be counted
part_small : (n part : ℕ) → n ≤ most → part ≤ n + 2 → part < 2 ^ 32
unfolding most
part_small n part short few = omega (arith, short, few)

log_spells : (input scene script : List ℕ) (tree : Members) (parts : Parts) → length input ≤ most → split input ≡ Some (scene, script)
    → scene_of range tree ≡ Ok parts
    → (let entries = entries_of (opened parts) (commands script) in Spells (log_bytes range scene entries) 2 range scene entries)
unfolding log_bytes
log_spells input scene script tree parts short halves accepted =
    let size = halves_length input (scene, script) halves in
    let sound = opened-is_sound parts (scene_valid range tree parts refl accepted) in
    let count : length (entries_of (opened parts) (commands script))
    < 2 ^ 32 = part_small (length input) _ short (omega (arith, as_many (opened parts) (commands script), commands_few script, size)) in
    parts_spell range scene (entries_of (opened parts) (commands script)) refl
    (part_small (length input) (length scene) short (omega (arith, size)))
    (entries_are (opened parts) (commands script) sound (script_fits script)) (omega (arith, count))

-- the law of sessions: their entries, replayed from the first world, agree
abbrev pub ReplayAlike : Type 0
ReplayAlike = (w : World) (cs : List Command) → replayed w (entries_of w cs)
    ≡ record { text = session_text w cs; ended = ends.Done (refused_count w cs); world = last_world w cs }

pub replayed_alike : ReplayAlike → (width : Width) (input scene script : List ℕ) (tree : Members) (parts : Parts) → length input ≤ most
    → split input ≡ Some (scene, script) → is_utf8 scene ≡ true → parse_document scene ≡ Some tree → scene_of range tree ≡ Ok parts
    → IsOutcome (Some (jobs.Replay width)) (recorded input).text (simulated input)
replayed_alike alike width input scene script tree parts short halves is_text is_tree accepted =
    let w = opened parts in
    let cs = commands script in
    let entries = entries_of w cs in
    let log : Log = record { version = 2; limit = range; scene = scene; entries = entries } in
    let given : scene_in range scene ≡ Ok parts = text_read range scene is_text ∙ ap (tree_in range) is_tree ∙ ap parts_in accepted in
    let written : recorded input ≡ record_outcome scene w cs = recorded_halves input (scene, script) halves
    ∙ settled_ok (scene_in range scene) (λ p. record_outcome scene (opened p) cs) parts given in
    let session : simulated input ≡ session_outcome w cs = simulated_halves input (scene, script) halves
    ∙ settled_ok (scene_in range scene) (λ p. session_outcome (opened p) cs) parts given in
    let again : log_outcome log ≡ session_outcome w cs = log_is log
    ∙ settled_ok (scene_in range scene) (λ p. replay_outcome (replayed (opened p) entries)) parts given
    ∙ ap replay_outcome (alike w cs) in
    let spells : Spells (recorded input).text 2 range scene entries =
    rw written (log_spells input scene script tree parts short halves accepted) in
    inr (recorded_short input short, inl (log, spells, session ∙ sym again))
