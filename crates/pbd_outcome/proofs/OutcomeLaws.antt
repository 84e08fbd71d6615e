-- What each form comes to, by what was read.
use Rattle.std.proofs.Common.{◌≡◌, refl, ℕ, true, List, Some, Result, Ok}
use Rattle.std.specs.Prelude.{ℤ}
use Rattle.std.specs.Str.{is_utf8}
use Rattle.toml.specs.Parse.{parse_document}
use Rattle.pbd_world.specs.declared.parts.Parts.{Parts}
use Rattle.pbd_world.specs.Outcomes.{◌>>=◌}
use Rattle.pbd_world.specs.World.{opened}
use Rattle.pbd_script.specs.Commands.{commands}
use Rattle.pbd_log.specs.Logs.{Log}
use Rattle.pbd_session.specs.Replaying.{replayed}
use Rattle.pbd_outcome.specs.Split.{split}
use Rattle.pbd_outcome.specs.Outcome.{Outcome, log_outcome, range, record_outcome, recorded, replay_outcome, scene_in, session_outcome}
use Rattle.pbd_outcome.specs.Outcome.{settled, simulated, tree_in}

pub simulated_halves : (input : List ℕ) (h : List ℕ × List ℕ) → split input ≡ Some h
    → simulated input ≡ settled (scene_in range h.0 >>= λ parts. Ok (session_outcome (opened parts) (commands h.1)))
unfolding simulated
simulated_halves input h e = rw e refl

pub recorded_halves : (input : List ℕ) (h : List ℕ × List ℕ) → split input ≡ Some h
    → recorded input ≡ settled (scene_in range h.0 >>= λ parts. Ok (record_outcome h.0 (opened parts) (commands h.1)))
unfolding recorded
recorded_halves input h e = rw e refl

pub log_is : (log : Log) → log_outcome log ≡ settled (scene_in log.limit log.scene >>= λ parts.
    Ok (replay_outcome (replayed (opened parts) log.entries)))
unfolding log_outcome
log_is log = refl

pub settled_ok : (r : Result Parts Outcome) (f : Parts → Outcome) (parts : Parts) → r ≡ Ok parts → settled (r >>= λ p. Ok (f p)) ≡ f parts
settled_ok r f parts e = rw e refl

pub text_read : (limit : ℤ) (bytes : List ℕ) → is_utf8 bytes ≡ true → scene_in limit bytes ≡ tree_in limit (parse_document bytes)
unfolding scene_in
text_read limit bytes e = rw e refl
