use Rattle.pbd_outcome.proofs.ReplayedRecords.{replayed_alike}
use Rattle.pbd_outcome.proofs.laws.a_recorded_log_replays_alike.Goals as goal

pub returns : goal.returns
returns c = λ width input script parts has. replayed_alike c.recorded_sessions_replay_alike.ensures width input has.scene script has.tree
    parts has.short has.halves has.is_text has.is_tree has.accepted
