use Rattle.pbd_session.proofs.Comparing.{alike}
use Rattle.pbd_session.proofs.laws.recorded_sessions_replay_alike.Goals as goal

pub returns : goal.returns
returns c = alike 1
