use Rattle.pbd_host.proofs.ApartLaws.{text_apart, refused_apart, world_apart}
use Rattle.pbd_host.proofs.laws.hosted_sessions_are_apart.Goals as goal

pub returns : goal.returns
returns c = record { text = text_apart; refused = refused_apart; world = world_apart }
