use Rattle.pbd_laws.proofs.GoingBack.{game-world, games-alike}
use Rattle.pbd_laws.proofs.rollback.late_inputs_come_to_the_same_world.Goals as goal

pub returns : goal.returns
returns c = record { world = game-world; alike = games-alike }
