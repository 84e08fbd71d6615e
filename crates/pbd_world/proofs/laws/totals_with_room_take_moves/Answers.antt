use Rattle.pbd_world.proofs.Rooms.{move_fits, room_left}
use Rattle.pbd_world.proofs.laws.totals_with_room_take_moves.Goals as goal

pub returns-clause-fits : goal.returns-clause-fits
returns-clause-fits c = move_fits

pub returns-clause-left : goal.returns-clause-left
returns-clause-left c = room_left
