use Rattle.std.proofs.Common.{ap, arith}
use Rattle.pbd_world.proofs.Rooms.{room_at}
use Rattle.pbd_schedule.specs.Stages.{bookings}
use Rattle.pbd_schedule.proofs.Mixing.{sound_set}
use Rattle.pbd_schedule.proofs.mix.Mix.happen.Goals as goal

pub returns-in-Read-clause-sound : goal.returns-in-Read-clause-sound
returns-in-Read-clause-sound g c =
    let mix = c.args.self.now in
    sound_set mix.store.now.limit mix.notes.now c.position-k.result c.read_bond.result c.requires.ready.sound c.read_bond.ensures.sound

pub returns-in-WriteB-clause-room : goal.returns-in-WriteB-clause-room
returns-in-WriteB-clause-room g c = λ n h. room_at _ (omega (arith, ap bookings c.in-WriteB.is)) (c.write_second.ensures.room n h)
