use Rattle.pbd_schedule.proofs.Mixing.{put_moves, sound_shift}
use Rattle.pbd_schedule.proofs.mix.Mix.write_second.Goals as goal

pub returns-in-Moves-clause-moved : goal.returns-in-Moves-clause-moved
returns-in-Moves-clause-moved g c =
    put_moves c.args.self.now.store.now c.put.new.self c.put.ensures.particles c.put.ensures.limit c.put.ensures.copies
    c.requires.bond.second c.requires.inside (sound_shift c.args.self.now.store.now.limit c.in-Moves.is c.requires.sound).second
