-- The numbers of a sound world are in the range of their types.
use Rattle.std.proofs.Common.{◌^◌, arith}
use Rattle.pbd_world.specs.World.{World, IsSound}
use Rattle.pbd_step.proofs.Mild.{sound_mild}
use Rattle.pbd_step.proofs.SoundRoom.{sound_room}
use Rattle.pbd_encoding.specs.Laws.{NumbersFit}
use Rattle.pbd_encoding.proofs.Ranges.{vector_fits, sum_fits}

pub numbers_fit : (w : World) → IsSound w → NumbersFit w
numbers_fit w sound =
    let mild = sound_mild w sound in
    let room = sound_room w sound in
    record {
      steps = omega (arith, sound.steps);
      gravity = vector_fits w.gravity (2 ^ 29) (omega arith) mild.gravity;
      at = λ i lt. vector_fits _ (2 ^ 29) (omega arith) (mild.at i lt);
      before = λ i lt. vector_fits _ (2 ^ 29) (omega arith) (mild.before i lt);
      contacts = omega (arith, sound.contacts);
      totals = record {
        gravity = sum_fits w.totals.gravity room.gravity;
        damping = sum_fits w.totals.damping room.damping;
        link = sum_fits w.totals.link room.link;
        contact = sum_fits w.totals.contact room.contact;
        shape = sum_fits w.totals.shape room.shape;
        pin = sum_fits w.totals.pin room.pin;
      };
    }
