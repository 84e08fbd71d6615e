use Rattle.std.proofs.Common.{◌∙◌, ap, List, length, w32}
use Rattle.std.proofs.lemmas.Int.{to_z-of_z}
use Rattle.pbd_cloth.specs.declared.place.Place.{Place}
use Rattle.pbd_cloth.specs.Reading.{places}
use Rattle.pbd_cloth.proofs.Writing.{over_long}
use Rattle.lakmozet_c.proofs.lists.lak_places.Goals as goal

-- there is as much memory after the call as before it
pub returns-in-Some : goal.returns-in-Some
returns-in-Some c =
    let count = rw c.deref.ensures at c.places.ensures.count in
    let written = rw c.deref.ensures at c.places.ensures.written in
    let long = ap (λ (ps : List Place). length ps) written ∙ over_long c.args.into.now (places c.in-Some.cloth.value.world) in
    let number = to_z-of_z w32 c.room_for-answer.result (record { sfits = c.room_for-answer.type_inv }) ∙ c.room_for-answer.ensures in
    rw c.in-Some.ensures.held (record {
      kept = record { held = c.put.ensures; sound = rw c.put.ensures (rw c.in-Some.ensures.held at c.in-Some.ensures.sound) };
      answer = rw (count, long) at number;
      count_written = count;
      written = written;
    })
