use Rattle.std.proofs.Common.{sym}
use Rattle.std.proofs.lemmas.Int.{to_z-of_z}
use Rattle.pbd_world.proofs.ValidLemmas.{rising_stops, rising_goes}
use Rattle.pbd_world.proofs.single.are_valid_keys.Goals as goal

pub returns-then-not-is_next_key : goal.returns-then-not-is_next_key
returns-then-not-is_next_key c =
    let limit = c.ranges.limit in
    let rest = simp to_z-of_z at c.loop-key.invariant in
    let stops = simp to_z-of_z at c.if-not-is_next_key.ensures in
    rising_stops c.args.limit c.loop-key.next c.args.keys.now c.loop-key.key-index _ c.loop-key-test.true rest (sym stops)

pub loop-key-preserved : goal.loop-key-preserved
loop-key-preserved c =
    let limit = c.ranges.limit in
    let rest = simp to_z-of_z at c.loop-key.invariant in
    let goes = simp to_z-of_z at c.if-not-is_next_key.ensures in
    simp to_z-of_z (rising_goes c.args.limit c.loop-key.next c.args.keys.now c.loop-key.key-index _ c.loop-key-test.true rest (sym goes))
