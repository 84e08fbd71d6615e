use Rattle.pbd_store.specs.Blocks.{place_of}
use Rattle.pbd_store.specs.Writing.{WrittenWhere}
use Rattle.pbd_store.proofs.rows.PlaceRows.set_where.Given as goal

abbrev pub invariant-loop-j : goal.invariant-loop-j
invariant-loop-j g l = WrittenWhere l.j l.start l.chosen (place_of l.places.x l.places.y l.places.z) l.initial.self l.self
