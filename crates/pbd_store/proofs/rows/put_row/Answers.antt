use Rattle.std.proofs.lemmas.List.{map-set}
use Rattle.pbd_store.specs.declared.rows.Place.{Place}
use Rattle.pbd_store.specs.InRows.{place_in_row}
use Rattle.pbd_store.proofs.rows.put_row.Goals as goal

pub returns-clause-places : goal.returns-clause-places
returns-clause-places c = map-set (λ (r : Place). place_in_row r) c.args.rows.now c.args.i c.args.row
