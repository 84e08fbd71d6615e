use Rattle.pbd_store.proofs.InRows.{row_seen}
use Rattle.pbd_store.proofs.rows.row_in.Goals as goal

pub returns : goal.returns
returns c = row_seen c.args.rows.now c.requires.flat c.args.i
