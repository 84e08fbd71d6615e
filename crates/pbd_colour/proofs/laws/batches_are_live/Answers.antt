use Rattle.pbd_colour.proofs.Batches.{batch-live}
use Rattle.pbd_colour.proofs.laws.batches_are_live.Goals as goal

pub returns : goal.returns
returns c = batch-live
