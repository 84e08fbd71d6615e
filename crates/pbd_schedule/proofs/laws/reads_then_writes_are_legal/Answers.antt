use Rattle.pbd_schedule.proofs.ReadsThenWrites.{reads_then_writes_legal}
use Rattle.pbd_schedule.proofs.laws.reads_then_writes_are_legal.Goals as goal

pub returns : goal.returns
returns c = reads_then_writes_legal
