use Rattle.std.proofs.Common.{arith, length}
use Rattle.pbd_schedule.proofs.Counting.{half_as_many}
use Rattle.pbd_schedule.proofs.notes.count_bonds.Goals as goal

pub prove-unreachable-requires : goal.prove-unreachable-requires
prove-unreachable-requires g c =
    let half = half_as_many c.args.store.now.limit (length c.args.store.now.particles) c.args.bonds c.args.batch.now c.requires in
    omega (arith, c.if-prove.true, half, c.len-pairs.ensures.value)
