use Rattle.std.proofs.lemmas.Int.{to_z-of_z}
use Rattle.pbd_store.proofs.fly.FlightSums.with.Goals as goal

pub returns-clause-kept : goal.returns-clause-kept
returns-clause-kept c = let l = c.ranges.limit in simp to_z-of_z at c.with_far.ensures.kept
