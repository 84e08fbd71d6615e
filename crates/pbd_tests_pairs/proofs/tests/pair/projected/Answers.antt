use Rattle.std.proofs.Common.{arith}
use Rattle.pbd_store.proofs.Fixed.{same_length}
use Rattle.pbd_tests_pairs.proofs.tests.pair.projected.Goals as goal

pub ends_on_x-x-requires : goal.ends_on_x-x-requires
ends_on_x-x-requires g c =
    let as_many = same_length c.project-outcome.new.store.particles c.args.store.now.particles c.project-outcome.ensures.fixed in
    omega (arith, c.requires.two, as_many)
