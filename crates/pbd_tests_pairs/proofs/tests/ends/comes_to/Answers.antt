use Rattle.std.proofs.Common.{◌≡◌, length, ap, arith}
use Rattle.pbd_store.proofs.Fixed.{same_length}
use Rattle.pbd_tests_pairs.proofs.tests.ends.comes_to.Goals as goal

pub returns-in-Some-answered : goal.returns-in-Some-answered
returns-in-Some-answered g c =
    let same : c.in-Some.store.particles ≡ c.args.drawing.now.particles.now = c.in-Some.ensures.particles in
    let as_many = same_length c.answers_so-answered.new.store.particles c.in-Some.store.particles c.in-Some-answered.ensures.fixed in
    omega (arith, ap length same, as_many, c.in-Some-answered.ensures.cost, c.have_moved-moved.ensures)
