use Rattle.std.proofs.Common.{◌≡◌, ◌∙◌, length, arith}
use Rattle.pbd_store.specs.Moving.{AreInside}
use Rattle.pbd_store.specs.Pairs.{ArePairs}
use Rattle.pbd_tests_pairs.proofs.Drawn.{drawn}
use Rattle.pbd_tests_pairs.proofs.tests.ends.store_of.Goals as goal

pub open-requires : goal.open-requires
open-requires g c =
    let d = c.args.drawing.now in
    let may = drawn d.limit d.particles.now d.pairs c.requires in
    (omega arith, (may.few, rw may.read may.either))

pub returns-in-Ok : goal.returns-in-Ok
returns-in-Ok g c =
    let d = c.args.drawing.now in
    let may = drawn d.limit d.particles.now d.pairs c.requires in
    let same : c.in-Ok.store.particles ≡ d.particles.now = c.in-Ok.ensures.particles in
    let limit : c.in-Ok.store.limit ≡ d.limit = c.in-Ok.ensures.limit ∙ may.read in
    record {
      particles = same;
      pairs = coe 1 0 (i. ArePairs (length d.pairs.first.now) (length (same i)) d.pairs) may.named;
      apart = may.apart;
      inside = coe 1 0 (i. AreInside (limit i) (same i)) may.inside;
    }
