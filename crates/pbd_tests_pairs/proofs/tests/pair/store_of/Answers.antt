use Rattle.std.proofs.Common.{◌≡◌, ◌≤◌, ◌^◌, pos, length, arith, refl}
use Rattle.pbd_store.specs.Moving.{AreInside, Weigh}
use Rattle.pbd_pair.specs.Laid.{Suit}
use Rattle.pbd_pair.specs.Projecting.{IsBatch}
use Rattle.pbd_tests_pairs.proofs.Drawn.{projected}
use Rattle.pbd_tests_pairs.proofs.tests.pair.store_of.Goals as goal

pub open-requires : goal.open-requires
open-requires g c =
    let d = c.args.case.now in
    let may = projected d.particles.now d.bonds d.batch.now c.requires in
    (omega arith, (may.few, refl))

pub returns-in-Ok : goal.returns-in-Ok
returns-in-Ok g c =
    let d = c.args.case.now in
    let may = projected d.particles.now d.bonds d.batch.now c.requires in
    let same : c.in-Ok.store.particles ≡ d.particles.now = c.in-Ok.ensures.particles in
    let limit : c.in-Ok.store.limit ≡ pos (2 ^ 29) = c.in-Ok.ensures.limit in
    record {
      two = coe 1 0 (i. 2 ≤ length (same i)) may.two;
      batch = coe 1 0 (i. IsBatch (limit i) (length (same i)) d.bonds d.batch.now) may.batched;
      columns = coe 1 0 (i. Suit d.bonds d.batch.now (same i)) may.columns;
      inside = coe 1 0 (i. AreInside (limit i) (same i)) may.inside;
      weights = coe 1 0 (i. Weigh (same i)) may.weights;
    }
