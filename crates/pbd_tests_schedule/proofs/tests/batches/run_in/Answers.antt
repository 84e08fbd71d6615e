use Rattle.std.proofs.Common.{arith}
use Rattle.pbd_world.specs.Ledger.{ledger_of}
use Rattle.pbd_store.proofs.Fixed.{same_length}
use Rattle.pbd_pair.proofs.Examples.{room_of_zero}
use Rattle.pbd_tests_schedule.proofs.Standing.{stands}
use Rattle.pbd_tests_schedule.proofs.tests.batches.run_in.Goals as goal

pub run_events-answer-requires : goal.run_events-answer-requires
run_events-answer-requires g c =
    let r = c.requires in
    let work = c.args.schedule.now.work in
    let s = stands c.args.store.now.limit c.args.store.now.particles work.bonds work.batch.now r.limit r.work in
    let room = room_of_zero (ledger_of c.zero-totals.result) c.zero-totals.ensures in
    (omega arith, (r.low, (r.high, (s.batched, (s.inside, (s.weights, (room, r.few)))))))

pub all_particles-particles-requires : goal.all_particles-particles-requires
all_particles-particles-requires g c =
    let work = c.args.schedule.now.work in
    let s = stands c.args.store.now.limit c.args.store.now.particles work.bonds work.batch.now c.requires.limit c.requires.work in
    omega (arith, s.six, same_length c.run_events-answer.new.store.particles c.args.store.now.particles c.run_events-answer.ensures.fixed)
