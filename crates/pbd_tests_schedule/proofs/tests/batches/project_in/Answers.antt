use Rattle.std.proofs.Common.{arith, subst, sym, Option}
use Rattle.pbd_world.specs.Ledger.{ledger_of}
use Rattle.pbd_store.proofs.Fixed.{same_length}
use Rattle.pbd_pair.specs.declared.laid.Laid.{Laid}
use Rattle.pbd_pair.specs.Bonds.{bond_of}
use Rattle.pbd_pair.specs.Laid.{SuitIf}
use Rattle.pbd_pair.proofs.Examples.{room_of_zero}
use Rattle.pbd_tests_schedule.proofs.Standing.{stands}
use Rattle.pbd_tests_schedule.proofs.tests.batches.project_in.Goals as goal

pub project-outcome-requires : goal.project-outcome-requires
project-outcome-requires g c =
    let r = c.requires in
    let ps = c.args.store.now.particles in
    let work = c.args.work.now in
    let s = stands c.args.store.now.limit ps work.bonds work.batch.now r.limit r.work in
    let suits = subst (λ (o : Option Laid). SuitIf o (bond_of work.bonds) work.batch.now ps) (sym r.plain) tt in
    (omega arith, (r.low, (r.high, (s.batched, (suits, (s.inside, (s.weights, room_of_zero (ledger_of c.zero-totals.result) c.zero-totals.ensures)))))))

pub all_particles-particles-requires : goal.all_particles-particles-requires
all_particles-particles-requires g c =
    let work = c.args.work.now in
    let s = stands c.args.store.now.limit c.args.store.now.particles work.bonds work.batch.now c.requires.limit c.requires.work in
    omega (arith, s.six, same_length c.project-outcome.new.store.particles c.args.store.now.particles c.project-outcome.ensures.fixed)
