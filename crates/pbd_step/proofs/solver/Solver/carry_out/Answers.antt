use Rattle.std.proofs.Common.{refl}
use Rattle.pbd_world.specs.declared.command.Command.TheVariants.{Frame, Ledger, Bad}
use Rattle.pbd_step.proofs.Keeping.{answered, commanded_as, refused}
use Rattle.pbd_step.proofs.solver.Solver.carry_out.Goals as goal

pub returns-in-Frame-clause-commanded : goal.returns-in-Frame-clause-commanded
returns-in-Frame-clause-commanded g c =
    commanded_as c.args.command.now Frame c.in-Frame.is (answered Frame c.self.view_is c.self.invariant.sound refl)

pub returns-in-Ledger-clause-commanded : goal.returns-in-Ledger-clause-commanded
returns-in-Ledger-clause-commanded g c =
    commanded_as c.args.command.now Ledger c.in-Ledger.is (answered Ledger c.self.view_is c.self.invariant.sound refl)

pub returns-in-Bad-clause-commanded : goal.returns-in-Bad-clause-commanded
returns-in-Bad-clause-commanded g c =
    commanded_as c.args.command.now Bad c.in-Bad.is (refused Bad c.self.view_is c.self.invariant.sound refl)
