use Rattle.std.proofs.Common.{◌≡◌, subst, arith, ap}
use Rattle.pbd_world.specs.World.{World}
use Rattle.pbd_world.specs.Work.{command_work}
use Rattle.pbd_world.proofs.WorkLemmas.{command_wider}
use Rattle.pbd_session.proofs.session.Session.apply.Goals as goal

pub returns-clause-cost : goal.returns-clause-cost
returns-clause-cost g c = λ lanes some all.
    let solver = c.self.inside.solver in
    let command = c.args.command.now in
    let fewer = command_wider g.row.L lanes g.row.L (g.P.Projector.width solver.projector) c.requires.lanes_low (omega arith) some
    (all solver.projector) solver.world command in
    let seen = ap (λ (w : World). command_work g.row.L lanes w command) c.self.view_is in
    omega (arith, c.obey.ensures.cost, fewer, seen)
