use Rattle.std.proofs.Common.{◌+◌, ◌≤◌, arith, subst, ℕ}
use Rattle.std.proofs.lemmas.Result.{err_from_is_err_and}
use Rattle.pbd_world.specs.Work.{step_work, found_in}
use Rattle.pbd_step.specs.States.{world_of, HasLinks}
use Rattle.pbd_step.proofs.Running.{runs_none, runs_more, runs_out, runs_all, handed_none, handed_more, handed_all}
use Rattle.pbd_step.proofs.Staying.{none_in_step, both_in_step, ready_on}
use Rattle.pbd_step.proofs.Costing.{spent_none, spent_more, spent_out}
use Rattle.pbd_step.proofs.state.Running.take_steps.Goals.{After-step}
use Rattle.pbd_step.proofs.state.Running.take_steps.Goals as goal

pub loop-i-init : goal.loop-i-init
loop-i-init g c =
    let run = c.args.self.now in
    record {
      running = runs_none c.args.n (world_of c.args.setting.now run.state) c.requires.ready.sound;
      handed = handed_none c.args.n (world_of c.args.setting.now run.state) (g.P.Projector.count run.projector)
          (omega (arith, c.counts.ensures));
      spent = spent_none g.row.L (g.P.Projector.width run.projector) c.args.n (world_of c.args.setting.now run.state) c.args.steps.now;
      links = c.requires.ready.links;
      stays = none_in_step run;
      ready = c.requires.ready;
    }

pub returns-in_err-step-clause-outcome : goal.returns-in_err-step-clause-outcome
returns-in_err-step-clause-outcome g c =
    let p = err_from_is_err_and c.from_residual.result c.from_residual.ensures.1 in
    rw (p.1, p.2) (runs_out c.args.n c.loop-i.i (world_of c.args.setting.now c.args.self.now.state)
    (world_of c.args.setting.now c.loop-i.self.state) c.in_err-step.field-0.0 c.loop-i-test.true c.loop-i.invariant.running
    c.in_err-step.ensures.outcome)

pub returns-in_err-step-clause-stays : goal.returns-in_err-step-clause-stays
returns-in_err-step-clause-stays g c = both_in_step c.args.self.now c.loop-i.self c.step.new.self c.loop-i.invariant.stays c.step.ensures.stays

-- a step is paid by the width at the start
paid : (g : _) (c : After-step g) → let now = world_of c.args.setting.now c.loop-i.self.state in
    c.step.new.steps ≤ c.loop-i.steps + step_work g.row.L (g.P.Projector.width c.args.self.now.projector) now (found_in now)
paid g c =
    let now = world_of c.args.setting.now c.loop-i.self.state in
    subst (λ (k : ℕ). c.step.new.steps ≤ c.loop-i.steps + step_work g.row.L k now (found_in now)) c.loop-i.invariant.stays.width
    c.step.ensures.cost

pub loop-i-preserved : goal.loop-i-preserved
loop-i-preserved g c =
    let start = world_of c.args.setting.now c.args.self.now.state in
    let now = world_of c.args.setting.now c.loop-i.self.state in
    let next = world_of c.args.setting.now c.step.new.self.state in
    let inv = c.loop-i.invariant in
    let did = c.in_ok-step.ensures in
    let running = runs_more c.args.n c.loop-i.i start now next c.loop-i-test.true c.requires.count inv.running did.outcome in
    let links = subst (λ (n : ℕ). HasLinks n c.step.new.self.state.links.items c.step.new.self.colours) inv.stays.alike.particles did.links in
    let stays = both_in_step c.args.self.now c.loop-i.self c.step.new.self inv.stays did.stays in
    record {
      running = running;
      handed = handed_more c.args.n c.loop-i.i start now next (g.P.Projector.count c.args.self.now.projector)
          (g.P.Projector.count c.loop-i.self.projector) (g.P.Projector.count c.step.new.self.projector) c.loop-i-test.true did.outcome
          inv.handed did.handed;
      spent = spent_more g.row.L (g.P.Projector.width c.args.self.now.projector) c.args.n c.loop-i.i start now next c.args.steps.now
          c.loop-i.steps c.step.new.steps c.loop-i-test.true did.outcome inv.spent (paid g (goal.at.loop-i-preserved g c).After-step);
      links = links;
      stays = stays;
      ready = ready_on c.args.setting.now c.args.self.now c.step.new.self c.requires.ready stays running.sound links;
    }

pub returns-clause-outcome : goal.returns-clause-outcome
returns-clause-outcome g c =
    runs_all c.args.n c.loop-i.i (world_of c.args.setting.now c.args.self.now.state) (world_of c.args.setting.now c.loop-i.self.state)
    (omega (arith, c.loop-i-test.false)) c.loop-i.invariant.running

pub returns-clause-ready : goal.returns-clause-ready
returns-clause-ready g c = c.loop-i.invariant.ready

pub returns-clause-handed : goal.returns-clause-handed
returns-clause-handed g c =
    handed_all c.args.n c.loop-i.i (world_of c.args.setting.now c.args.self.now.state) (world_of c.args.setting.now c.loop-i.self.state)
    (g.P.Projector.count c.args.self.now.projector) (g.P.Projector.count c.loop-i.self.projector)
    (omega (arith, c.loop-i-test.false)) c.loop-i.invariant.handed

pub returns-in_err-step-clause-cost : goal.returns-in_err-step-clause-cost
returns-in_err-step-clause-cost g c =
    spent_out g.row.L (g.P.Projector.width c.args.self.now.projector) c.args.n c.loop-i.i
    (world_of c.args.setting.now c.args.self.now.state) (world_of c.args.setting.now c.loop-i.self.state)
    c.args.steps.now c.loop-i.steps c.step.new.steps c.loop-i-test.true c.loop-i.invariant.spent
    (paid g (goal.at.returns-in_err-step-clause-cost g c).After-step)

pub returns-clause-cost : goal.returns-clause-cost
returns-clause-cost g c = omega (arith, c.loop-i.invariant.spent)
