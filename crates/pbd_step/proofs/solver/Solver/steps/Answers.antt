use Rattle.std.proofs.Common.{◌+◌, ◌≤◌, ℕ, ap, ◌∙◌, arith, subst}
use Rattle.std.specs.Prelude.{MatchResult}
use Rattle.pbd_world.specs.declared.command.Command.TheVariants.{Step}
use Rattle.pbd_world.specs.Meaning.{outcome, steps_of}
use Rattle.pbd_world.specs.Work.{steps_work}
use Rattle.pbd_world.specs.World.{World}
use Rattle.pbd_step.specs.States.{world_of}
use Rattle.pbd_step.specs.Solving.{Solved}
use Rattle.pbd_step.proofs.Stepping.{answers_so}
use Rattle.pbd_step.proofs.Keeping.{commanded, seen_commanded, run_goes, refused, run_uncounted, run_late}
use Rattle.pbd_step.proofs.Costing.{steps_paid}
use Rattle.pbd_step.proofs.solver.Solver.steps.Goals as goal

pub returns-then-n-lt1-clause-commanded : goal.returns-then-n-lt1-clause-commanded
returns-then-n-lt1-clause-commanded g c =
    let w = world_of c.self.inside.setting c.self.inside.run.state in
    refused (Step c.args.n) c.self.view_is c.self.invariant.sound (run_uncounted w c.args.n c.then-n-lt1.either)

pub returns-then-from-count-clause-commanded : goal.returns-then-from-count-clause-commanded
returns-then-from-count-clause-commanded g c =
    let w = world_of c.self.inside.setting c.self.inside.run.state in
    let late = run_late w c.args.n (omega (arith, c.if-n-lt1.false)) (omega (arith, c.if-n-gt-MOST_STEPS.false))
    (omega (arith, c.from.ensures, c.if-from-count.true)) in
    refused (Step c.args.n) c.self.view_is c.self.invariant.sound late

pub returns-clause-commanded : goal.returns-clause-commanded
returns-clause-commanded g c =
    let w = world_of c.self.inside.setting c.self.inside.run.state in
    let now = world_of c.self.inside.setting c.run_whole.new.self.state in
    let goes = run_goes w c.args.n (omega (arith, c.if-n-lt1.false)) (omega (arith, c.if-n-gt-MOST_STEPS.false))
    (omega (arith, c.from.ensures, c.if-from-count.false)) in
    let told = answers_so c.run_whole.result (outcome w (Step c.args.n)) now (steps_of c.args.n w) goes c.run_whole.ensures.obeys.outcome in
    let done = commanded {S = World} {world = λ v. v} {r = c.run_whole.result} {old = w} {new = now}
    (Step c.args.n) (record { outcome = told; kept = c.run_whole.ensures.obeys.kept }) c.self.invariant.sound in
    seen_commanded (Step c.args.n) c.self.view_is done

pub returns-clause-not_fallen : goal.returns-clause-not_fallen
returns-clause-not_fallen g c = subst (λ (s : Solved g.row.P.Denot). g.P.Projector.count s.projector
    ≤ g.P.Projector.count c.run_whole.new.self.projector) c.self.view_is c.run_whole.ensures.not_fallen

pub returns-clause-width : goal.returns-clause-width
returns-clause-width g c = c.run_whole.ensures.width ∙ ap (λ (s : Solved g.row.P.Denot). g.P.Projector.width s.projector) c.self.view_is

pub returns-clause-cost : goal.returns-clause-cost
returns-clause-cost g c =
    let run = c.self.inside.run in
    let w = world_of c.self.inside.setting run.state in
    let lanes = g.P.Projector.width in
    let goes = steps_paid g.row.L (lanes run.projector) w c.args.n (omega (arith, c.if-n-lt1.false))
    (omega (arith, c.if-n-gt-MOST_STEPS.false)) (omega (arith, c.from.ensures, c.if-from-count.false)) in
    let seen = ap (λ (s : Solved g.row.P.Denot). steps_work g.row.L (lanes s.projector) c.args.n s.world) c.self.view_is in
    omega (arith, c.run_whole.ensures.cost, goes, seen)

pub returns-clause-copies : goal.returns-clause-copies
returns-clause-copies g c =
    let now : ℕ = c.run_whole.new.self.state.store.copies + c.run_whole.new.kept.store.copies in
    subst (λ (s : Solved g.row.P.Denot). MatchResult c.run_whole.result (λ _. now ≤ s.copies + 1) (λ _. now ≤ s.copies + 2)) c.self.view_is
    c.run_whole.ensures.copies
