use Rattle.std.proofs.Common.{◌≡◌, ◌+◌, ◌-◌, ◌*◌, ◌^◌, min, arith, ap, sym, ◌∙◌, ◌≤◌, subst, ℕ, List, OnOk, length}
use Rattle.std.proofs.lemmas.Result.{err_from_is_err_and}
use Rattle.pbd_world.specs.Step.{step}
use Rattle.pbd_world.specs.Ledger.{ledger_of}
use Rattle.pbd_world.specs.Work.{finding_work, found_in}
use Rattle.pbd_world.specs.World.{live_count}
use Rattle.pbd_world.proofs.WorkLemmas.{step_is, step_goes_on}
use Rattle.pbd_step.specs.declared.state.State.{State}
use Rattle.pbd_step.specs.declared.state.Running.{Running}
use Rattle.pbd_step.specs.States.{world_of, now_of, HasLinks}
use Rattle.pbd_step.specs.Staying.{IsGoing, StaysInStep}
use Rattle.pbd_step.specs.Stepping.{finished}
use Rattle.pbd_step.proofs.Staying.{move_in_step, tools_in_step, both_in_step, begun_goes, tools_go, refound, known_with}
use Rattle.pbd_step.proofs.Stepping.{step_leaves, step_crowds, step_finishes, answers_so}
use Rattle.pbd_step.proofs.UnderWay.{moved_world, more_under_way}
use Rattle.pbd_step.proofs.Costing.{finding_same, finishing_same, found_begun}
use Rattle.pbd_step.proofs.state.Running.step.Goals.{After-find, After-predict}
use Rattle.pbd_step.proofs.state.Running.step.Goals as goal
use Rattle.pbd_world.proofs.KeepingOn.{on_both}

pub find-requires : goal.find-requires
find-requires g c = (
  omega arith,
  (
    c.requires.lanes_low,
    (
      c.requires.lanes_high,
      begun_goes _ c.args.setting.now c.args.self.now c.predict.new.state c.requires.ready c.requires.count c.predict.ensures.moved
          (more_under_way _ (omega arith) c.in_ok-predict.ensures.under_way),
    ),
  ),
)

pub finish-requires : goal.finish-requires
finish-requires g c =
    let start : Running g.row.L g.row.P.Denot = record c.args.self.now { state = c.predict.new.state } in
    let going = begun_goes _ c.args.setting.now c.args.self.now c.predict.new.state c.requires.ready c.requires.count c.predict.ensures.moved
    c.in_ok-predict.ensures.under_way in
    let found = c.find.new.self.scratch.found in
    let goes = tools_go c.args.setting.now start (record start.scratch { found = found })
    (refound start.scratch found c.find.ensures.particles)
    (known_with start.state start.scratch found) going in (
      omega arith,
      (
        c.requires.lanes_low,
        (
          c.requires.lanes_high,
          subst (λ (r : Running g.row.L g.row.P.Denot). IsGoing (2 ^ 100) c.args.setting.now r) (sym c.find.ensures.stays) goes,
        ),
      ),
    )

pub returns-in_err-predict-clause-outcome : goal.returns-in_err-predict-clause-outcome
returns-in_err-predict-clause-outcome g c =
    let p = err_from_is_err_and c.from_residual.result c.from_residual.ensures.1 in
    rw (p.1, p.2) (step_leaves (world_of c.args.setting.now c.args.self.now.state) c.in_err-predict.field-0.0 c.in_err-predict.ensures.outcome)

pub returns-in_err-find-clause-outcome : goal.returns-in_err-find-clause-outcome
returns-in_err-find-clause-outcome g c =
    let p = err_from_is_err_and c.from_residual-in_err-find.result c.from_residual-in_err-find.ensures.1 in
    let then = c.predict.new.state in
    let same = c.predict.ensures.moved.same in
    rw (p.1, p.2) (step_crowds (world_of c.args.setting.now c.args.self.now.state)
    (now_of then) then.links.items c.in_err-find.field-0.0 then.steps c.in_ok-predict.ensures.outcome
    (ap (λ (s : State g.row.L). s.links.items) same) (ap (λ (s : State g.row.L). s.steps) same) c.in_err-find.ensures.full)

pub returns-clause-outcome : goal.returns-clause-outcome
returns-clause-outcome g c =
    let setting = c.args.setting.now in
    let w = world_of setting c.args.self.now.state in
    let then = c.predict.new.state in
    let moved = c.predict.ensures.moved in
    let pairs = c.find.new.self.scratch.found.pairs in
    let begun : c.find.new.self.state ≡ then = ap (λ (r : Running g.row.L g.row.P.Denot). r.state) c.find.ensures.stays in
    answers_so c.finish.result (step w) (world_of setting c.finish.new.self.state)
    (finished (world_of setting c.find.new.self.state) pairs (now_of c.find.new.self.state))
    (step_finishes w (world_of setting then) (now_of then) then.links.items pairs c.in_ok-predict.ensures.outcome
    (ap (λ (s : State g.row.L). s.links.items) moved.same) c.in_ok-find.ensures.few c.in_ok-find.ensures.found
    (moved_world setting c.args.self.now.state then moved.same moved.limit)
    ∙ ap (λ (s : State g.row.L). finished (world_of setting s) pairs (now_of s)) (sym begun))
    c.finish.ensures.outcome

pub returns-in_err-predict-clause-stays : goal.returns-in_err-predict-clause-stays
returns-in_err-predict-clause-stays g c = move_in_step c.args.self.now c.predict.new.state c.predict.ensures.moved

-- what the beginning and the search for contacts leave
begun_stays : (g : _) (c : After-find g) → StaysInStep g.P.Projector.count g.P.Projector.width c.args.self.now c.find.new.self
begun_stays g c =
    let run = c.args.self.now in
    let start : Running g.row.L g.row.P.Denot = record run { state = c.predict.new.state } in
    let found = c.find.new.self.scratch.found in
    subst (λ (r : Running g.row.L g.row.P.Denot). StaysInStep g.P.Projector.count g.P.Projector.width run r) (sym c.find.ensures.stays)
    (both_in_step run start (record start { scratch = record start.scratch { found = found } })
    (move_in_step run start.state c.predict.ensures.moved)
    (tools_in_step start (record start.scratch { found = found }) (refound start.scratch found c.find.ensures.particles)
    (known_with start.state start.scratch found)))

pub returns-in_err-find-clause-stays : goal.returns-in_err-find-clause-stays
returns-in_err-find-clause-stays g c = begun_stays g (goal.at.returns-in_err-find-clause-stays g c).After-find

pub returns-clause-stays : goal.returns-clause-stays
returns-clause-stays g c = both_in_step c.args.self.now c.find.new.self c.finish.new.self
    (begun_stays g (goal.at.returns-clause-stays g c).After-find) c.finish.ensures.stays

pub returns-clause-links : goal.returns-clause-links
returns-clause-links g c =
    let whole = ap (λ (r : Running g.row.L g.row.P.Denot). length r.state.store.particles) c.find.ensures.stays
    ∙ c.predict.ensures.moved.whole in
    let now = c.finish.new.self in
    subst (λ (n : ℕ). OnOk c.finish.result (HasLinks n now.state.links.items now.colours)) whole c.finish.ensures.links

pub returns-clause-handed : goal.returns-clause-handed
returns-clause-handed g c =
    let count = g.P.Projector.count in
    let run = c.args.self.now in
    let given = ap (λ (r : Running g.row.L g.row.P.Denot). count r.projector) c.find.ensures.stays in
    let links = ap (λ (r : Running g.row.L g.row.P.Denot). live_count r.state.links.items) c.find.ensures.stays
    ∙ ap (λ (s : State g.row.L). live_count s.links.items) c.predict.ensures.moved.same in
    on_both c.finish.result (λ (contacts : c.finish.new.self.state.contacts ≡ length c.find.new.self.scratch.found.pairs)
    (handed : count c.finish.new.self.projector ≡ min (count c.find.new.self.projector + c.args.setting.now.passes
    * (live_count c.find.new.self.state.links.items + length c.find.new.self.scratch.found.pairs)) (2 ^ 64 - 1)).
    handed ∙ (λ i. min (given i + c.args.setting.now.passes * (links i + sym contacts i)) (2 ^ 64 - 1)))
    c.finish.ensures.contacts c.finish.ensures.handed

pub returns-in_err-predict-clause-cost : goal.returns-in_err-predict-clause-cost
returns-in_err-predict-clause-cost g c =
    let w = world_of c.args.setting.now c.args.self.now.state in
    omega (arith, c.predict.ensures.cost, step_is g.row.L (g.P.Projector.width c.args.self.now.projector) w (found_in w))

-- the search costs after the beginning what it costs before
finding_cost : (g : _) (c : After-predict g)
    → finding_work (world_of c.args.setting.now c.predict.new.state) ≡ finding_work (world_of c.args.setting.now c.args.self.now.state)
finding_cost g c =
    let setting = c.args.setting.now in
    let before = c.args.self.now.state in
    let then = c.predict.new.state in
    let moved = c.predict.ensures.moved in
    finding_same g.row.L (world_of setting before) (world_of setting then) then.store.particles (ledger_of then.totals)
    (moved_world setting before then moved.same moved.limit) moved.whole

pub returns-in_err-find-clause-cost : goal.returns-in_err-find-clause-cost
returns-in_err-find-clause-cost g c =
    let w = world_of c.args.setting.now c.args.self.now.state in
    omega (
      arith,
      c.predict.ensures.cost,
      c.find.ensures.cost,
      finding_cost g (goal.at.returns-in_err-find-clause-cost g c).After-predict,
      step_is g.row.L (g.P.Projector.width c.args.self.now.projector) w (found_in w),
    )

pub returns-clause-cost : goal.returns-clause-cost
returns-clause-cost g c =
    let setting = c.args.setting.now in
    let lanes = g.P.Projector.width in
    let run = c.args.self.now in
    let w = world_of setting run.state in
    let then = c.predict.new.state in
    let moved = c.predict.ensures.moved in
    let begun : c.find.new.self.state ≡ then = ap (λ (r : Running g.row.L g.row.P.Denot). r.state) c.find.ensures.stays in
    let width : lanes c.find.new.self.projector ≡ lanes run.projector =
    ap (λ (r : Running g.row.L g.row.P.Denot). lanes r.projector) c.find.ensures.stays in
    let links : then.links.items ≡ w.links = ap (λ (s : State g.row.L). s.links.items) moved.same in
    let same = found_begun w (now_of then) then.links.items c.in_ok-predict.ensures.outcome links in
    let pairs : c.find.new.self.scratch.found.pairs ≡ found_in w = c.in_ok-find.ensures.found ∙ sym same in
    let few : length (found_in w) ≤ 262144 = omega (arith, c.in_ok-find.ensures.few, ap (λ (ps : List (ℕ × ℕ)). length ps) same) in
    let finished = finishing_same g.row.L w (world_of setting c.find.new.self.state) then.store.particles (ledger_of then.totals)
    (ap (λ (s : State g.row.L). world_of setting s) begun ∙ moved_world setting run.state then moved.same moved.limit) moved.whole width pairs in
    omega (
      arith,
      c.predict.ensures.cost,
      c.find.ensures.cost,
      c.finish.ensures.cost,
      finding_cost g (goal.at.returns-clause-cost g c).After-predict,
      finished,
      step_goes_on g.row.L (lanes run.projector) w (found_in w) few,
    )
