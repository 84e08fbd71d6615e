use Rattle.std.proofs.Common.{◌≡◌, ◌+◌, ◌-◌, ◌*◌, ◌^◌, ◌≤◌, ℕ, min, List, length, arith, sym, ap, ◌∙◌}
use Rattle.std.proofs.lemmas.Result.{err_from_is_err_and}
use Rattle.std.proofs.Math.Nat.{mul-le-mul_right}
use Rattle.pbd_world.specs.Ledger.{ledger_of}
use Rattle.pbd_world.specs.Step.{pass}
use Rattle.pbd_world.specs.Work.{pass_work}
use Rattle.pbd_world.specs.World.{World, live_count}
use Rattle.pbd_step.specs.declared.state.State.{State}
use Rattle.pbd_step.specs.declared.state.Scratch.{Scratch}
use Rattle.pbd_step.specs.States.{world_of, IsUnderWay}
use Rattle.pbd_step.specs.Staying.{passing_of}
use Rattle.pbd_step.proofs.Passes.{same_pass, pass_on, pass_out, passes_done, passes_begin, counts_on}
use Rattle.pbd_step.proofs.Staying.{none_in_pass, both_in_pass, pass_goes, still_laid}
use Rattle.pbd_step.proofs.UnderWay.{moved_world, more_under_way, passes_few}
use Rattle.pbd_step.proofs.Costing.{pass_same}
use Rattle.pbd_step.proofs.state.Running.project_in_passes.Goals.{After-pass}
use Rattle.pbd_step.proofs.state.Running.project_in_passes.Goals as goal

-- the contacts are those of the first pass
found : (g : _) (c : After-pass g) → c.loop.self.scratch.found.pairs ≡ c.args.self.now.scratch.found.pairs
found g c = ap (λ (t : Scratch). t.found.pairs) c.loop.invariant.stays.scratch

-- the world of the first pass but for its particles and totals
moved : (g : _) (c : After-pass g) → world_of c.args.setting.now c.loop.self.state
    ≡ record (world_of c.args.setting.now c.args.self.now.state) {
      particles = c.loop.self.state.store.particles;
      totals = ledger_of c.loop.self.state.totals;
    }
moved g c = moved_world c.args.setting.now c.args.self.now.state c.loop.self.state c.loop.invariant.stays.moved.same
    c.loop.invariant.stays.moved.limit

-- a pass is what it would be in the world of the first one, and costs as much
passes_on : (g : _) (c : After-pass g)
    → pass (world_of c.args.setting.now c.loop.self.state) c.loop.self.scratch.found.pairs (passing_of c.loop.self)
    ≡ pass (world_of c.args.setting.now c.args.self.now.state) c.args.self.now.scratch.found.pairs (passing_of c.loop.self)
passes_on g c =
    ap (λ (ps : List (ℕ × ℕ)). pass (world_of c.args.setting.now c.loop.self.state) ps (passing_of c.loop.self)) (found g c)
    ∙ same_pass (world_of c.args.setting.now c.args.self.now.state) (world_of c.args.setting.now c.loop.self.state)
    c.loop.self.state.store.particles (ledger_of c.loop.self.state.totals) c.args.self.now.scratch.found.pairs (passing_of c.loop.self) (moved g c)

paid : (g : _) (c : After-pass g)
    → pass_work g.row.L (g.P.Projector.width c.loop.self.projector) (world_of c.args.setting.now c.loop.self.state)
    c.loop.self.scratch.found.pairs
    ≡ pass_work g.row.L (g.P.Projector.width c.args.self.now.projector) (world_of c.args.setting.now c.args.self.now.state)
    c.args.self.now.scratch.found.pairs
paid g c = pass_same g.row.L (world_of c.args.setting.now c.args.self.now.state) (world_of c.args.setting.now c.loop.self.state)
    c.loop.self.state.store.particles (ledger_of c.loop.self.state.totals) (moved g c) c.loop.invariant.stays.moved.whole
    c.loop.invariant.stays.width (found g c)

pub loop-init : goal.loop-init
loop-init g c =
    let run = c.args.self.now in
    record {
      within = omega arith;
      stays = none_in_pass run;
      under_way = more_under_way _ (omega arith) c.requires.going.under_way;
      rest = passes_begin (pass (world_of c.args.setting.now run.state) run.scratch.found.pairs) c.args.setting.now.passes (passing_of run);
      cost = omega arith;
      handed = omega (arith, c.counts.ensures);
      going = pass_goes {count = g.P.Projector.count} {lanes = g.P.Projector.width} (2 ^ 118) c.args.setting.now run run c.requires.going
          (none_in_pass run) (more_under_way (2 ^ 118) (omega arith) c.requires.going.under_way);
      laid = c.requires.laid;
    }

pub returns-in_err-pass-clause-outcome : goal.returns-in_err-pass-clause-outcome
returns-in_err-pass-clause-outcome g c =
    let p = err_from_is_err_and c.from_residual.result c.from_residual.ensures.1 in
    let w : World = world_of c.args.setting.now c.args.self.now.state in
    rw (p.1, p.2) (sym c.loop.invariant.rest ∙ pass_out (pass w c.args.self.now.scratch.found.pairs) c.args.setting.now.passes c.loop.counter (omega arith)
    (passing_of c.loop.self) c.in_err-pass.field-0.0
    (sym (passes_on g (goal.at.returns-in_err-pass-clause-outcome g c).After-pass) ∙ c.in_err-pass.ensures.outcome))

pub returns-in_err-pass-clause-stays : goal.returns-in_err-pass-clause-stays
returns-in_err-pass-clause-stays g c = both_in_pass c.args.self.now c.loop.self c.pass.new.self c.loop.invariant.stays
    c.pass.ensures.stays

pub loop-preserved : goal.loop-preserved
loop-preserved g c =
    let inv = c.loop.invariant in
    let at = (goal.at.loop-preserved g c).After-pass in
    let old : State g.row.L = c.args.self.now.state in
    let w : World = world_of c.args.setting.now old in
    let pairs = c.args.self.now.scratch.found.pairs in
    let i : ℕ = c.loop.counter in
    let links : live_count c.loop.self.state.links.items ≡ live_count old.links.items =
    ap (λ (x : State g.row.L). live_count x.links.items) inv.stays.moved.same in
    let k : ℕ = live_count old.links.items + length pairs in
    let before : ℕ = g.P.Projector.count c.args.self.now.projector in
    let given : ℕ = g.P.Projector.count c.loop.self.projector in
    let next : ℕ = g.P.Projector.count c.pass.new.self.projector in
    let within : i + 1 ≤ c.args.setting.now.passes = omega arith in
    let still = both_in_pass c.args.self.now c.loop.self c.pass.new.self inv.stays c.pass.ensures.stays in
    let under_way : IsUnderWay (2 ^ 100 + (i + 1) * 2 ^ 62) (world_of c.args.setting.now c.pass.new.self.state) =
    more_under_way _ (omega arith) (c.in_ok-pass.ensures.under_way (2 ^ 100 + i * 2 ^ 62) inv.under_way) in
    let few = passes_few w c.requires.going.under_way in
    record {
      within = within;
      stays = still;
      under_way = under_way;
      going = pass_goes (2 ^ 118) c.args.setting.now c.args.self.now c.pass.new.self c.requires.going still
          (more_under_way (2 ^ 118) (omega (arith, few, within)) under_way);
      laid = still_laid c.args.setting.now.thickness c.loop.self c.pass.new.self c.pass.ensures.stays inv.laid;
      rest = pass_on (pass w pairs) c.args.setting.now.passes i (omega arith) (passing_of c.loop.self) (passing_of c.pass.new.self)
          (sym (passes_on g at) ∙ c.in_ok-pass.ensures.outcome) ∙ inv.rest;
      cost = omega (arith, inv.cost, c.pass.ensures.cost, paid g at);
      handed = counts_on before given next k i inv.handed (c.in_ok-pass.ensures.handed
          ∙ (λ i. min (given + (links i + length (found g at i))) (2 ^ 64 - 1)));
    }

pub returns-clause-outcome : goal.returns-clause-outcome
returns-clause-outcome g c =
    let w : World = world_of c.args.setting.now c.args.self.now.state in
    sym c.loop.invariant.rest ∙ passes_done (pass w c.args.self.now.scratch.found.pairs) c.args.setting.now.passes c.loop.counter
    (passing_of c.loop.self) (omega arith)

pub returns-clause-under_way : goal.returns-clause-under_way
returns-clause-under_way g c =
    let few = passes_few (world_of c.args.setting.now c.args.self.now.state) c.requires.going.under_way in
    more_under_way (2 ^ 101) (omega (arith, few, c.loop.invariant.within)) c.loop.invariant.under_way

pub returns-clause-handed : goal.returns-clause-handed
returns-clause-handed g c =
    let all : c.loop.counter ≡ c.args.setting.now.passes = omega (arith, c.loop.invariant.within) in
    let k : ℕ = live_count c.args.self.now.state.links.items + length c.args.self.now.scratch.found.pairs in
    c.loop.invariant.handed ∙ ap (λ (n : ℕ). min (g.P.Projector.count c.args.self.now.projector + n * k) (2 ^ 64 - 1)) all

pub returns-in_err-pass-clause-cost : goal.returns-in_err-pass-clause-cost
returns-in_err-pass-clause-cost g c =
    let one : ℕ = pass_work g.row.L (g.P.Projector.width c.args.self.now.projector)
    (world_of c.args.setting.now c.args.self.now.state) c.args.self.now.scratch.found.pairs in
    let more : (c.loop.counter + 1) * one ≤ c.args.setting.now.passes * one = mul-le-mul_right {m = c.loop.counter + 1} one (omega arith) in
    let same_cost = paid g (goal.at.returns-in_err-pass-clause-cost g c).After-pass in
    omega (arith, c.loop.invariant.cost, c.pass.ensures.cost, same_cost, more)

pub returns-clause-cost : goal.returns-clause-cost
returns-clause-cost g c =
    let one : ℕ = pass_work g.row.L (g.P.Projector.width c.args.self.now.projector)
    (world_of c.args.setting.now c.args.self.now.state) c.args.self.now.scratch.found.pairs in
    let all : c.loop.counter * one ≤ c.args.setting.now.passes * one = mul-le-mul_right {m = c.loop.counter} one c.loop.invariant.within in
    omega (arith, c.loop.invariant.cost, all)
