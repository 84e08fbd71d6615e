use Rattle.std.proofs.Common.{◌∙◌, ◌≡◌, ◌^◌, ap, sym, arith, subst, length, Ok, Err}
use Rattle.pbd_world.specs.declared.command.Phase.TheVariants as phases
use Rattle.pbd_world.specs.declared.command.Refusal.{Refusal}
use Rattle.pbd_world.specs.Outcomes.{with_fault}
use Rattle.pbd_world.specs.Step.{leaves, predict}
use Rattle.pbd_world.specs.World.{World, parts_of}
use Rattle.pbd_world.proofs.WorkLemmas.{beginning_is}
use Rattle.pbd_world.proofs.WorldParts.{formed}
use Rattle.pbd_step.specs.declared.state.State.{State}
use Rattle.pbd_step.specs.States.{world_of, now_of, IsUnderWay}
use Rattle.pbd_step.specs.Predicting.{unled}
use Rattle.pbd_step.proofs.Leading.{stops_led, goes_led, predicted_goes}
use Rattle.pbd_step.proofs.Weighing.{attached_weights}
use Rattle.pbd_step.proofs.predict.predict.Goals.{After-place}
use Rattle.pbd_step.proofs.predict.predict.Goals as goal

pub returns-in-Err-clause-outcome : goal.returns-in-Err-clause-outcome
returns-in-Err-clause-outcome g c =
    let w = world_of c.args.setting.now c.args.state.now in
    ap (with_fault (leaves w phases.Predict)) (stops_led w c.in-Err.left.element c.requires.sound c.in-Err.ensures.outcome)
    ∙ ap (λ (r : Refusal). Err r) (sym c.leaving.ensures)

pub place-requires : goal.place-requires
place-requires g c =
    let w = world_of c.args.setting.now c.args.state.now in
    let moved = c.advance.ensures.moved in
    (omega arith, rw (c.as_slice.ensures, moved.limit, moved.whole) ((formed (parts_of w) c.requires.sound.well_formed).tracks))

pub returns-clause-moved : goal.returns-clause-moved
returns-clause-moved g c =
    let moved = c.advance.ensures.moved in
    record {
      same = ap (λ (s : State g.row.L). record s { store = c.place.new.store }) moved.same;
      limit = c.place.ensures.limit ∙ moved.limit;
      copies = c.place.ensures.copies ∙ moved.copies;
      whole = c.place.ensures.particles.whole ∙ moved.whole;
      weights = attached_weights c.advance.new.self.store.particles c.place.new.store.particles c.place.ensures.particles
          ∙ moved.weights;
    }

-- what the world comes to
predicted : (g : _) (c : After-place g) → predict (unled (world_of c.args.setting.now c.args.state.now)) ≡ Ok (now_of c.advance.new.self)
    → predict (world_of c.args.setting.now c.args.state.now)
    ≡ Ok (record (now_of c.advance.new.self) { particles = c.place.new.store.particles })
predicted g c done =
    goes_led (world_of c.args.setting.now c.args.state.now) (now_of c.advance.new.self) c.place.new.store.particles c.requires.sound done
    (rw c.as_slice.ensures at c.place.ensures.particles)

pub returns-clause-outcome : goal.returns-clause-outcome
returns-clause-outcome g c =
    ap (with_fault (leaves (world_of c.args.setting.now c.args.state.now) phases.Predict))
    (predicted g (goal.at.returns-clause-outcome g c).After-place c.in_default.ensures.outcome)

pub returns-clause-under_way : goal.returns-clause-under_way
returns-clause-under_way g c =
    let w = world_of c.args.setting.now c.args.state.now in
    let moved = c.advance.ensures.moved in
    let limit = c.place.ensures.limit ∙ moved.limit in
    subst (λ (v : World). IsUnderWay (2 ^ 100) v)
    (λ k. record w {
      limit = sym limit k;
      steps = (sym moved.same k).steps;
      links = (sym moved.same k).links.items;
      contacts = (sym moved.same k).contacts;
      particles = c.place.new.store.particles;
      totals = (now_of c.advance.new.self).totals;
    })
    (predicted_goes (2 ^ 100) w (record (now_of c.advance.new.self) { particles = c.place.new.store.particles }) c.requires.sound
    (predicted g (goal.at.returns-clause-under_way g c).After-place c.in_default.ensures.outcome) c.in_default.ensures.room)

pub returns-in-Err-clause-cost : goal.returns-in-Err-clause-cost
returns-in-Err-clause-cost g c = omega (arith, c.advance.ensures.cost, beginning_is g.row.L (world_of c.args.setting.now c.args.state.now))

pub returns-clause-cost : goal.returns-clause-cost
returns-clause-cost g c =
    let both = beginning_is g.row.L (world_of c.args.setting.now c.args.state.now) in
    omega (arith, c.advance.ensures.cost, c.place.ensures.cost, ap length c.as_slice.ensures, both)
