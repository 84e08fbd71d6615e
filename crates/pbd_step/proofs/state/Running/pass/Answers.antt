use Rattle.std.proofs.Common.{◌≡◌, ◌+◌, ◌≤◌, ◌^◌, ℕ, ℤ, pos, length, IsTrue, to_z, of_z, w64, arith, refl, sym, ap, ◌∙◌, subst, Result, Ok, Err}
use Rattle.pbd_world.specs.declared.command.Refusal.{Refusal}
use Rattle.pbd_world.specs.Ledger.{ledger_of, HaveRoom}
use Rattle.pbd_world.specs.Bonds.{projected, contact_bond}
use Rattle.pbd_world.specs.Particles.{Motion}
use Rattle.pbd_world.specs.Shapes.{shapes_of, are_valid_shapes}
use Rattle.pbd_world.specs.Step.{Passing, contact_order, contact_part, shape_part}
use Rattle.pbd_world.specs.Valid.{is_limit, is_between}
use Rattle.pbd_world.specs.World.{World, parts_of}
use Rattle.pbd_world.specs.Work.{contacts_work, shapes_work, pass_work}
use Rattle.pbd_world.proofs.WorkLemmas.{pass_is}
use Rattle.pbd_world.proofs.WorldParts.{formed}
use Rattle.pbd_store.specs.Blocks.{blocks_of}
use Rattle.pbd_store.specs.Moving.{AreInside}
use Rattle.pbd_shape.specs.Shaping.{all_pushed, push_cost}
use Rattle.pbd_shape.specs.Valid.{lists_of}
use Rattle.pbd_world.proofs.Rooms.{room_at}
use Rattle.pbd_step.specs.declared.state.State.{State}
use Rattle.pbd_step.specs.declared.state.Scratch.{Scratch}
use Rattle.pbd_step.specs.States.{world_of, now_of, IsUnderWay}
use Rattle.pbd_step.specs.Staying.{passing_of, AreContactsLaid, StaysInPass}
use Rattle.pbd_step.proofs.Passes.{link_leaves, contact_leaves, shape_leaves, pass_done, contact_part_is, shape_part_is, shape_cost_is}
use Rattle.pbd_step.proofs.Staying.{both_in_pass, part_in_pass, still_laid, weights_moved}
use Rattle.pbd_step.proofs.UnderWay.{movable, more_movable, moved_under_way, moved_world, particles_few, thickness_of, thickness_kept}
use Rattle.pbd_step.proofs.state.Running.pass.Goals.{After-project_contacts, After-push_out}
use Rattle.pbd_step.proofs.state.Running.pass.Goals as goal

-- what the links and the contacts leave
both_stay : (g : _) (c : After-project_contacts g)
    → StaysInPass g.P.Projector.count g.P.Projector.width c.args.self.now c.project_contacts.new.self
both_stay g c = both_in_pass c.args.self.now c.project_links.new.self c.project_contacts.new.self
    c.project_links.ensures.done.stays c.project_contacts.ensures.done.stays

pub project_links-requires : goal.project_links-requires
project_links-requires g c =
    let going = c.requires.going in
    let w : World = world_of c.args.setting.now c.args.self.now.state in
    let links = (formed (parts_of w) going.under_way.well_formed).links in
    let ready = more_movable (2 ^ 119) (omega arith) (movable (2 ^ 118) w going.under_way) in (
      omega arith,
      (
        c.requires.lanes_low,
        (
          c.requires.lanes_high,
          (links, (going.links, (going.weights, (c.requires.laid.links, ready)))),
        ),
      ),
    )

pub project_contacts-requires : goal.project_contacts-requires
project_contacts-requires g c =
    let going = c.requires.going in
    let w : World = world_of c.args.setting.now c.args.self.now.state in
    let f = formed (parts_of w) going.under_way.well_formed in
    let stays = c.project_links.ensures.done.stays in
    let limit : IsTrue (is_limit c.project_links.new.self.state.store.limit) =
    subst (λ (l : ℤ). IsTrue (is_limit l)) (sym stays.moved.limit) f.limit in
    let thin = thickness_of w f in
    let thickness : IsTrue (is_between (pos 0) (pos 1048576) (to_z w64 (of_z w64 w.thickness))) =
    subst (λ (t : ℤ). IsTrue (is_between (pos 0) (pos 1048576) t)) (sym (thickness_kept w.thickness thin)) thin in
    let found = ap (λ (t : Scratch). t.found.particles) c.project_links.ensures.done.scratch ∙ going.space.found ∙ sym stays.moved.whole in
    let ready = more_movable (2 ^ 119) (omega arith) (c.in_default.ensures.done.movable (2 ^ 118) (movable (2 ^ 118) w going.under_way)) in
    let weights = weights_moved c.args.self.now.state c.project_links.new.self.state stays.moved going.weights in
    let laid = (still_laid w.thickness c.args.self.now c.project_links.new.self stays c.requires.laid).contacts in
    let thin_laid = subst (λ (t : ℤ). AreContactsLaid t c.project_links.new.self.state c.project_links.new.self.scratch.found.pairs
    c.project_links.new.self.scratch.laid_contacts) (sym (thickness_kept w.thickness thin)) laid in
    (omega arith, (c.requires.lanes_low, (c.requires.lanes_high, (limit, (thickness, (found, (weights, (thin_laid, ready))))))))

pub push_out-requires : goal.push_out-requires
push_out-requires g c =
    let w : World = world_of c.args.setting.now c.args.self.now.state in
    let both = both_stay g (goal.at.push_out-requires g c).After-project_contacts in
    let shapes : IsTrue (are_valid_shapes c.project_contacts.new.self.state.store.limit (lists_of c.shapes.result)) =
    (λ i. are_valid_shapes (both.moved.limit i) (c.shapes.ensures i)) ∙ (formed (parts_of w) c.requires.going.under_way.well_formed).shapes in
    let ready = c.in_default-project_contacts.ensures.done.movable (2 ^ 118 + 2 ^ 60)
    (c.in_default.ensures.done.movable (2 ^ 118) (movable (2 ^ 118) w c.requires.going.under_way)) in
    let room : HaveRoom (2 ^ 120) (ledger_of c.project_contacts.new.self.state.totals) = room_at (2 ^ 120) (omega arith) ready.room in (
      omega arith,
      (
        c.requires.lanes_low,
        (
          c.requires.lanes_high,
          (shapes, (ready.inside, (both.flags ∙ c.requires.going.space.touched ∙ sym both.moved.whole, room))),
        ),
      ),
    )

-- ---- what comes out

pub returns-in-Err-clause-outcome : goal.returns-in-Err-clause-outcome
returns-in-Err-clause-outcome g c =
    link_leaves (world_of c.args.setting.now c.args.self.now.state) c.args.self.now.scratch.found.pairs
    (passing_of c.args.self.now) c.in-Err.left.element c.in-Err.ensures.done.outcome
    ∙ ap (λ (r : Refusal). Err r) (sym c.leaving.ensures)

-- what the contacts come to is what they come to in the world
contacts_told : (g : _) (c : After-project_contacts g) (r : Result Motion ℕ)
    → projected c.project_links.new.self.state.store.limit
    (contact_bond (to_z w64 (of_z w64 c.args.setting.now.thickness)) c.project_links.new.self.scratch.found.pairs)
    (contact_order c.project_links.new.self.scratch.found.pairs) (now_of c.project_links.new.self.state) ≡ r
    → contact_part (world_of c.args.setting.now c.args.self.now.state) c.args.self.now.scratch.found.pairs
    (now_of c.project_links.new.self.state) ≡ r
contacts_told g c r =
    let w : World = world_of c.args.setting.now c.args.self.now.state in
    let one = c.project_links.new.self in
    let thin = thickness_of w (formed (parts_of w) c.requires.going.under_way.well_formed) in
    contact_part_is w c.args.self.now.scratch.found.pairs one.scratch.found.pairs one.state.store.limit (to_z w64 (of_z w64 w.thickness))
    (now_of one.state) r (ap (λ (t : Scratch). t.found.pairs) c.project_links.ensures.done.scratch)
    c.project_links.ensures.done.stays.moved.limit (thickness_kept w.thickness thin)

-- what the shapes come to likewise
shapes_told : (g : _) (c : After-push_out g) (r : Result Passing ℕ)
    → all_pushed c.project_contacts.new.self.state.store.limit (shapes_of (lists_of c.shapes.result))
    (passing_of c.project_contacts.new.self) ≡ r
    → shape_part (world_of c.args.setting.now c.args.self.now.state)
    (record (passing_of c.args.self.now) { motion = now_of c.project_contacts.new.self.state }) ≡ r
shapes_told g c r =
    let two = c.project_contacts.new.self in
    shape_part_is (world_of c.args.setting.now c.args.self.now.state) (record (passing_of c.args.self.now) { motion = now_of two.state })
    two.scratch.touched two.state.store.limit (lists_of c.shapes.result) r
    (ap (λ (t : Scratch). t.touched) (c.project_contacts.ensures.done.scratch ∙ c.project_links.ensures.done.scratch))
    (c.project_contacts.ensures.done.stays.moved.limit ∙ c.project_links.ensures.done.stays.moved.limit)
    c.shapes.ensures

pub returns-in-Err-project_contacts-clause-outcome : goal.returns-in-Err-project_contacts-clause-outcome
returns-in-Err-project_contacts-clause-outcome g c =
    let n = c.in-Err-project_contacts.left.element in
    let after = (goal.at.returns-in-Err-project_contacts-clause-outcome g c).After-project_contacts in
    contact_leaves (world_of c.args.setting.now c.args.self.now.state) c.args.self.now.scratch.found.pairs (passing_of c.args.self.now)
    (now_of c.project_links.new.self.state) c.in_default.ensures.done.outcome n
    (contacts_told g after (Err n) c.in-Err-project_contacts.ensures.done.outcome)
    ∙ ap (λ (r : Refusal). Err r) (sym c.leaving-in-Err-project_contacts.ensures)

pub returns-in-Err-push_out-clause-outcome : goal.returns-in-Err-push_out-clause-outcome
returns-in-Err-push_out-clause-outcome g c =
    let n = c.in-Err-push_out.left.element in
    let k = now_of c.project_contacts.new.self.state in
    let at = goal.at.returns-in-Err-push_out-clause-outcome g c in
    let touched = contacts_told g at.After-project_contacts (Ok k) c.in_default-project_contacts.ensures.done.outcome in
    shape_leaves (world_of c.args.setting.now c.args.self.now.state) c.args.self.now.scratch.found.pairs (passing_of c.args.self.now)
    (now_of c.project_links.new.self.state) c.in_default.ensures.done.outcome k touched n
    (shapes_told g at.After-push_out (Err n) c.in-Err-push_out.ensures.outcome)
    ∙ ap (λ (r : Refusal). Err r) (sym c.leaving-in-Err-push_out.ensures)

pub returns-clause-outcome : goal.returns-clause-outcome
returns-clause-outcome g c =
    let two = c.project_contacts.new.self in
    let new : State g.row.L = record two.state { store = c.push_out.new.store; totals = c.push_out.new.totals } in
    let t : Passing = record { motion = now_of new; touched = c.push_out.new.touched } in
    let at = goal.at.returns-clause-outcome g c in
    pass_done (world_of c.args.setting.now c.args.self.now.state) c.args.self.now.scratch.found.pairs (passing_of c.args.self.now)
    (now_of c.project_links.new.self.state) c.in_default.ensures.done.outcome (now_of two.state)
    (contacts_told g at.After-project_contacts (Ok (now_of two.state)) c.in_default-project_contacts.ensures.done.outcome) t
    (shapes_told g at.After-push_out (Ok t) c.in_default-push_out.ensures.outcome)

-- ---- what stays

pub returns-in-Err-project_contacts-clause-stays : goal.returns-in-Err-project_contacts-clause-stays
returns-in-Err-project_contacts-clause-stays g c =
    both_stay g (goal.at.returns-in-Err-project_contacts-clause-stays g c).After-project_contacts

-- what all three parts leave
all_stays : (g : _) (c : After-push_out g) → StaysInPass g.P.Projector.count g.P.Projector.width c.args.self.now
    (record c.project_contacts.new.self {
      state = record c.project_contacts.new.self.state { store = c.push_out.new.store; totals = c.push_out.new.totals };
      scratch = record c.project_contacts.new.self.scratch { touched = c.push_out.new.touched };
    })
all_stays g c =
    let two = c.project_contacts.new.self in
    let state = record two.state { store = c.push_out.new.store; totals = c.push_out.new.totals } in
    both_in_pass c.args.self.now two (record two { state = state; scratch = record two.scratch { touched = c.push_out.new.touched } })
    (both_stay g (goal.at.After-push_out g c).After-project_contacts)
    (part_in_pass two state c.push_out.new.touched two.projector refl c.push_out.ensures.limit c.push_out.ensures.copies
    c.push_out.ensures.fixed c.push_out.ensures.flags (omega arith) refl)

pub returns-in-Err-push_out-clause-stays : goal.returns-in-Err-push_out-clause-stays
returns-in-Err-push_out-clause-stays g c = all_stays g (goal.at.returns-in-Err-push_out-clause-stays g c).After-push_out

pub returns-clause-stays : goal.returns-clause-stays
returns-clause-stays g c = all_stays g (goal.at.returns-clause-stays g c).After-push_out

pub returns-clause-under_way : goal.returns-clause-under_way
returns-clause-under_way g c = λ n u.
    let at = goal.at.returns-clause-under_way g c in
    let both = both_stay g at.After-project_contacts in
    let all = all_stays g at.After-push_out in
    let old : State g.row.L = c.args.self.now.state in
    let new : State g.row.L = record c.project_contacts.new.self.state { store = c.push_out.new.store; totals = c.push_out.new.totals } in
    let w : World = world_of c.args.setting.now old in
    let inside : AreInside w.limit new.store.particles =
    subst (λ (l : ℤ). AreInside l new.store.particles) both.moved.limit c.in_default-push_out.ensures.inside in
    let ready = c.in_default-project_contacts.ensures.done.movable (n + 2 ^ 60) (c.in_default.ensures.done.movable n (movable n w u)) in
    let room : HaveRoom (n + 2 ^ 62) (ledger_of new.totals) =
    room_at (n + 2 ^ 62) (omega (arith, both.moved.whole, particles_few w (formed (parts_of w) u.well_formed)))
    (c.in_default-push_out.ensures.room (n + 2 ^ 60 + 2 ^ 60) ready.room) in
    subst (λ (v : World). IsUnderWay (n + 2 ^ 62) v) (sym (moved_world c.args.setting.now old new all.moved.same all.moved.limit))
    (moved_under_way n (n + 2 ^ 62) w new.store.particles (ledger_of new.totals) u all.fixed inside room)

pub returns-clause-handed : goal.returns-clause-handed
returns-clause-handed g c =
    omega (
      arith,
      c.in_default.ensures.handed,
      c.in_default-project_contacts.ensures.handed,
      ap (λ (t : Scratch). length t.found.pairs) c.project_links.ensures.done.scratch,
    )

-- ---- what it costs

pub returns-in-Err-clause-cost : goal.returns-in-Err-clause-cost
returns-in-Err-clause-cost g c =
    omega (
      arith,
      c.project_links.ensures.cost,
      pass_is g.row.L (g.P.Projector.width c.args.self.now.projector)
          (world_of c.args.setting.now c.args.self.now.state) c.args.self.now.scratch.found.pairs,
    )

-- the contacts cost what they cost before the links
contacts_cost : (g : _) (c : After-project_contacts g)
    → contacts_work (g.P.Projector.width c.project_links.new.self.projector) c.project_links.new.self.scratch.found.pairs
    ≡ contacts_work (g.P.Projector.width c.args.self.now.projector) c.args.self.now.scratch.found.pairs
contacts_cost g c = λ i. contacts_work (c.project_links.ensures.done.stays.width i) (c.project_links.ensures.done.scratch i).found.pairs

pub returns-in-Err-project_contacts-clause-cost : goal.returns-in-Err-project_contacts-clause-cost
returns-in-Err-project_contacts-clause-cost g c =
    let run = c.args.self.now in
    omega (
      arith,
      c.project_links.ensures.cost,
      c.project_contacts.ensures.cost,
      contacts_cost g (goal.at.returns-in-Err-project_contacts-clause-cost g c).After-project_contacts,
      pass_is g.row.L (g.P.Projector.width run.projector) (world_of c.args.setting.now run.state) run.scratch.found.pairs,
    )

shapes_cost : (g : _) (c : After-push_out g)
    → push_cost (shapes_of (lists_of c.shapes.result))
    (blocks_of (length c.project_contacts.new.self.state.store.particles) g.row.L)
    ≡ shapes_work g.row.L (world_of c.args.setting.now c.args.self.now.state)
shapes_cost g c = shape_cost_is g.row.L (length c.project_contacts.new.self.state.store.particles)
    (world_of c.args.setting.now c.args.self.now.state) (lists_of c.shapes.result) c.shapes.ensures
    (c.project_contacts.ensures.done.stays.moved.whole ∙ c.project_links.ensures.done.stays.moved.whole)

-- what all three parts cost
all_cost : (g : _) (c : After-push_out g)
    → contacts_work (g.P.Projector.width c.project_links.new.self.projector) c.project_links.new.self.scratch.found.pairs
    ≡ contacts_work (g.P.Projector.width c.args.self.now.projector) c.args.self.now.scratch.found.pairs
    → c.push_out.new.steps ≤ c.args.steps.now + pass_work g.row.L (g.P.Projector.width c.args.self.now.projector)
    (world_of c.args.setting.now c.args.self.now.state) c.args.self.now.scratch.found.pairs
all_cost g c contacts =
    let run = c.args.self.now in
    let parts = pass_is g.row.L (g.P.Projector.width run.projector) (world_of c.args.setting.now run.state) run.scratch.found.pairs in
    omega (arith, c.project_links.ensures.cost, c.project_contacts.ensures.cost, c.push_out.ensures.cost, contacts, shapes_cost g c, parts)

pub returns-in-Err-push_out-clause-cost : goal.returns-in-Err-push_out-clause-cost
returns-in-Err-push_out-clause-cost g c =
    let at = goal.at.returns-in-Err-push_out-clause-cost g c in
    all_cost g at.After-push_out (contacts_cost g at.After-project_contacts)

pub returns-clause-cost : goal.returns-clause-cost
returns-clause-cost g c =
    let at = goal.at.returns-clause-cost g c in
    all_cost g at.After-push_out (contacts_cost g at.After-project_contacts)
