use Rattle.std.proofs.Common.{◌≡◌, refl, sym, ap, ◌∙◌, ◌+◌, ◌*◌, arith, subst, length, ℕ, ◌≤◌, List}
use Rattle.pbd_world.specs.declared.parts.Link.{Link}
use Rattle.pbd_world.specs.World.{World, IsSound, AreOfOneScene}
use Rattle.pbd_sound.specs.Described.{told}
use Rattle.pbd_sound.specs.Soundness.{soundness}
use Rattle.pbd_sound.proofs.Sounding.{tested_sound}
use Rattle.pbd_sound.proofs.Telling.{told_scene}
use Rattle.pbd_step.specs.declared.state.Setting.{Setting}
use Rattle.pbd_step.specs.States.{world_of, HasLinks, HaveSpace}
use Rattle.pbd_step.specs.Solving.{Solved, AreAlike}
use Rattle.pbd_step.proofs.Keeping.{formed_fit, scene_pairs, scene_fixed, kept_moved, weights_taken, taken_alike}
use Rattle.pbd_step.proofs.Assuming.{Holds, held_world, judged, flipped, told_alike}
use Rattle.pbd_step.proofs.solver.Solver.assume.Goals.{After-describe, After-gravity-gravity, After-judge, In_default}
use Rattle.pbd_step.proofs.solver.Solver.assume.Goals as goal

pub describe-requires : goal.describe-requires
describe-requires g c =
    let seen = c.self.view_is in
    let fit = formed_fit (world_of c.self.inside.setting c.self.inside.run.state) c.self.invariant.sound.well_formed in (
      omega arith,
      (
        c.requires.lanes_high,
        (
          c.self.invariant.alike,
          (
            c.requires.particles ∙ sym (ap (λ (s : Solved g.row.P.Denot). length s.world.particles) seen),
            (
              c.requires.links ∙ sym (ap (λ (s : Solved g.row.P.Denot). length s.world.links) seen),
              (fit.links, c.self.invariant.weights),
            ),
          ),
        ),
      ),
    )

-- the second state has room for what the first one has
are_alike : (g : _) (c : After-describe g) → AreAlike c.describe.new.state c.self.inside.run.state
are_alike g c = told_alike (g.D.Described.seen c.args.described.now) c.self.inside.setting c.describe.new.state c.self.inside.run.state
    c.describe.ensures.weights c.self.invariant.weights (c.describe.ensures.world c.self.inside.setting)

pub invariant_of-self : goal.invariant_of-self
invariant_of-self g c = record {
  sound = c.self.invariant.sound;
  weights = c.self.invariant.weights;
  links = c.self.invariant.links;
  space = c.self.invariant.space;
  knows = c.self.invariant.knows;
  alike = are_alike g (goal.at.invariant_of-self g c).After-describe;
}

-- the second state holds the world that is told
holds : (g : _) (c : After-gravity-gravity g) → Holds (g.D.Described.seen c.args.described.now) c.self.inside.setting c.describe.new.state
    (world_of c.self.inside.setting c.self.inside.run.state) c.gravity-gravity.result
holds g c = record { gravity_is = c.gravity-gravity.ensures; world = c.describe.ensures.world c.self.inside.setting }

judged_so : (g : _) (c : After-judge g)
    → c.judge.result ≡ soundness (told (g.D.Described.seen c.args.described.now) (world_of c.self.inside.setting c.self.inside.run.state))
judged_so g c = judged c.as_slice-tracks.result.now c.numbers_of-numbers.result _ (holds g (goal.at.After-judge g c).After-gravity-gravity)
    c.as_slice-tracks.ensures c.numbers_of-numbers.ensures c.judge.ensures.value

judging_cost : (g : _) (c : After-judge g) → c.judge.new.steps ≤ c.args.steps.now + 7 * length c.args.self.now.world.particles + 1
judging_cost g c =
    omega (
      arith,
      c.describe.ensures.cost,
      c.judge.ensures.cost,
      (are_alike g (goal.at.After-judge g c).After-describe).particles,
      ap (λ (s : Solved g.row.P.Denot). length s.world.particles) c.self.view_is,
    )

pub returns-in-Err-clause-exact : goal.returns-in-Err-clause-exact
returns-in-Err-clause-exact g c =
    sym c.in-Err.is ∙ judged_so g (goal.at.returns-in-Err-clause-exact g c).After-judge
    ∙ ap (λ (s : Solved g.row.P.Denot). soundness (told (g.D.Described.seen c.args.described.now) s.world)) c.self.view_is

pub returns-in-Err-clause-cost : goal.returns-in-Err-clause-cost
returns-in-Err-clause-cost g c = judging_cost g (goal.at.returns-in-Err-clause-cost g c).After-judge

-- the world that is told is sound
is_sound : (g : _) (c : In_default g)
    → IsSound (told (g.D.Described.seen c.args.described.now) (world_of c.self.inside.setting c.self.inside.run.state))
is_sound g c = tested_sound (g.D.Described.seen c.args.described.now) (world_of c.self.inside.setting c.self.inside.run.state)
    c.self.invariant.sound (sym (judged_so g (goal.at.In_default g c).After-judge) ∙ c.in_default.is)

pub restore-requires : goal.restore-requires
restore-requires g c =
    let at = goal.at.restore-requires g c in
    let mine = c.self.inside.run.state in
    let other = c.describe.new.state in
    let w = world_of c.self.inside.setting mine in
    let setting : Setting = record c.self.inside.setting { gravity = c.gravity-gravity.result } in
    let held = sym (held_world (holds g at.After-gravity-gravity)) in
    let sound : IsSound (world_of setting other) = subst (λ (v : World). IsSound v) held (is_sound g at.In_default) in
    let alike : AreAlike mine other = flipped other mine (are_alike g at.After-describe) in
    let fit = formed_fit (world_of setting other) sound.well_formed in
    let scene : AreOfOneScene w (world_of setting other) = subst (λ (v : World). AreOfOneScene w v) held
    (told_scene (g.D.Described.seen c.args.described.now) w) in
    let fixed = scene_fixed c.self.inside.setting setting mine other scene in
    let pairs = c.self.invariant.links.pairs ∙ scene_pairs c.self.inside.setting setting mine other scene in
    let room : length other.links.items ≤ c.self.inside.run.colours.room = omega (arith, c.self.invariant.links.room, alike.links) in
    let space = subst (λ (m : ℕ). HaveSpace (length other.store.particles) m c.self.inside.run.scratch) alike.links
    (subst (λ (n : ℕ). HaveSpace n (length mine.links.items) c.self.inside.run.scratch) alike.particles c.self.invariant.space) in (
      omega arith,
      (
        c.requires.lanes_high,
        (
          alike,
          (
            fit.links,
            (
              fit.in_range,
              (
                c.self.invariant.links.particles ∙ alike.particles,
                (pairs, (room, (space, (fixed, (c.self.invariant.links.live, c.self.invariant.knows))))),
              ),
            ),
          ),
        ),
      ),
    )

pub invariant_of-self-2 : goal.invariant_of-self-2
invariant_of-self-2 g c =
    let at = goal.at.invariant_of-self-2 g c in
    let other = c.describe.new.state in
    let setting : Setting = record c.self.inside.setting { gravity = c.gravity-gravity.result } in
    let same = c.restore.ensures.taken.world setting ∙ held_world (holds g at.After-gravity-gravity) in
    let now : AreAlike other c.restore.new.state = taken_alike c.restore.ensures.taken in
    kept_moved setting other c.restore.new.state other c.restore.new.colours c.restore.new.scratch
    (subst (λ (v : World). IsSound v) (sym same) (is_sound g at.In_default))
    (weights_taken c.restore.new.state other c.restore.ensures.taken.weights c.restore.ensures.taken.particles c.describe.ensures.weights)
    now (record { particles = refl; limit = refl; weights = refl; links = refl })
    (subst (λ (ls : List Link). HasLinks (length other.store.particles) ls c.restore.new.colours)
    (sym c.restore.ensures.taken.links) c.restore.ensures.links)
    c.restore.ensures.space c.restore.ensures.knows

pub returns-clause-exact : goal.returns-clause-exact
returns-clause-exact g c =
    sym c.in_default.is ∙ judged_so g (goal.at.returns-clause-exact g c).After-judge
    ∙ ap (λ (s : Solved g.row.P.Denot). soundness (told (g.D.Described.seen c.args.described.now) s.world)) c.self.view_is

pub returns-clause-world : goal.returns-clause-world
returns-clause-world g c =
    c.restore.ensures.taken.world (record c.self.inside.setting { gravity = c.gravity-gravity.result })
    ∙ held_world (holds g (goal.at.returns-clause-world g c).After-gravity-gravity)
    ∙ ap (λ (s : Solved g.row.P.Denot). told (g.D.Described.seen c.args.described.now) s.world) c.self.view_is

pub returns-clause-sound : goal.returns-clause-sound
returns-clause-sound g c = (invariant_of-self-2 g c).sound

pub returns-clause-one_scene : goal.returns-clause-one_scene
returns-clause-one_scene g c =
    subst (λ (v : World). AreOfOneScene c.args.self.now.world v) (sym (returns-clause-world g c))
    (told_scene (g.D.Described.seen c.args.described.now) c.args.self.now.world)

pub returns-clause-cost : goal.returns-clause-cost
returns-clause-cost g c = judging_cost g (goal.at.returns-clause-cost g c).After-judge

pub returns-in-Err-clause-kept : goal.returns-in-Err-clause-kept
returns-in-Err-clause-kept g c =
    let run = c.self.inside.run in
    (λ i. record {
      world = world_of c.self.inside.setting run.state;
      projector = run.projector;
      copies = run.state.store.copies + c.describe.ensures.copies i;
    }) ∙ c.self.view_is

pub returns-in-Err-clause-copies : goal.returns-in-Err-clause-copies
returns-in-Err-clause-copies g c = omega (arith, c.describe.ensures.copies, ap (λ (s : Solved g.row.P.Denot). s.copies) c.self.view_is)

pub returns-clause-copies : goal.returns-clause-copies
returns-clause-copies g c = omega (
  arith,
  c.describe.ensures.copies,
  c.restore.ensures.taken.copies,
  ap (λ (s : Solved g.row.P.Denot). s.copies) c.self.view_is,
)
