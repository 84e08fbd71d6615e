use Rattle.std.proofs.Common.{sym, ap, ◌∙◌, arith, subst, length, List}
use Rattle.pbd_world.specs.declared.parts.Link.{Link}
use Rattle.pbd_world.specs.World.{World, IsSound, AreOfOneScene}
use Rattle.pbd_step.specs.declared.state.Setting.{Setting}
use Rattle.pbd_step.specs.declared.state.Scratch.{Scratch}
use Rattle.pbd_step.specs.States.{world_of, HasLinks, HaveSpace}
use Rattle.pbd_step.specs.Solving.{Solved, AreAlike}
use Rattle.pbd_step.proofs.Keeping.{scene_alike, scene_fixed, scene_world, alike_join, kept_moved, said_room, weights_taken, taken_alike}
use Rattle.pbd_step.proofs.solver.Solver.take_world.Goals.{After-self}
use Rattle.pbd_step.proofs.solver.Solver.take_world.Goals as goal

-- the world inside and the one that is taken over are of one scene
are_of_one_scene : (g : _) (c : After-self g)
    → AreOfOneScene (world_of c.self.inside.setting c.self.inside.run.state) (world_of c.args.setting.now c.args.state.now)
are_of_one_scene g c =
    coe 0 1 (i. AreOfOneScene (sym c.self.view_is i).world (world_of c.args.setting.now c.args.state.now)) c.requires.one_scene

are_alike : (g : _) (c : After-self g) → AreAlike c.self.inside.run.state c.args.state.now
are_alike g c = scene_alike c.self.inside.setting c.args.setting.now c.self.inside.run.state c.args.state.now
    c.self.invariant.weights c.requires.saved.weights (are_of_one_scene g c)

pub restore_coloured-requires : goal.restore_coloured-requires
restore_coloured-requires g c =
    let at = (goal.at.restore_coloured-requires g c).After-self in
    let fixed = scene_fixed c.self.inside.setting c.args.setting.now c.self.inside.run.state c.args.state.now (are_of_one_scene g at) in (
      omega arith,
      (
        omega arith,
        (c.requires.lanes_high, (are_alike g at, (fixed, (c.self.invariant.links, (c.requires.saved.links, c.self.invariant.knows))))),
      ),
    )

pub returns-clause-world : goal.returns-clause-world
returns-clause-world g c =
    c.restore_coloured.ensures.taken.world (record c.self.inside.setting { gravity = c.args.setting.now.gravity })
    ∙ scene_world c.self.inside.setting c.args.setting.now c.self.inside.run.state c.args.state.now
    (are_of_one_scene g (goal.at.returns-clause-world g c).After-self)

pub invariant_of-self : goal.invariant_of-self
invariant_of-self g c =
    let mine = c.self.inside.run.state in
    let other = c.args.state.now in
    let setting : Setting = record c.self.inside.setting { gravity = c.args.setting.now.gravity } in
    let alike = are_alike g (goal.at.invariant_of-self g c).After-self in
    let space = coe 0 1 (i. HaveSpace (alike.particles i) (alike.links i) c.self.inside.run.scratch) c.self.invariant.space in
    let now : AreAlike other c.restore_coloured.new.run.state = taken_alike c.restore_coloured.ensures.taken in
    kept_moved setting other c.restore_coloured.new.run.state c.self.inside.kept c.restore_coloured.new.run.colours
    c.restore_coloured.new.run.scratch
    (subst (λ (w : World). IsSound w) (sym (returns-clause-world g c)) c.requires.saved.sound)
    (weights_taken c.restore_coloured.new.run.state other c.restore_coloured.ensures.taken.weights c.restore_coloured.ensures.taken.particles
    c.requires.saved.weights) now
    (alike_join c.self.inside.kept mine other c.self.invariant.alike alike)
    (subst (λ (ls : List Link). HasLinks (length other.store.particles) ls c.restore_coloured.new.run.colours)
    (sym c.restore_coloured.ensures.taken.links) c.restore_coloured.ensures.links)
    (subst (λ (t : Scratch). HaveSpace (length other.store.particles) (length other.links.items) t)
    (sym c.restore_coloured.ensures.scratch) (said_room c.restore_coloured.new.run.scratch.are_links_laid space))
    c.restore_coloured.ensures.knows

pub returns-clause-sound : goal.returns-clause-sound
returns-clause-sound g c = (invariant_of-self g c).sound

pub returns-clause-copies : goal.returns-clause-copies
returns-clause-copies g c = omega (arith, c.restore_coloured.ensures.taken.copies, ap (λ (s : Solved g.row.P.Denot). s.copies) c.self.view_is)
