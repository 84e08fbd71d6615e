use Rattle.std.proofs.Common.{sym, ap, ◌∙◌, arith, subst, length}
use Rattle.pbd_world.specs.World.{World, IsSound}
use Rattle.pbd_step.specs.States.{world_of, HasLinks}
use Rattle.pbd_step.specs.Solving.{Solved}
use Rattle.pbd_step.proofs.Keeping.{inner_scene, scene_alike, scene_pairs, scene_fixed, scene_world, taken_links, weights_taken}
use Rattle.pbd_step.proofs.snapshot.Snapshot.keep.Goals as goal
use Rattle.pbd_world.proofs.SameShape.{scene_particles}

pub take_over-requires : goal.take_over-requires
take_over-requires g c =
    let mine = c.self.inside.state in
    let other = c.solver.inside.run.state in
    let scene = inner_scene c.self.view_is c.solver.view_is c.requires.one_scene in (
      omega arith,
      (
        c.requires.lanes_high,
        scene_alike c.self.inside.setting c.solver.inside.setting mine other c.self.invariant.weights
            c.solver.invariant.weights scene,
      ),
    )

pub take_colours-requires : goal.take_colours-requires
take_colours-requires g c =
    let mine = c.self.inside.state in
    let other = c.solver.inside.run.state in
    let scene = inner_scene c.self.view_is c.solver.view_is c.requires.one_scene in
    c.self.invariant.links.pairs ∙ scene_pairs c.self.inside.setting c.solver.inside.setting mine other scene
    ∙ sym c.solver.invariant.links.pairs

pub returns-clause-world : goal.returns-clause-world
returns-clause-world g c =
    c.take_over.ensures.world (record c.self.inside.setting { gravity = c.solver.inside.setting.gravity })
    ∙ scene_world c.self.inside.setting c.solver.inside.setting c.self.inside.state c.solver.inside.run.state
    (inner_scene c.self.view_is c.solver.view_is c.requires.one_scene)
    ∙ ap (λ (s : Solved g.row.P.Denot). s.world) c.solver.view_is

pub invariant_of-self : goal.invariant_of-self
invariant_of-self g c =
    let mine = c.self.inside.state in
    let other = c.solver.inside.run.state in
    let scene = inner_scene c.self.view_is c.solver.view_is c.requires.one_scene in
    record {
      sound = subst (λ (w : World). IsSound w) (ap (λ (s : Solved g.row.P.Denot). s.world) c.solver.view_is ∙ sym (returns-clause-world g c))
          c.solver.invariant.sound;
      weights = weights_taken c.take_over.new.state other c.take_over.ensures.weights c.take_over.ensures.particles
          c.solver.invariant.weights;
      links = coe 0 1 (i. HasLinks (length (sym c.take_over.ensures.particles i)) (sym c.take_over.ensures.links i)
          c.take_colours.new.colours) (taken_links c.self.invariant.links c.solver.invariant.links
          (scene_particles (world_of c.self.inside.setting mine) (world_of c.solver.inside.setting other) scene)
          (scene_fixed c.self.inside.setting c.solver.inside.setting mine other scene) c.take_colours.ensures.taken);
    }

pub returns-clause-sound : goal.returns-clause-sound
returns-clause-sound g c = (invariant_of-self g c).sound
