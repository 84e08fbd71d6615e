use Rattle.std.proofs.Common.{◌≡◌, ◌∙◌, ◌∷◌, refl}
use Rattle.pbd_outcome.specs.Split.{scenes}
use Rattle.pbd_run.proofs.HostingLaws.{begins_with, read_ends, read_next, read_stops}
use Rattle.pbd_run.proofs.LoopLaws.{first_left, none_left, shorter}
use Rattle.pbd_script.specs.Lines.{left_of}
use Rattle.pbd_run.proofs.scenes.read_scenes.Goals as goal

-- the scene of this turn, and those behind it
here : (g : _) (c : goal.In-Ok g) → left_of scenes c.loop-rest.rest
    ≡ c.first_scene.result.0.now ∷ left_of scenes c.first_scene.result.1
here g c = first_left scenes c.loop-rest.rest c.first_scene.result.1 c.in-Some.text c.first_scene.result.0.now c.in-Some.is
    c.first_scene.ensures

pub loop-rest-init : goal.loop-rest-init
loop-rest-init g c = record {
  has = begins_with (scenes c.args.text.now) c.new-read.result.items c.new-read.ensures.items;
  unwritten = refl;
}

pub returns-in-Err-clause-stopped : goal.returns-in-Err-clause-stopped
returns-in-Err-clause-stopped g c =
    let text = first_left scenes c.loop-rest.rest c.first_scene.result.1 c.in-Some.text c.first_scene.result.0.now c.in-Some.is
    c.first_scene.ensures in
    rw c.loop-rest.invariant.unwritten at (read_stops (scenes c.args.text.now) _ c.first_scene.result.0.now _ c.loop-rest.read.items _ _
    _ _ c.in-Err.status text c.loop-rest.invariant.has c.in-Err.ensures.stopped)

pub loop-rest-smaller : goal.loop-rest-smaller
loop-rest-smaller g c = shorter _ _ _ (here g c)

pub loop-rest-preserved : goal.loop-rest-preserved
loop-rest-preserved g c = record {
  has = read_next _ _ c.first_scene.result.0.now _ _ _ (here g c) c.loop-rest.invariant.has c.in-Ok.ensures.added;
  unwritten = c.in-Ok.ensures.unwritten ∙ c.loop-rest.invariant.unwritten;
}

pub returns-clause-scenes : goal.returns-clause-scenes
returns-clause-scenes g c = read_ends _ _ c.loop-rest.read.items (none_left scenes c.loop-rest.rest c.in_default.not-Some)
    c.loop-rest.invariant.has
