use Rattle.std.proofs.Common.{refl, inl, inr, w64}
use Rattle.std.proofs.lemmas.Int.{to_z-of_z}
use Rattle.pbd_outcome.specs.Outcome.{log_outcome, log_refused, scene_in}
use Rattle.pbd_outcome.proofs.OutcomeLaws.{log_is}
use Rattle.pbd_run.proofs.InputLaws.{log_did, version_limit}
use Rattle.pbd_run.proofs.SceneLaws.{scene_ended}
use Rattle.pbd_run.proofs.inputs.replay_input.Goals as goal
use Rattle.pbd_log.proofs.Logs.{version_fits}

pub returns-in-Ok-scene_in : goal.returns-in-Ok-scene_in
returns-in-Ok-scene_in g c = record {
  outcome = log_outcome c.in-Ok.log;
  its = inl (c.in-Ok.log, c.in-Ok.ensures.found, refl);
  does = log_did c.in-Ok.log c.in-Ok-scene_in.scene _ _ _ _ _
      (rw (
        c.limit.ensures,
        to_z-of_z w64 c.in-Ok.log.limit (version_fits c.in-Ok.log.version c.in-Ok.log.limit c.in-Ok.ensures.found.known),
        c.scene.ensures,
      ) at c.in-Ok-scene_in.ensures) c.run_task.ensures;
}

pub returns-in-Err-scene_in : goal.returns-in-Err-scene_in
returns-in-Err-scene_in g c = record {
  outcome = log_outcome c.in-Ok.log;
  its = inl (c.in-Ok.log, c.in-Ok.ensures.found, refl);
  does = rw (log_is c.in-Ok.log) (scene_ended c.in-Err-scene_in.why (scene_in c.in-Ok.log.limit c.in-Ok.log.scene) _ _ _ _ _ _
      (rw (
        c.limit.ensures,
        to_z-of_z w64 c.in-Ok.log.limit
            (version_fits c.in-Ok.log.version c.in-Ok.log.limit c.in-Ok.ensures.found.known),
        c.scene.ensures,
      ) at c.in-Err-scene_in.ensures)
      c.stop_scene.ensures);
}

pub returns-in-Err : goal.returns-in-Err
returns-in-Err g c = record {
  outcome = log_refused c.in-Err.fault.offset;
  its = inr (c.in-Err.fault.offset, c.in-Err.ensures.place, refl);
  does = c.stop_log.ensures;
}

pub scene_in-requires : goal.scene_in-requires
scene_in-requires g c = rw (
  c.limit.ensures,
  to_z-of_z w64 c.in-Ok.log.limit
      (version_fits c.in-Ok.log.version c.in-Ok.log.limit c.in-Ok.ensures.found.known),
)
    (version_limit c.in-Ok.log.version c.in-Ok.log.limit c.in-Ok.ensures.found.known)
