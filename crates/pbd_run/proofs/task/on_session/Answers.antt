use Rattle.pbd_run.proofs.ObjLaws.{refused_commands, served_obj}
use Rattle.pbd_run.proofs.SessionLaws.{obj_did, record_did, replay_did, script_did, steps_did, told_as}
use Rattle.pbd_run.proofs.task.on_session.Goals as goal

pub returns-in-Simulate : goal.returns-in-Simulate
returns-in-Simulate g c =
    let run = c.run_script.ensures in
    rw c.in-Simulate.is (script_did _ c.args.it.scene.now c.in-Simulate.script.now _ _ _ _ _ _ c.requires.begins c.status_of.ensures
    (record { bytes = run.bytes; ended = run.refused; cause = run.cause }))

pub returns-in-Record : goal.returns-in-Record
returns-in-Record g c =
    let run = c.run_record.ensures in
    let ready = rw c.in-Record.is at c.requires.ready in
    rw c.in-Record.is (record_did _ c.in-Record.text.now c.args.it.scene.now c.in-Record.script.now _ _ _ _ _ _ c.requires.begins ready.limit
    c.status_of-in-Record.ensures (record { bytes = run.bytes; ended = run.refused; cause = run.cause }))

pub serve_script-requires-clause-ready : goal.serve_script-requires-clause-ready
serve_script-requires-clause-ready g c =
    let ready = rw c.in-Obj.is at c.requires.ready in
    (c.requires.lanes_low, c.requires.lanes_high, ready.0)

pub returns-in-Obj : goal.returns-in-Obj
returns-in-Obj g c =
    let run = c.serve_script.ensures in
    rw c.in-Obj.is (obj_did c.in-Obj.base c.in-Obj.mesh.now _ c.args.it.scene.now c.in-Obj.script.now _ _ _ _ _ _
    c.requires.begins c.status_of-in-Obj.ensures (told_as (served_obj _ _ _ _) (refused_commands _ _)
    (record { bytes = run.bytes; ended = run.refused; cause = run.cause })))

pub returns-in-Replay : goal.returns-in-Replay
returns-in-Replay g c =
    let run = c.run_replay.ensures in
    let bytes = rw c.in-Replay.is at run.bytes in
    let ended = rw c.in-Replay.is at run.ended in
    rw c.in-Replay.is (replay_did _ c.args.it.scene.now c.in-Replay.log.entries _ _ _ _ _ _ c.requires.begins c.status_of-in-Replay.ensures
    (record { bytes = bytes; ended = ended; cause = run.cause }))

pub returns-in-Large : goal.returns-in-Large
returns-in-Large g c =
    let run = c.run.ensures in
    rw c.in-Large.is (steps_did c.in-Large.large.number c.in-Large.large.size _ c.args.it.scene.now _ _ _ _ _ _ c.requires.begins
    c.status_of-in-Large.ensures (record { bytes = run.bytes; ended = run.reply; cause = run.cause }))
