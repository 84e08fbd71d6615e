use Rattle.std.proofs.Common.{◌≤◌, drop}
use Rattle.pbd_run.proofs.ObjTextLaws.{FacesWritten}
use Rattle.pbd_run.proofs.obj_text.Faces.write_faces.Given as goal

-- the faces so far are written
abbrev pub invariant-loop-size : goal.invariant-loop-size
invariant-loop-size g l = record {
  written : FacesWritten l.self.base l.self.mesh.now (drop l.size-index l.sizes) l.rest (g.K.Sink.written l.fn.sink)
      (g.K.Sink.written l.sink);
  later : g.K.Sink.faults l.fn.sink ≤ g.K.Sink.faults l.sink;
}
