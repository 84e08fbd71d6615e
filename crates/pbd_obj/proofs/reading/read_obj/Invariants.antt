use Rattle.std.proofs.Common.{◌≡◌, ◌+◌, ◌*◌, ◌^◌, ◌≤◌, length}
use Rattle.pbd_obj.specs.Reading.{read}
use Rattle.pbd_obj.proofs.ReadLemmas.{reads_on}
use Rattle.pbd_obj.proofs.reading.read_obj.Given as goal

-- the mesh so far and the lines that are left make the whole
abbrev pub invariant-loop-mesh : goal.invariant-loop-mesh
invariant-loop-mesh l = record {
  reads : reads_on l.number l.mesh l.rest ≡ read l.text;
  few : 3 * length l.mesh.places + length l.rest ≤ 2 ^ 31;
  lines : l.number + length l.rest ≤ 2 ^ 31 + 1;
}

abbrev pub decreases-loop-mesh : goal.decreases-loop-mesh
decreases-loop-mesh l = length l.rest
