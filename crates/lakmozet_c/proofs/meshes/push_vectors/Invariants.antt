use Rattle.std.proofs.Common.{◌≡◌, ◌++◌, take, map}
use Rattle.pbd_num.specs.declared.Vec3.{Vec3}
use Rattle.pbd_cloth.specs.declared.place.Place.{Place}
use Rattle.lakmozet_c.specs.Calls.{vector_of}
use Rattle.lakmozet_c.proofs.meshes.push_vectors.Given as goal

abbrev pub invariant-loop-place : goal.invariant-loop-place
invariant-loop-place l = l.vectors ≡ l.fn.vectors ++ map {A = Place} {B = Vec3} vector_of (take l.place-index l.places)
