-- What the parts of a world in its ranges are.
use Rattle.std.proofs.Common.{pos, ◌≤ℤ◌, IsTrue}
use Rattle.pbd_world.specs.Valid.{is_well_formed}
use Rattle.pbd_world.specs.World.{World, parts_of}
use Rattle.pbd_world.proofs.WorldParts.{formed}
use Rattle.pbd_store.specs.Moving.{AreInside}
use Rattle.pbd_store.proofs.Limits.{valid_inside}
use Rattle.pbd_step.proofs.UnderWay.{between_parts, thickness_of}

pub thickness_range : (w : World) → IsTrue (is_well_formed (parts_of w)) → (pos 0 ≤ℤ w.thickness) × (w.thickness ≤ℤ pos 1048576)
thickness_range w h = between_parts (pos 1048576) w.thickness (thickness_of w (formed (parts_of w) h))

pub places_inside : (w : World) → IsTrue (is_well_formed (parts_of w)) → AreInside w.limit w.particles
places_inside w h = let f = formed (parts_of w) h in valid_inside w.limit w.particles f.limit f.particles
