-- The start of a step without its tracks.
use Rattle.std.specs.Prelude.{[], ℤ, ◌*ℤ◌}
use Rattle.pbd_num.specs.declared.Vec3.{Vec3}
use Rattle.pbd_world.specs.World.{World}

-- the world without its tracks, where held particles stay
abbrev pub unled : World → World
unled w = record w { tracks = [] }

-- a vector so many times
abbrev pub times : Vec3 → ℤ → Vec3
times v n = record { x = v.x *ℤ n; y = v.y *ℤ n; z = v.z *ℤ n }
