use Rattle.pbd_num.specs.declared.Vec3.{Vec3}
use Rattle.pbd_world.specs.declared.parts.Particle.{Particle}
use Rattle.pbd_store.specs.declared.rows.PlaceKind.{PlaceKind}
use Rattle.pbd_store.specs.declared.rows.PlaceKind.TheVariants as field

-- one of the two places of a particle
abbrev pub place_of_kind : PlaceKind → Particle → Vec3
place_of_kind field.At p = p.at
place_of_kind field.Before p = p.before
