-- Rows of four numbers.
use Rattle.std.specs.Prelude.{pos}
use Rattle.pbd_num.specs.declared.Vec3.{Vec3}
use Rattle.pbd_num.specs.declared.row.Row.{Row}

-- the three axes of a row
abbrev pub vector_of : Row → Vec3
vector_of r = record { x = r.x; y = r.y; z = r.z }

-- four zeros
abbrev pub no_row : Row
no_row = record { x = pos 0; y = pos 0; z = pos 0; flag = pos 0 }
