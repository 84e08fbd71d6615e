use Rattle.std.proofs.Common.{List, ap, arith, length}
use Rattle.pbd_num.specs.declared.Vec3.{Vec3}
use Rattle.pbd_store.specs.declared.rows.Place.{Place}
use Rattle.pbd_store.proofs.InRows.{by_long}
use Rattle.pbd_store.proofs.rows.PlaceRows.copy_from.Goals as goal

pub copy_from_slice-requires : goal.copy_from_slice-requires
copy_from_slice-requires c = omega (
  arith,
  c.requires,
  ap (λ (vs : List Vec3). length vs) c.self.view_is,
  by_long c.self.inside.low.items c.self.inside.high.items,
  ap (λ (vs : List Vec3). length vs) c.other.view_is,
  by_long c.other.inside.low.items c.other.inside.high.items,
  ap (λ (rs : List Place). length rs) c.deref.ensures.value,
)
