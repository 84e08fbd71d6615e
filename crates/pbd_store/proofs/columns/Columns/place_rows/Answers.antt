use Rattle.std.proofs.Common.{arith, sym, ◌∙◌, ◌^◌, subst}
use Rattle.pbd_num.specs.declared.Vec3.{Vec3}
use Rattle.pbd_num.specs.Vectors.{Within}
use Rattle.pbd_store.proofs.Listing.{count_is, place_is}
use Rattle.pbd_store.proofs.columns.Columns.place_rows.Goals as goal

pub returns-clause-long : goal.returns-clause-long
returns-clause-long g c = omega (
  arith,
  count_is c.self.invariant.padded c.self.view_is,
  c.self.invariant.padded.places,
  c.rows.ensures.long,
)

pub returns-clause-each : goal.returns-clause-each
returns-clause-each g c =
    let place = place_is c.self.invariant.padded c.self.view_is in
    λ i lt near. c.rows.ensures.places i (subst (λ (v : Vec3). Within (2 ^ 30) v) (place i) near) ∙ sym (place i)
