use Rattle.std.proofs.Common.{◌∙◌, List, ap, length, sym}
use Rattle.pbd_num.specs.declared.Vec3.{Vec3}
use Rattle.pbd_store.specs.declared.rows.Place.{Place}
use Rattle.pbd_store.proofs.InRows.{by_long, lent_seen}
use Rattle.pbd_store.proofs.rows.PlaceRows.rows.Goals as goal

pub returns-clause-long : goal.returns-clause-long
returns-clause-long c = ap (λ (rs : List Place). length rs) c.as_slice.ensures.value
    ∙ sym (by_long c.self.inside.low.items c.self.inside.high.items) ∙ ap (λ (vs : List Vec3). length vs) c.self.view_is

pub returns-clause-places : goal.returns-clause-places
returns-clause-places c = lent_seen c.self.inside.low.items c.self.inside.high.items c.self.invariant.long c.self.view_is
    c.as_slice.ensures.value
