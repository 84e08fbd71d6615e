use Rattle.std.proofs.Common.{◌≡◌, arith, refl, ◌∙◌, sym, ap, List, Bool, length}
use Rattle.pbd_lanes.specs.Lane.{is_set}
use Rattle.pbd_store.specs.Stored.{Stored}
use Rattle.pbd_store.proofs.Scattering.{scattered_more, scattered_none}
use Rattle.pbd_store.proofs.store.Store.scatter.Goals as goal

pub loop-j-init : goal.loop-j-init
loop-j-init g c = record { done = scattered_none _ _ _ _ _ _; limit = refl; copies = refl }

pub loop-j-preserved : goal.loop-j-preserved
loop-j-preserved g c =
    let set = c.to_array-set.ensures in
    let long : length c.self.inside.columns ≡ length c.args.self.now.particles = ap (λ (s : Stored). length s.particles) c.self.view_is in
    let more = scattered_more c.args.indices.now c.to_array-set.result c.args.values.now.x c.args.values.now.y c.args.values.now.z
    c.self.inside.columns c.loop-j.self-inside.columns c.loop-j.j g.row.L c.loop-j.invariant.done (omega arith) (rw set c.requires.apart)
    (λ s. omega (arith, long, c.requires.within c.loop-j.j (omega arith) (ap (λ (b : List Bool). is_set b c.loop-j.j) (sym set) ∙ s))) in
    record {
      done = rw c.place_if.ensures (rw c.place-place.ensures more);
      limit = c.loop-j.invariant.limit;
      copies = c.loop-j.invariant.copies;
    }
