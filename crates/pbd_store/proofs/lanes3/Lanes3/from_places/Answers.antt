use Rattle.std.proofs.Common.{◌∙◌, ap, arith, rules, w64, FitsSigned, ℤ, List}
use Rattle.std.proofs.lemmas.Int.{to_z-of_z}
use Rattle.std.proofs.lemmas.List.{length-replicate}
use Rattle.pbd_num.specs.declared.Vec3.{Vec3}
use Rattle.pbd_lanes.specs.Lane.{lane}
use Rattle.pbd_store.proofs.Filling.{filled_more}
use Rattle.pbd_store.proofs.lanes3.Lanes3.from_places.Goals as goal

pub loop-j-init : goal.loop-j-init
loop-j-init g c = record {
  x = record { whole = length-replicate _ _; below = λ k h. absurd (omega arith) };
  y = record { whole = length-replicate _ _; below = λ k h. absurd (omega arith) };
  z = record { whole = length-replicate _ _; below = λ k h. absurd (omega arith) };
}

pub loop-j-preserved : goal.loop-j-preserved
loop-j-preserved g c =
    let inv = c.loop-j.invariant in
    let e = c.place_at-place.ensures in
    let fx : FitsSigned w64 c.place_at-place.result.x = search rules in
    let fy : FitsSigned w64 c.place_at-place.result.y = search rules in
    let fz : FitsSigned w64 c.place_at-place.result.z = search rules in
    record {
      x = simp to_z-of_z (filled_more _ inv.x (omega arith) (ap (λ (v : Vec3). v.x) e));
      y = simp to_z-of_z (filled_more _ inv.y (omega arith) (ap (λ (v : Vec3). v.y) e));
      z = simp to_z-of_z (filled_more _ inv.z (omega arith) (ap (λ (v : Vec3). v.z) e));
    }

pub returns : goal.returns
returns g c =
    let inv = c.loop-j.invariant in
    λ j h i. record {
      x = (ap (λ (l : List ℤ). lane l j) c.from_array.ensures ∙ inv.x.below j (omega arith)) i;
      y = (ap (λ (l : List ℤ). lane l j) c.from_array-2.ensures ∙ inv.y.below j (omega arith)) i;
      z = (ap (λ (l : List ℤ). lane l j) c.from_array-3.ensures ∙ inv.z.below j (omega arith)) i;
    }
