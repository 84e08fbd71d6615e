use Rattle.std.proofs.Common.{◌∙◌, ap, arith, rules, w64, FitsSigned}
use Rattle.std.proofs.lemmas.Int.{to_z-of_z}
use Rattle.std.proofs.lemmas.List.{length-replicate}
use Rattle.pbd_num.specs.declared.Vec3.{Vec3}
use Rattle.pbd_store.proofs.Filling.{filled_all, filled_more}
use Rattle.pbd_store.proofs.rows.PlaceRows.picked.Goals as goal

pub loop-j-init : goal.loop-j-init
loop-j-init g c = record {
  x = record { whole = length-replicate _ _; below = λ k h. absurd (omega arith) };
  y = record { whole = length-replicate _ _; below = λ k h. absurd (omega arith) };
  z = record { whole = length-replicate _ _; below = λ k h. absurd (omega arith) };
}

pub loop-j-preserved : goal.loop-j-preserved
loop-j-preserved g c =
    let inv = c.loop-j.invariant in
    let e = c.get-place.ensures in
    let fx : FitsSigned w64 c.get-place.result.x = search rules in
    let fy : FitsSigned w64 c.get-place.result.y = search rules in
    let fz : FitsSigned w64 c.get-place.result.z = search rules in
    record {
      x = simp to_z-of_z (filled_more _ inv.x (omega arith) (ap (λ (v : Vec3). v.x) e));
      y = simp to_z-of_z (filled_more _ inv.y (omega arith) (ap (λ (v : Vec3). v.y) e));
      z = simp to_z-of_z (filled_more _ inv.z (omega arith) (ap (λ (v : Vec3). v.z) e));
    }

pub returns-clause-x : goal.returns-clause-x
returns-clause-x g c = c.from_array.ensures ∙ filled_all c.loop-j.j (omega arith) c.loop-j.invariant.x

pub returns-clause-y : goal.returns-clause-y
returns-clause-y g c = c.from_array-2.ensures ∙ filled_all c.loop-j.j (omega arith) c.loop-j.invariant.y

pub returns-clause-z : goal.returns-clause-z
returns-clause-z g c = c.from_array-3.ensures ∙ filled_all c.loop-j.j (omega arith) c.loop-j.invariant.z
