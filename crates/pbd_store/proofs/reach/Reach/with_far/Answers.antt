use Rattle.std.proofs.Common.{◌≤◌, arith, subst, unsigned_abs, rules, w32, w64, ℤ, FitsSigned}
use Rattle.std.proofs.lemmas.Int.{to_z-of_z}
use Rattle.pbd_store.proofs.reach.Reach.with_far.Goals as goal

pub returns-clause-kept : goal.returns-clause-kept
returns-clause-kept c = let l = c.ranges.limit in simp to_z-of_z at c.with.ensures.kept

pub returns-clause-own : goal.returns-clause-own
returns-clause-own c =
    let l = c.ranges.limit in
    let own = simp to_z-of_z at c.with.ensures.own in
    let n = unsigned_abs c.args.limit in
    let x : FitsSigned w32 c.near.result = record { sfits = c.near.type_inv } in
    let y : FitsSigned w32 c.near-2.result = record { sfits = c.near-2.type_inv } in
    let z : FitsSigned w32 c.near-3.result = record { sfits = c.near-3.type_inv } in
    let place_x : FitsSigned w64 c.args.place.x = search rules in
    let place_y : FitsSigned w64 c.args.place.y = search rules in
    let place_z : FitsSigned w64 c.args.place.z = search rules in
    record {
      x = λ h. subst (λ (m : ℤ). unsigned_abs m ≤ n) (to_z-of_z w64 c.args.place.x place_x) (c.near.ensures.same n (omega (arith, c.requires.high))
          (subst (λ (m : ℤ). unsigned_abs m ≤ n) (to_z-of_z w32 c.near.result x) (own.x h)));
      y = λ h. subst (λ (m : ℤ). unsigned_abs m ≤ n) (to_z-of_z w64 c.args.place.y place_y) (c.near-2.ensures.same n (omega (arith, c.requires.high))
          (subst (λ (m : ℤ). unsigned_abs m ≤ n) (to_z-of_z w32 c.near-2.result y) (own.y h)));
      z = λ h. subst (λ (m : ℤ). unsigned_abs m ≤ n) (to_z-of_z w64 c.args.place.z place_z) (c.near-3.ensures.same n (omega (arith, c.requires.high))
          (subst (λ (m : ℤ). unsigned_abs m ≤ n) (to_z-of_z w32 c.near-3.result z) (own.z h)));
    }
