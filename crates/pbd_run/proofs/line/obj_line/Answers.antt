use Rattle.std.proofs.Common.{◌≡◌, refl, List, [], ◌∷◌, ◌++◌, ℕ, append_assoc, codes, decimal}
use Rattle.pbd_outcome.specs.ObjText.{fault_name, fault_number, fault_place, obj_line}
use Rattle.pbd_run.proofs.line.obj_line.Goals as goal

grouped : (w n t p : List ℕ) → (((((w ++ n) ++ 32 ∷ []) ++ t) ++ 32 ∷ 97 ∷ 116 ∷ 32 ∷ []) ++ p) ++ 10 ∷ [] ≡ w
    ++ (n ++ 32 ∷ (t ++ 32 ∷ 97 ∷ 116 ∷ 32 ∷ (p ++ 10 ∷ [])))
grouped w n t p = simp append_assoc refl

pub returns : goal.returns
unfolding obj_line
returns c =
    rw (
      c.push-5.ensures,
      c.push_number-2.ensures.bytes,
      c.push-4.ensures,
      c.push-3.ensures,
      c.push-2.ensures,
      c.push_number.ensures.bytes,
      c.push.ensures,
      c.new-line.ensures,
      c.from.ensures,
      c.fault_number.ensures,
      c.fault_name.ensures.name,
      c.fault_place.ensures,
    )
    (grouped (codes "error 14 ObjRefused ") (decimal (fault_number c.args.fault)) (fault_name c.args.fault)
    (decimal (fault_place c.args.fault)))
