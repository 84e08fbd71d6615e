use Rattle.std.proofs.Common.{◌≡◌, ◌∙◌, ◌≤◌, ◌^◌, ℤ, unsigned_abs, to_z, of_z, rules, w32, w64, FitsSigned}
use Rattle.std.proofs.lemmas.Int.{to_z-of_z}
use Rattle.std.proofs.lemmas.Bool.{and_parts}
use Rattle.pbd_num.proofs.Ends.{same_axes}
use Rattle.pbd_pair.proofs.wide.row_of.Goals as goal

pub returns-clause-exact : goal.returns-clause-exact
returns-clause-exact c =
    let ff : FitsSigned w32 c.flag_of.result = record { sfits = c.flag_of.type_inv } in
    let exact = c.flag_of.ensures.exact in
    simp to_z-of_z (λ f. (and_parts _ _ (exact f)).0)

pub returns-clause-size : goal.returns-clause-size
returns-clause-size c =
    let ff : FitsSigned w32 c.flag_of.result = record { sfits = c.flag_of.type_inv } in
    let fx : FitsSigned w32 c.short_axis-x.result = record { sfits = c.short_axis-x.type_inv } in
    let fy : FitsSigned w32 c.short_axis-y.result = record { sfits = c.short_axis-y.type_inv } in
    let fz : FitsSigned w32 c.short_axis-z.result = record { sfits = c.short_axis-z.type_inv } in
    let sx = simp to_z-of_z at c.is_short.ensures in
    let sy = simp to_z-of_z at c.is_short-2.ensures in
    let sz = simp to_z-of_z at c.is_short-3.ensures in
    let exact = c.flag_of.ensures.exact in
    simp to_z-of_z (λ f.
    let short = (and_parts _ _ (exact f)).1 in
    let two = (and_parts _ _ short).0 in
    record { x = sx (and_parts _ _ two).0; y = sy (and_parts _ _ two).1; z = sz (and_parts _ _ short).1 })

-- a short axis as its word tells it
axis_is : {axis short : ℤ} → FitsSigned w64 axis → FitsSigned w32 short
    → (unsigned_abs short ≤ 2 ^ 22 → short ≡ to_z w64 (of_z w64 axis)) → unsigned_abs (to_z w32 (of_z w32 short)) ≤ 2 ^ 22
    → to_z w32 (of_z w32 short) ≡ axis
axis_is {axis} {short} axis_fits short_fits is size =
    let same = to_z-of_z w32 short short_fits in
    same ∙ is (rw same at size) ∙ to_z-of_z w64 axis axis_fits

pub returns-clause-value : goal.returns-clause-value
returns-clause-value c = λ f.
    let size = returns-clause-size c f in
    same_axes _ _ (axis_is (search rules) (record { sfits = c.short_axis-x.type_inv }) c.short_axis-x.ensures size.x)
    (axis_is (search rules) (record { sfits = c.short_axis-y.type_inv }) c.short_axis-y.ensures size.y)
    (axis_is (search rules) (record { sfits = c.short_axis-z.type_inv }) c.short_axis-z.ensures size.z)
