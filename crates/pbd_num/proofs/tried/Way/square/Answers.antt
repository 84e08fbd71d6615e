use Rattle.std.proofs.Common.{◌≡◌, refl, arith, ◌*◌, ◌≤◌, ◌^◌, ℤ, pos, ◌*ℤ◌, unsigned_abs, to_z, of_z, w32, ◌∙◌}
use Rattle.std.proofs.lemmas.Int.{to_z-of_z, fits_signed_from_abs}
use Rattle.pbd_num.proofs.Sizes.{square_of}
use Rattle.pbd_num.proofs.VectorSizes.{squares_add}
use Rattle.pbd_num.proofs.tried.Way.square.Goals as goal

-- the square of an axis that is handed on in 32 bits
squared : (axis p : ℤ) → unsigned_abs axis ≤ 2 ^ 30 → p ≡ to_z w32 (of_z w32 axis) *ℤ to_z w32 (of_z w32 axis)
    → p ≡ pos (unsigned_abs axis * unsigned_abs axis)
squared axis p size is =
    let axis_fits = fits_signed_from_abs w32 axis (omega (arith, size)) in
    (simp to_z-of_z at is) ∙ square_of axis

pub overflow_add-result : goal.overflow_add-result
overflow_add-result c =
    let w = c.args.self in
    let size = c.requires in
    (squares_add (record { x = w.x; y = w.y; z = w.z }) _ _ _ (record { x = size.x; y = size.y; z = size.z })
    (squared w.x _ size.x c.product.ensures.value) (squared w.y _ size.y c.product-2.ensures.value) refl).two_fit

pub overflow_add-result-2 : goal.overflow_add-result-2
overflow_add-result-2 c =
    let w = c.args.self in
    let size = c.requires in
    (squares_add (record { x = w.x; y = w.y; z = w.z }) _ _ _ (record { x = size.x; y = size.y; z = size.z })
    (squared w.x _ size.x c.product.ensures.value) (squared w.y _ size.y c.product-2.ensures.value)
    (squared w.z _ size.z c.product-3.ensures.value)).all_fit

pub returns : goal.returns
returns c =
    let w = c.args.self in
    let size = c.requires in
    (squares_add (record { x = w.x; y = w.y; z = w.z }) _ _ _ (record { x = size.x; y = size.y; z = size.z })
    (squared w.x _ size.x c.product.ensures.value) (squared w.y _ size.y c.product-2.ensures.value)
    (squared w.z _ size.z c.product-3.ensures.value)).sum
