use Rattle.std.proofs.Common.{◌≡◌, refl, arith, ◌*◌, ◌≤◌, ◌^◌, ℤ, pos, unsigned_abs}
use Rattle.std.proofs.lemmas.Int.{to_z-of_z}
use Rattle.pbd_num.proofs.Sizes.{fits}
use Rattle.pbd_num.proofs.VectorSizes.{word, squares_add}
use Rattle.pbd_num.proofs.Vec3.squared_length.Goals as goal

-- the square of an axis that is handed on in 64 bits
squared : (axis p : ℤ) → unsigned_abs axis ≤ 2 ^ 30 → p ≡ pos (unsigned_abs (word axis) * unsigned_abs (word axis))
    → p ≡ pos (unsigned_abs axis * unsigned_abs axis)
squared axis p size is = let axis_fits = fits axis (omega (arith, size)) in simp to_z-of_z at is

pub overflow_add-result : goal.overflow_add-result
overflow_add-result c =
    (squares_add c.args.self _ _ _ c.requires (squared c.args.self.x _ c.requires.x c.square.ensures) (squared c.args.self.y _ c.requires.y c.square-2.ensures)
    refl).two_fit

pub overflow_add-result-2 : goal.overflow_add-result-2
overflow_add-result-2 c =
    (squares_add c.args.self _ _ _ c.requires (squared c.args.self.x _ c.requires.x c.square.ensures) (squared c.args.self.y _ c.requires.y c.square-2.ensures)
    (squared c.args.self.z _ c.requires.z c.square-3.ensures)).all_fit

pub returns : goal.returns
returns c =
    (squares_add c.args.self _ _ _ c.requires (squared c.args.self.x _ c.requires.x c.square.ensures) (squared c.args.self.y _ c.requires.y c.square-2.ensures)
    (squared c.args.self.z _ c.requires.z c.square-3.ensures)).sum
