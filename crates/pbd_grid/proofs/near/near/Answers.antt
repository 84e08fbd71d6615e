use Rattle.std.proofs.Common.{◌∙◌, ap, pos, unsigned_abs, ℤ, w64, FitsSigned, int_lt, ◌^◌, ◌*◌, arith}
use Rattle.std.proofs.lemmas.Int.{to_z-of_z}
use Rattle.pbd_num.specs.declared.Vec3.{Vec3}
use Rattle.pbd_num.specs.Vectors.{squared_length}
use Rattle.pbd_grid.proofs.near.near.Goals as goal

pub squared_length-requires : goal.squared_length-requires
squared_length-requires c = c.minus.ensures.size (2 ^ 29) (2 ^ 29) c.requires.a c.requires.b

pub square-requires : goal.square-requires
square-requires c =
    let fits : FitsSigned w64 c.from.result = record { sfits = c.from.type_inv } in
    simp to_z-of_z (rw c.from.ensures (omega (arith, c.requires.thickness)))

pub returns : goal.returns
returns c =
    let fits : FitsSigned w64 c.from.result = record { sfits = c.from.type_inv } in
    let fits_length : FitsSigned w64 c.squared_length.result = record { sfits = c.squared_length.type_inv } in
    let fits_square : FitsSigned w64 c.square.result = record { sfits = c.square.type_inv } in
    let length = c.squared_length.ensures ∙ ap (λ (v : Vec3). pos (squared_length v)) c.minus.ensures.value in
    let square = (simp to_z-of_z at c.square.ensures) ∙ ap (λ (n : ℤ). pos (unsigned_abs n * unsigned_abs n)) c.from.ensures in
    simp to_z-of_z (λ i. int_lt (length i) (square i))
