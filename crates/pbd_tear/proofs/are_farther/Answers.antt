use Rattle.std.proofs.Common.{◌∙◌, ap, arith, pos, w64, FitsSigned, int_lt, ◌^◌}
use Rattle.std.proofs.lemmas.Int.{to_z-of_z}
use Rattle.pbd_num.specs.declared.Vec3.{Vec3}
use Rattle.pbd_num.specs.Vectors.{squared_length}
use Rattle.pbd_tear.proofs.are_farther.Goals as goal

pub square-requires : goal.square-requires
square-requires c =
    let fits = c.ranges.length in
    simp to_z-of_z (omega (arith, c.requires.length))

pub squared_length-requires : goal.squared_length-requires
squared_length-requires c = c.minus.ensures.size (2 ^ 29) (2 ^ 29) c.requires.a c.requires.b

pub returns : goal.returns
returns c =
    let fits = c.ranges.length in
    let fits_square : FitsSigned w64 c.square.result = record { sfits = c.square.type_inv } in
    let fits_distance : FitsSigned w64 c.squared_length.result = record { sfits = c.squared_length.type_inv } in
    let square = simp to_z-of_z at c.square.ensures in
    let distance = c.squared_length.ensures ∙ ap (λ (v : Vec3). pos (squared_length v)) c.minus.ensures.value in
    simp to_z-of_z (λ i. int_lt (square i) (distance i))
