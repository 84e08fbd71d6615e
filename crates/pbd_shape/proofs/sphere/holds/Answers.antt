use Rattle.std.proofs.Common.{ap, pos, arith, w64, FitsSigned, ◌^◌, ◌∙◌, int_lt}
use Rattle.std.proofs.lemmas.Int.{to_z-of_z}
use Rattle.pbd_num.specs.declared.Vec3.{Vec3}
use Rattle.pbd_num.specs.Vectors.{minus, squared_length}
use Rattle.pbd_num.proofs.Sizes.{fits}
use Rattle.pbd_shape.proofs.Moves.{in_by_squares}
use Rattle.pbd_shape.proofs.sphere.holds.Goals as goal

pub short_axes-requires : goal.short_axes-requires
short_axes-requires c = c.minus.ensures.size (2 ^ 29) (2 ^ 29) c.requires.place c.requires.sphere.centre

pub squared_length-requires : goal.squared_length-requires
squared_length-requires c = rw c.short_axes.ensures (c.minus.ensures.size (2 ^ 29) (2 ^ 29) c.requires.place c.requires.sphere.centre)

pub returns : goal.returns
returns c =
    let radius = fits c.args.sphere.radius (omega (arith, c.requires.sphere.high)) in
    let a : FitsSigned w64 c.squared_length.result = record { sfits = c.squared_length.type_inv } in
    let b : FitsSigned w64 c.square.result = record { sfits = c.square.type_inv } in
    let square = simp to_z-of_z at c.square.ensures in
    simp to_z-of_z ((λ i. int_lt ((c.squared_length.ensures
    ∙ ap (λ (v : Vec3). pos (squared_length v)) (c.short_axes.ensures ∙ c.minus.ensures.value)) i) (square i))
    ∙ in_by_squares (squared_length (minus c.args.p c.args.sphere.centre)) c.args.sphere.radius c.requires.sphere.low)
