use Rattle.std.proofs.Common.{arith, w64, FitsSigned, ◌^◌, ◌∙◌}
use Rattle.std.proofs.lemmas.Int.{to_z-of_z}
use Rattle.pbd_num.proofs.Sizes.{fits, size_pos}
use Rattle.pbd_shape.proofs.Moves.{onto_away}
use Rattle.pbd_shape.proofs.sphere.onto.Goals as goal

pub length-length-requires : goal.length-length-requires
length-length-requires c = c.minus-way.ensures.size (2 ^ 29) (2 ^ 29) c.requires.place c.requires.sphere.centre

pub scaled-requires-clause-vector : goal.scaled-requires-clause-vector
scaled-requires-clause-vector c = c.minus-way.ensures.size (2 ^ 29) (2 ^ 29) c.requires.place c.requires.sphere.centre

pub returns : goal.returns
returns c =
    let radius = fits c.args.sphere.radius (omega (arith, c.requires.sphere.high)) in
    let length : FitsSigned w64 c.length-length.result = record { sfits = c.length-length.type_inv } in
    let moved = simp to_z-of_z at c.scaled.ensures.value in
    let is = c.length-length.ensures.value in
    c.plus-2.ensures.value
    ∙ onto_away c.args.sphere c.args.p c.minus-way.result c.scaled.result c.length-length.result c.minus-way.ensures.value is
    (size_pos c.length-length.result c.if-length-eq0.false) moved
