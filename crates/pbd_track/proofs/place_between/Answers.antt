use Rattle.std.proofs.Common.{◌∙◌, ap, arith, ℕ, ◌-◌, ◌<◌, ◌^◌, ℤ, pos, w64, FitsSigned}
use Rattle.std.specs.Prelude.{◌<ℤ◌}
use Rattle.std.proofs.lemmas.Int.{to_z-of_z, ints}
use Rattle.pbd_num.specs.declared.Vec3.{Vec3}
use Rattle.pbd_num.specs.Vectors.{plus, minus, scaled}
use Rattle.pbd_track.proofs.place_between.Goals as goal

pub scaled-requires-clause-vector : goal.scaled-requires-clause-vector
scaled-requires-clause-vector c = c.minus-way.ensures.size (2 ^ 29) (2 ^ 29) c.requires.second.place c.requires.first.place

pub scaled-requires-clause-part : goal.scaled-requires-clause-part
scaled-requires-clause-part c =
    let fits : FitsSigned w64 c.from.result = record { sfits = c.from.type_inv } in
    simp to_z-of_z (rw c.from.ensures (omega (arith, c.requires.before, c.requires.second.step)))

some_way : (m n : ℕ) → m < n → pos 0 <ℤ pos (n - m)
some_way m n h = grind (arith, ints)

pub scaled-requires-clause-whole_low : goal.scaled-requires-clause-whole_low
scaled-requires-clause-whole_low c =
    let fits : FitsSigned w64 c.from-2.result = record { sfits = c.from-2.type_inv } in
    simp to_z-of_z (rw c.from-2.ensures (some_way c.args.k.step c.args.l.step (omega (arith, c.requires.after, c.requires.before))))

pub scaled-requires-clause-whole_high : goal.scaled-requires-clause-whole_high
scaled-requires-clause-whole_high c =
    let fits : FitsSigned w64 c.from-2.result = record { sfits = c.from-2.type_inv } in
    simp to_z-of_z (rw c.from-2.ensures (omega (arith, c.requires.second.step)))

pub returns : goal.returns
returns c =
    let fits_part : FitsSigned w64 c.from.result = record { sfits = c.from.type_inv } in
    let fits_whole : FitsSigned w64 c.from-2.result = record { sfits = c.from-2.type_inv } in
    let way = minus c.args.l.place c.args.k.place in
    let share = (simp to_z-of_z at c.scaled.ensures.value)
    ∙ ap (λ (v : Vec3). scaled c.from.result c.from-2.result v) c.minus-way.ensures.value
    ∙ ap (λ (part : ℤ). scaled part c.from-2.result way) c.from.ensures
    ∙ ap (λ (whole : ℤ). scaled (pos (c.args.t - c.args.k.step)) whole way) c.from-2.ensures in
    c.plus.ensures.value ∙ ap (λ (v : Vec3). plus c.args.k.place v) share
