use Rattle.std.proofs.Common.{arith, ◌^◌, w32, FitsSigned}
use Rattle.std.proofs.lemmas.Int.{to_z-of_z, fits_signed_from_abs}
use Rattle.std.proofs.lemmas.Bool.{and_parts}
use Rattle.pbd_num.specs.declared.Vec3.{Vec3}
use Rattle.pbd_num.specs.Vectors.{Within}
use Rattle.pbd_num.proofs.Sizes.{size_at_most}
use Rattle.pbd_near.proofs.Taking.{moved}
use Rattle.pbd_near.proofs.shares.GuessedPull.row.Goals as goal

pub returns-clause-value : goal.returns-clause-value
returns-clause-value c = λ f way taken.
    let x = fits_signed_from_abs w32 c.args.taken.x (omega (arith, c.requires.x)) in
    let y = fits_signed_from_abs w32 c.args.taken.y (omega (arith, c.requires.y)) in
    let z = fits_signed_from_abs w32 c.args.taken.z (omega (arith, c.requires.z)) in
    let error = fits_signed_from_abs w32 c.args.self.error (omega (arith, c.requires.error)) in
    let length = fits_signed_from_abs w32 c.args.self.length
    (omega (arith, size_at_most c.args.self.length 32767 c.requires.low c.requires.high)) in
    let factor = fits_signed_from_abs w32 c.args.self.factor (omega (arith, c.requires.factor)) in
    let flag : FitsSigned w32 c.flag_of.result = record { sfits = c.flag_of.type_inv } in
    let share_x = fits_signed_from_abs w32 c.share-along_x.result.share (omega (arith, c.share-along_x.ensures.size)) in
    let share_y = fits_signed_from_abs w32 c.share-along_y.result.share (omega (arith, c.share-along_y.ensures.size)) in
    let share_z = fits_signed_from_abs w32 c.share-along_z.result.share (omega (arith, c.share-along_z.ensures.size)) in
    let asked = and_parts _ _ (c.flag_of.ensures.right (simp to_z-of_z at f)) in
    let by_z = and_parts _ _ asked.0 in
    let by_y = and_parts _ _ by_z.0 in
    let by_x = and_parts _ _ by_y.0 in
    let l = simp to_z-of_z at (c.is_length-root.ensures by_x.0) in
    let some = c.share-along_x.ensures.some by_x.1 in
    let x_is = simp to_z-of_z at (c.share-along_x.ensures.value by_x.1) in
    let y_is = simp to_z-of_z at (c.share-along_y.ensures.value by_y.1) in
    let z_is = simp to_z-of_z at (c.share-along_z.ensures.value by_z.1) in
    let move : Vec3 = record { x = c.share-along_x.result.share; y = c.share-along_y.result.share; z = c.share-along_z.result.share } in
    let size : Within (2 ^ 16) move = record {
      x = c.share-along_x.ensures.size;
      y = c.share-along_y.ensures.size;
      z = c.share-along_z.ensures.size;
    } in
    simp to_z-of_z (moved way c.args.taken c.args.self.length c.args.self.error c.args.self.factor move taken c.requires.high some l x_is
    y_is z_is size)

pub returns-clause-asked : goal.returns-clause-asked
returns-clause-asked c = λ f.
    let flag : FitsSigned w32 c.flag_of.result = record { sfits = c.flag_of.type_inv } in
    (and_parts _ _ (c.flag_of.ensures.right (simp to_z-of_z at f))).1
