use Rattle.std.proofs.Common.{ap, ◌∙◌, pos, unsigned_abs, w64, FitsSigned}
use Rattle.std.proofs.lemmas.Int.{to_z-of_z}
use Rattle.std.proofs.lemmas.Bool.{and_parts}
use Rattle.pbd_num.specs.Rounding.{root}
use Rattle.pbd_num.proofs.Sizes.{fits_from_zero}
use Rattle.pbd_num.proofs.Tests.{less}
use Rattle.pbd_num.proofs.tried.Way.try_length.Goals as goal

pub returns : goal.returns
returns c =
    let length = fits_from_zero c.near_root-near.result.root c.near_root-near.ensures.low c.near_root-near.ensures.high in
    let square : FitsSigned w64 c.square-square.result = record { sfits = c.square-square.type_inv } in
    let is = simp to_z-of_z at c.is_root.ensures in
    record {
      value = λ right. simp to_z-of_z (is (and_parts _ _ right).1 ∙ ap (λ n. pos (root (unsigned_abs n))) c.square-square.ensures);
      some = λ right. let right' = simp to_z-of_z at right in simp to_z-of_z (less _ _ (and_parts _ _ right').0);
      low = simp to_z-of_z c.near_root-near.ensures.low;
      high = simp to_z-of_z c.near_root-near.ensures.high;
    }
