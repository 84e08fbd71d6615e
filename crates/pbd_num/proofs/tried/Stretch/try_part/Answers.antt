use Rattle.std.proofs.Common.{◌≡◌, arith, ◌*ℤ◌, ◌^◌, ℤ, pos, unsigned_abs, to_z, of_z, w32, w64, FitsSigned, ap, ◌∙◌}
use Rattle.std.proofs.lemmas.Int.{to_z-of_z}
use Rattle.pbd_num.specs.Rounding.{rdiv}
use Rattle.pbd_num.proofs.Sizes.{fits_from_zero, short_size, size-mul}
use Rattle.pbd_num.proofs.VectorSizes.{word}
use Rattle.pbd_num.proofs.tried.Stretch.try_part.Goals as goal
use Rattle.pbd_num.proofs.tried.Stretch.try_part.Goals.{After-product}

-- a product of two numbers of 32 bits, as it comes to stand in 64
product_is : (a b p : ℤ) → FitsSigned w32 a → FitsSigned w32 b → FitsSigned w64 p → p ≡ to_z w32 (of_z w32 a) *ℤ to_z w32 (of_z w32 b)
    → word p ≡ a *ℤ b
product_is a b p a_fits b_fits p_fits is = let value = simp to_z-of_z at is in simp to_z-of_z value

quotient_fits : (c : After-product) → FitsSigned w32 c.near_quotient-quotient.result
quotient_fits c = record { sfits = c.near_quotient-quotient.type_inv }

factored : (c : After-product) → word c.product.result ≡ c.near_quotient-quotient.result *ℤ c.args.f
factored c = product_is _ _ c.product.result (quotient_fits c) c.ranges.f (record { sfits = c.product.type_inv }) c.product.ensures.value

pub part_of_512-requires : goal.part_of_512-requires
part_of_512-requires c =
    let size = short_size c.near_quotient-quotient.result (quotient_fits c) in
    rw (factored c) (omega (arith, size-mul c.near_quotient-quotient.result c.args.f (2 ^ 31) 512 size c.requires.f))

pub is_quotient-requires : goal.is_quotient-requires
is_quotient-requires c =
    let second : FitsSigned w64 c.product-2.result = record { sfits = c.product-2.type_inv } in
    let length = fits_from_zero c.args.self.length c.requires.low c.requires.high in
    record {
      size = simp to_z-of_z c.product-2.ensures.size;
      low = simp to_z-of_z c.requires.low;
      high = simp to_z-of_z c.requires.high;
    }

pub returns : goal.returns
returns c =
    let at = (goal.at.returns c).After-product in
    let q_fits = quotient_fits at in
    let length = fits_from_zero c.args.self.length c.requires.low c.requires.high in
    let part : FitsSigned w64 c.part_of_512.result = record { sfits = c.part_of_512.type_inv } in
    let pulled = product_is _ _ c.product-2.result c.requires.error c.ranges.axis (record { sfits = c.product-2.type_inv }) c.product-2.ensures.value in
    let quotient = simp to_z-of_z at c.is_quotient.ensures in
    record {
      value = λ right some. simp to_z-of_z (c.part_of_512.ensures.value ∙ ap (λ p. rdiv p (pos 512)) (factored at
          ∙ ap (λ q. q *ℤ c.args.f) (quotient right some ∙ ap (λ n. rdiv n (pos (unsigned_abs c.args.self.length))) pulled)));
      size = simp to_z-of_z c.part_of_512.ensures.size;
    }
