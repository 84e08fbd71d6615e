use Rattle.std.proofs.Common.{◌≡◌, ◌∙◌, ap, subst, sym, arith, ℤ, ◌*ℤ◌, ◌^◌, w64, FitsSigned}
use Rattle.std.proofs.lemmas.Int.{to_z-of_z}
use Rattle.pbd_num.proofs.Sizes.{fits, size-mul}
use Rattle.pbd_num.proofs.VectorSizes.{word}
use Rattle.pbd_shape.proofs.plane.product.Goals as goal

-- a factor is the number that was handed in
factor_is : {n short : ℤ} → FitsSigned w64 n → FitsSigned w64 short → short ≡ word n → word short ≡ n
factor_is n_fits short_fits is = to_z-of_z w64 _ short_fits ∙ is ∙ to_z-of_z w64 _ n_fits

product_is : (c : goal.After-short-2) → word c.short.result *ℤ word c.short-2.result ≡ c.args.a *ℤ c.args.b
product_is c = λ i. factor_is c.ranges.a (record { sfits = c.short.type_inv }) c.short.ensures i
    *ℤ factor_is c.ranges.b (record { sfits = c.short-2.type_inv }) c.short-2.ensures i

product_fits : (c : goal.After-short-2) → FitsSigned w64 (c.args.a *ℤ c.args.b)
product_fits c = fits (c.args.a *ℤ c.args.b) (omega (arith, size-mul c.args.a c.args.b (2 ^ 10) (2 ^ 29) c.requires.a c.requires.b))

pub overflow_mul-result : goal.overflow_mul-result
overflow_mul-result c = subst (λ (n : ℤ). FitsSigned w64 n) (sym (product_is c)) (product_fits c)

pub returns-clause-value : goal.returns-clause-value
returns-clause-value c = ap word (product_is c) ∙ to_z-of_z w64 _ (product_fits c)

pub returns-clause-size : goal.returns-clause-size
returns-clause-size c = rw (returns-clause-value c) (size-mul c.args.a c.args.b (2 ^ 10) (2 ^ 29) c.requires.a c.requires.b)
