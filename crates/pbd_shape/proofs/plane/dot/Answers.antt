use Rattle.std.proofs.Common.{◌≡◌, ◌≤◌, arith, ℤ, ◌+ℤ◌, ◌*ℤ◌, ◌^◌, ◌∙◌, unsigned_abs}
use Rattle.std.proofs.lemmas.Int.{to_z-of_z}
use Rattle.pbd_num.proofs.Sizes.{fits}
use Rattle.pbd_num.proofs.VectorSizes.{word, words_within, sum_fits}
use Rattle.pbd_shape.proofs.Moves.{products_add}
use Rattle.pbd_shape.proofs.plane.dot.Goals as goal

pub product-requires : goal.product-requires
product-requires c = record {
  a = (words_within c.args.n (2 ^ 10) (omega arith) c.requires.n).x;
  b = (words_within c.args.p (2 ^ 29) (omega arith) c.requires.p).x;
}

pub product-requires-2 : goal.product-requires-2
product-requires-2 c = record {
  a = (words_within c.args.n (2 ^ 10) (omega arith) c.requires.n).y;
  b = (words_within c.args.p (2 ^ 29) (omega arith) c.requires.p).y;
}

pub product-requires-3 : goal.product-requires-3
product-requires-3 c = record {
  a = (words_within c.args.n (2 ^ 10) (omega arith) c.requires.n).z;
  b = (words_within c.args.p (2 ^ 29) (omega arith) c.requires.p).z;
}

pub overflow_add-result : goal.overflow_add-result
overflow_add-result c = sum_fits c.product.result c.product-2.result
    (omega (arith, c.product.ensures.size)) (omega (arith, c.product-2.ensures.size))

pub overflow_add-result-2 : goal.overflow_add-result-2
overflow_add-result-2 c = (products_add c.product.result c.product-2.result c.product-3.result
    c.product.ensures.size c.product-2.ensures.size c.product-3.ensures.size).all_fit

-- one of the products, of the numbers that were handed in
product_told : (a b : ℤ) {product : ℤ} → unsigned_abs a ≤ 2 ^ 10 → unsigned_abs b ≤ 2 ^ 29 → product ≡ word a *ℤ word b → product ≡ a *ℤ b
product_told a b h k e =
    let a_fits = fits a (omega (arith, h)) in
    let b_fits = fits b (omega (arith, k)) in
    simp to_z-of_z at e

pub returns-clause-value : goal.returns-clause-value
returns-clause-value c =
    let x = product_told c.args.n.x c.args.p.x c.requires.n.x c.requires.p.x c.product.ensures.value in
    let y = product_told c.args.n.y c.args.p.y c.requires.n.y c.requires.p.y c.product-2.ensures.value in
    let z = product_told c.args.n.z c.args.p.z c.requires.n.z c.requires.p.z c.product-3.ensures.value in
    (products_add c.product.result c.product-2.result c.product-3.result
    c.product.ensures.size c.product-2.ensures.size c.product-3.ensures.size).sum ∙ (λ i. x i +ℤ y i +ℤ z i)

pub returns-clause-size : goal.returns-clause-size
returns-clause-size c = (products_add c.product.result c.product-2.result c.product-3.result
    c.product.ensures.size c.product-2.ensures.size c.product-3.ensures.size).size
