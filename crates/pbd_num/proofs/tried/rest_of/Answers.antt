use Rattle.std.proofs.Common.{◌≡◌, ◌∙◌, arith, ◌*ℤ◌, ◌-ℤ◌, ◌+◌, ◌-◌, ◌^◌, ◌≤◌, unsigned_abs, ℤ, w32, w64, FitsSigned}
use Rattle.std.proofs.lemmas.Int.{to_z-of_z}
use Rattle.pbd_num.proofs.Sizes.{fits, size-sub, size-mul, short_size}
use Rattle.pbd_num.proofs.VectorSizes.{word}
use Rattle.pbd_num.proofs.tried.rest_of.Goals as goal

-- what comes to stand as it is, what fits, and how much a rest leaves
record Rest (n length q wide : ℤ) : Type 0 where
  wide_is : wide ≡ q
  n_is : word n ≡ n
  length_is : word length ≡ length
  quotient_is : word q ≡ q
  product : FitsSigned w64 (q *ℤ length)
  product_is : word (q *ℤ length) ≡ q *ℤ length
  rest : FitsSigned w64 (n -ℤ q *ℤ length)
  rest_is : word (n -ℤ q *ℤ length) ≡ n -ℤ q *ℤ length
  size : unsigned_abs (n -ℤ q *ℤ length) + 2 ^ 31 ≤ 2 ^ 63

rest_fits : (c : goal.After-from) → Rest c.args.n c.args.length c.args.q c.from.result
rest_fits c =
    let q_size = short_size c.args.q c.ranges.q in
    let left = size-mul c.args.q c.args.length (2 ^ 31) (2 ^ 31 - 1) q_size (omega arith) in
    let all = size-sub c.args.n (c.args.q *ℤ c.args.length) in
    let product = fits (c.args.q *ℤ c.args.length) (omega arith) in
    let rest = fits (c.args.n -ℤ c.args.q *ℤ c.args.length) (omega arith) in
    record {
      wide_is = c.from.ensures ∙ to_z-of_z w32 c.args.q c.ranges.q;
      n_is = to_z-of_z w64 _ (fits c.args.n (omega arith));
      length_is = to_z-of_z w64 _ (fits c.args.length (omega arith));
      quotient_is = to_z-of_z w64 _ (fits c.args.q (omega arith));
      product = product;
      product_is = to_z-of_z w64 _ product;
      rest = rest;
      rest_is = to_z-of_z w64 _ rest;
      size = omega arith;
    }

pub overflow_mul-result : goal.overflow_mul-result
overflow_mul-result c = let known = rest_fits c in simp (known.wide_is, known.quotient_is, known.length_is) known.product

pub overflow_sub-result : goal.overflow_sub-result
overflow_sub-result c =
    let known = rest_fits c in
    simp (known.wide_is, known.n_is, known.length_is, known.quotient_is, known.product_is) known.rest

pub returns-clause-value : goal.returns-clause-value
returns-clause-value c =
    let known = rest_fits c in
    simp (known.wide_is, known.n_is, known.length_is, known.quotient_is, known.product_is, known.rest_is)

pub returns-clause-size : goal.returns-clause-size
returns-clause-size c = rw (returns-clause-value c) (rest_fits c).size
