use Rattle.std.proofs.Common.{◌≡◌, ◌^◌, ℤ, pos, ◌*ℤ◌, arith, to_z, of_z, w32, w64, FitsSigned}
use Rattle.std.proofs.lemmas.Int.{to_z-of_z}
use Rattle.pbd_num.proofs.Sizes.{fits, size_at_most}
use Rattle.pbd_world.specs.declared.bond.Bond.{Bond}
use Rattle.pbd_pair.specs.Laid.{IsFirm}
use Rattle.pbd_pair.proofs.Laying.{factor_alone, factor_both, factor_long, k_fits, twice_fits}
use Rattle.pbd_pair.proofs.laid.factor_of.Goals as goal

-- what stands in words as it is
record Words (b : Bond) (first second : ℤ) : Type 0 where
  first_is : to_z w32 (of_z w32 first) ≡ first
  second_is : to_z w32 (of_z w32 second) ≡ second
  rest_is : to_z w64 (of_z w64 b.rest) ≡ b.rest
  long_is : to_z w64 (of_z w64 b.k) ≡ b.k
  short_is : to_z w32 (of_z w32 b.k) ≡ b.k
  twice_is : to_z w32 (of_z w32 (pos 2 *ℤ b.k)) ≡ pos 2 *ℤ b.k

words : (b : Bond) {first second : ℤ} → IsFirm b → FitsSigned w32 first → FitsSigned w32 second → Words b first second
words b firm first_fits second_fits = record {
  first_is = to_z-of_z w32 _ first_fits;
  second_is = to_z-of_z w32 _ second_fits;
  rest_is = to_z-of_z w64 _ (fits b.rest (omega (arith, size_at_most b.rest (2 ^ 31) firm.rest_low firm.rest_high)));
  long_is = to_z-of_z w64 _ (fits b.k (omega (arith, size_at_most b.k 256 firm.k_low firm.k_high)));
  short_is = to_z-of_z w32 _ (k_fits b firm);
  twice_is = to_z-of_z w32 _ (twice_fits b firm);
}

pub returns-then-bond-both : goal.returns-then-bond-both
returns-then-bond-both c =
    let w = words c.args.bond c.requires c.ranges.first c.ranges.second in
    factor_long c.args.bond c.args.first c.args.second (simp (w.first_is, w.second_is, w.rest_is) at c.if-bond-both.true)

pub returns-then-both : goal.returns-then-both
returns-then-both c =
    let w = words c.args.bond c.requires c.ranges.first c.ranges.second in
    simp (w.long_is, w.short_is) (factor_both c.args.bond c.args.first c.args.second
    (simp (w.first_is, w.second_is, w.rest_is) at c.if-bond-both.false) (simp (w.first_is, w.second_is) at c.if-both.true))

pub returns-else-both : goal.returns-else-both
returns-else-both c =
    let w = words c.args.bond c.requires c.ranges.first c.ranges.second in
    simp (w.long_is, w.short_is, w.twice_is) (factor_alone c.args.bond c.args.first c.args.second
    (simp (w.first_is, w.second_is, w.rest_is) at c.if-bond-both.false) (simp (w.first_is, w.second_is) at c.if-both.false))
