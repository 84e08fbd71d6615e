use Rattle.std.proofs.Common.{◌≡◌, ◌∙◌, ℤ, pos, ◌*◌, ◌≤◌, ◌*ℤ◌, ◌<ℤ◌, ◌^◌, unsigned_abs, arith, w64, FitsSigned}
use Rattle.std.proofs.lemmas.Int.{to_z-of_z, ints, unsigned_abs-mul}
use Rattle.pbd_num.proofs.Sizes.{fits, size-mul}
use Rattle.pbd_num.proofs.Lengths.{shares_by_scaling}
use Rattle.pbd_num.proofs.Ranges.{wider}
use Rattle.pbd_num.proofs.VectorSizes.{word, times_within}
use Rattle.pbd_num.proofs.share.Goals as goal
use Rattle.pbd_num.proofs.share.Goals.{Start}

-- what a share is a part of, and what part, as they come to stand in 64 bits
record Fraction (k w total : ℤ) : Type 0 where
  part_fits : FitsSigned w64 (word k *ℤ word w)
  part_is : word (word k *ℤ word w) ≡ k *ℤ w
  part_size : unsigned_abs (k *ℤ w) ≤ 256 * 131070
  whole_fits : FitsSigned w64 (pos 256 *ℤ word total)
  whole_is : word (pos 256 *ℤ word total) ≡ pos 256 *ℤ total
  whole_low : pos 0 <ℤ (pos 256 *ℤ total)
  whole_high : unsigned_abs (pos 256 *ℤ total) ≤ 2 ^ 40
  less : unsigned_abs (k *ℤ w) ≤ unsigned_abs (pos 256 *ℤ total)

fraction : (k w total : ℤ) → FitsSigned w64 k → FitsSigned w64 w → FitsSigned w64 total → unsigned_abs k ≤ 256
    → unsigned_abs w ≤ unsigned_abs total → pos 0 <ℤ total → unsigned_abs total ≤ 131070 → Fraction k w total
fraction k w total k_fits w_fits total_fits stiffness weight some high =
    let top = size-mul k w 256 (unsigned_abs total) stiffness weight in
    let bottom = unsigned_abs-mul (pos 256) total in
    let part = fits (k *ℤ w) (omega (arith, top)) in
    let whole = fits (pos 256 *ℤ total) (omega (arith, bottom)) in
    record {
      part_fits = simp to_z-of_z part;
      part_is = simp to_z-of_z;
      part_size = omega (arith, top);
      whole_fits = simp to_z-of_z whole;
      whole_is = simp to_z-of_z;
      whole_low = omega (arith, ints);
      whole_high = omega (arith, bottom);
      less = omega (arith, top, bottom);
    }

fraction_of : (c : Start) → Fraction c.args.k c.args.w c.args.total
fraction_of c =
    let r = c.requires in
    fraction c.args.k c.args.w c.args.total c.ranges.k c.ranges.w c.ranges.total r.stiffness r.weight r.total_low r.total_high

pub overflow_mul-k : goal.overflow_mul-k
overflow_mul-k c = (fraction_of (goal.at.overflow_mul-k c).Start).part_fits

pub overflow_mul-total : goal.overflow_mul-total
overflow_mul-total c = (fraction_of (goal.at.overflow_mul-total c).Start).whole_fits

pub part_of-requires : goal.part_of-requires
part_of-requires c =
    let r = c.requires in
    let known = fraction_of (goal.at.part_of-requires c).Start in
    record {
      vector = wider c.args.s (2 ^ 31) (2 ^ 61) (omega arith) r.size;
      products = rw known.part_is
          (times_within (c.args.k *ℤ c.args.w) c.args.s (2 ^ 31) (256 * 131070) (2 ^ 61) r.size known.part_size (omega arith));
      whole_low = rw known.whole_is known.whole_low;
      whole_high = rw known.whole_is known.whole_high;
    }

pub returns-clause-value : goal.returns-clause-value
returns-clause-value c =
    let known = fraction_of (goal.at.returns-clause-value c).Start in
    (simp (known.part_is, known.whole_is) at c.part_of.ensures.value)
    ∙ shares_by_scaling c.args.s c.args.k c.args.w c.args.total c.requires.weight_low c.requires.total_low

pub returns-clause-size : goal.returns-clause-size
returns-clause-size c =
    let known = fraction_of (goal.at.returns-clause-size c).Start in
    let size = simp (known.part_is, known.whole_is) at c.part_of.ensures.size in
    size (2 ^ 31) known.less c.requires.size
