use Rattle.std.proofs.Common.{◌∙◌, ◌<◌, ℤ, length, pos, get_or, ap, arith, refl, rules, subst, sym, w32, FitsSigned}
use Rattle.std.proofs.lemmas.Int.{to_z-of_z}
use Rattle.pbd_world.specs.declared.bond.Bond.{Bond}
use Rattle.pbd_pair.specs.declared.laid.LaidBond.{LaidBond}
use Rattle.pbd_pair.specs.Laid.{factor_of, portion_of, short_rest, stiffness_of, IsFirm}
use Rattle.pbd_pair.specs.Bonds.{bond_of}
use Rattle.pbd_pair.specs.Chunks.{HoldsFactor, HoldsRest, IsGuess}
use Rattle.pbd_pair.proofs.Laying.{factor_fits, factor_held, guess_fits, portion_held, rest_fits_short, short_held, stiffness_fits}
use Rattle.pbd_pair.proofs.Chunks.{short_fits}
use Rattle.pbd_pair.proofs.Filling.{filled_none, filled_more}
use Rattle.pbd_pair.proofs.chunk.Columns.lay.Goals as goal

pub loop-j-init : goal.loop-j-init
loop-j-init c = record {
  first = refl;
  second = refl;
  rest = filled_none (search rules);
  factor = filled_none (search rules);
  stiffness = filled_none (search rules);
  portion = filled_none (search rules);
}

pub laid_of-bond-requires : goal.laid_of-bond-requires
laid_of-bond-requires c = subst (λ (b : Bond). IsFirm b) (sym c.get.ensures) (c.requires.known.firm c.loop-j.j (omega arith))

pub loop-j-preserved : goal.loop-j-preserved
loop-j-preserved c =
    let inv = c.loop-j.invariant in
    let j = c.loop-j.j in
    let p : j < length c.args.chunk.now.numbers.now = omega arith in
    let room : j < 128 = omega (arith, c.requires.known.few) in
    let between = c.args.between.now in
    let w1 = get_or between.first_weight j (pos 0) in
    let w2 = get_or between.second_weight j (pos 0) in
    let f1 : FitsSigned w32 w1 = short_fits w1 (c.requires.sized.first_low j p) (c.requires.sized.first_high j p) in
    let f2 : FitsSigned w32 w2 = short_fits w2 (c.requires.sized.second_low j p) (c.requires.sized.second_high j p) in
    let is = simp to_z-of_z at c.laid_of-bond.ensures in
    let rest = ap (λ (x : LaidBond). x.rest) is ∙ ap (λ (b : Bond). short_rest b.rest) c.get.ensures in
    let factor = ap (λ (x : LaidBond). x.factor) is ∙ ap (λ (b : Bond). factor_of b w1 w2) c.get.ensures in
    let stiffness = ap (λ (x : LaidBond). x.stiffness) is ∙ ap (λ (b : Bond). stiffness_of b w1 w2) c.get.ensures in
    let portion = ap (λ (x : LaidBond). x.portion) is ∙ ap (λ (b : Bond). portion_of b w1 w2) c.get.ensures in
    let b = bond_of c.args.chunk.now.bonds (get_or c.args.chunk.now.numbers.now j 0) in
    let firm = c.requires.known.firm j p in
    let f3 : FitsSigned w32 c.laid_of-bond.result.rest = rest_fits_short b _
    (subst (λ (z : ℤ). HoldsRest b z) (sym rest) (short_held b firm)) in
    let f4 : FitsSigned w32 c.laid_of-bond.result.factor = factor_fits b w1 w2 _ (subst (λ (z : ℤ). HoldsFactor b w1 w2 z) (sym factor)
    (factor_held b w1 w2 firm)) in
    let f5 : FitsSigned w32 c.laid_of-bond.result.stiffness = stiffness_fits b w1 w2 _ firm stiffness in
    let f6 : FitsSigned w32 c.laid_of-bond.result.portion = guess_fits _ (subst (λ (z : ℤ). IsGuess z) (sym portion)
    (portion_held b w1 w2)) in
    record {
      first = inv.first;
      second = inv.second;
      rest = simp to_z-of_z (filled_more c.laid_of-bond.result.rest room rest inv.rest);
      factor = simp to_z-of_z (filled_more c.laid_of-bond.result.factor room factor inv.factor);
      stiffness = simp to_z-of_z (filled_more c.laid_of-bond.result.stiffness room stiffness inv.stiffness);
      portion = simp to_z-of_z (filled_more c.laid_of-bond.result.portion room portion inv.portion);
    }

pub returns-clause-ends : goal.returns-clause-ends
returns-clause-ends c = (c.loop-j.invariant.first, c.loop-j.invariant.second)

pub returns-clause-laid : goal.returns-clause-laid
returns-clause-laid c =
    let inv = c.loop-j.invariant in
    record {
      rest_long = inv.rest.whole;
      factor_long = inv.factor.whole;
      stiffness_long = inv.stiffness.whole;
      portion_long = inv.portion.whole;
      rest = λ j p. inv.rest.below j (omega arith);
      factor = λ j p. inv.factor.below j (omega arith);
      stiffness = λ j p. inv.stiffness.below j (omega arith);
      portion = λ j p. inv.portion.below j (omega arith);
    }
