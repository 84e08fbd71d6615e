use Rattle.std.proofs.Common.{◌≡◌, ◌+◌, ◌*◌, ◌-◌, ◌/◌, ◌%◌, ap, ◌∙◌, subst, sym, arith, pos, ℤ, unsigned_abs, w32, FitsSigned}
use Rattle.std.proofs.lemmas.Int.{ints, to_z-of_z, fits_signed_from_abs}
use Rattle.std.specs.Int.Signed.{shr_z}
use Rattle.pbd_pair.proofs.Sharing.{first_below, other_share}
use Rattle.pbd_pair.proofs.uneven.Portion.other.Goals as goal

pub returns-clause-value : goal.returns-clause-value
returns-clause-value c = λ small is.
    let p = c.requires.portion in
    let n = c.args.pulled in
    let q = c.args.share in
    let left_for = c.left_for_both-both.result in
    let result : FitsSigned w32 c.lowered.result = record { sfits = c.lowered.type_inv } in
    let given : FitsSigned w32 left_for = record { sfits = c.left_for_both-both.type_inv } in
    let low = first_below n c.args.self.first c.args.self.total q c.args.left p.some p.first is in
    let both = n + 256 - 256 * q in
    let both_is : left_for ≡ pos both = c.left_for_both-both.ensures.value ∙ omega (arith, ints, low) in
    let whole_is : shr_z left_for 256 ≡ pos (both / 256) = ap (λ z. shr_z z 256) both_is in
    let fits : FitsSigned w32 (shr_z left_for 256) = subst (λ (z : ℤ). FitsSigned w32 z) (sym whole_is)
    (fits_signed_from_abs w32 (pos (both / 256)) (omega (arith, c.requires.pulled))) in
    let rest = simp to_z-of_z at c.low8.ensures.rest in
    let rest_is : c.low8.result ≡ both % 256 = rest (omega (arith, ints, both_is)) ∙ ap (λ z. unsigned_abs z % 256) both_is in
    let lower = simp to_z-of_z at c.lowered.ensures.lower in
    let same = simp to_z-of_z at c.lowered.ensures.same in
    let lower_is = simp (whole_is, rest_is) at lower in
    let same_is = simp (whole_is, rest_is) at same in
    simp to_z-of_z (other_share n c.args.self.first c.args.self.total q c.args.left (both / 256) (both % 256) c.lowered.result p.some
    p.first small is (omega (arith, low)) (omega arith) lower_is same_is)
