use Rattle.std.proofs.Common.{◌≡◌, ◌∙◌, ap, ℤ, pos, ◌-ℤ◌, ◌≤◌, ◌^◌, unsigned_abs, w64, to_z, of_z, arith}
use Rattle.std.specs.Prelude.{neg_ℤ}
use Rattle.std.proofs.lemmas.Int.{to_z-of_z, ints}
use Rattle.toml.specs.View.{table_view}
use Rattle.pbd_num.proofs.Sizes.{fits, size-neg}
use Rattle.pbd_scene.specs.Checks.{Gives}
use Rattle.pbd_scene.specs.Values.{required_integer}
use Rattle.pbd_scene.proofs.values.Entry.required_within.Goals as goal

-- the least, which the program takes from 0
least_is : (most : ℤ) → unsigned_abs most ≤ 2 ^ 40 → to_z w64 (of_z w64 (pos 0 -ℤ most)) ≡ neg_ℤ most
least_is most few =
    let is : pos 0 -ℤ most ≡ neg_ℤ most = omega (arith, ints) in
    to_z-of_z w64 (pos 0 -ℤ most) (fits (pos 0 -ℤ most) (omega (arith, ap unsigned_abs is, size-neg most, few))) ∙ is

pub returns : goal.returns
returns c =
    let most = c.args.most in
    let high = to_z-of_z w64 most c.ranges.most in
    let low = ap (λ (n : ℤ). to_z w64 (of_z w64 (pos 0 -ℤ n))) high ∙ least_is most c.requires in
    coe 0 1 (i. Gives {A = ℤ} {B = ℤ} (λ n. n) c.required_integer.result (required_integer c.args.self.now.place c.args.key (low i) (high i)
    (table_view c.args.self.now.members.now))) c.required_integer.ensures.value
