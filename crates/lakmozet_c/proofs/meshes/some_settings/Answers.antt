use Rattle.std.proofs.Common.{◌≡◌, ◌==◌, arith, false, refl, w64}
use Rattle.std.proofs.lemmas.Bool.Decides.{nat_tests}
use Rattle.std.proofs.lemmas.Int.{to_z-of_z}
use Rattle.lakmozet_c.proofs.meshes.some_settings.Goals as goal

pub returns : goal.returns
returns c =
    let some : (c.args.bends == 0) ≡ false = grind (arith, nat_tests, c.if-bends-eq0.false) in
    rw (to_z-of_z w64 c.args.tear c.ranges.tear, some) refl
