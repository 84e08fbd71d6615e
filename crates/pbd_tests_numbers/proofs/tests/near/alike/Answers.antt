use Rattle.std.proofs.Common.{◌∙◌, pos, to_z, of_z, w32}
use Rattle.std.proofs.lemmas.Int.{to_z-of_z}
use Rattle.std.proofs.lemmas.List.{get_or-replicate}
use Rattle.pbd_tests_numbers.proofs.tests.near.alike.Goals as goal

pub returns : goal.returns
returns c = λ j q. get_or-replicate 128 j (to_z w32 (of_z w32 c.args.value)) (pos 0) q ∙ to_z-of_z w32 c.args.value c.ranges.value
