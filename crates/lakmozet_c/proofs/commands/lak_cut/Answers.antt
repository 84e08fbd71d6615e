use Rattle.std.proofs.Common.{w32}
use Rattle.std.proofs.lemmas.Int.{to_z-of_z}
use Rattle.lakmozet_c.proofs.commands.lak_cut.Goals as goal

pub returns : goal.returns
returns c = rw (to_z-of_z w32 c.obeyed.result (record { sfits = c.obeyed.type_inv })) c.obeyed.ensures
