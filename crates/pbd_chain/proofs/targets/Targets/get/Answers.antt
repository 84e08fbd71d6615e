use Rattle.std.proofs.Common.{arith}
use Rattle.pbd_chain.proofs.Codes.{code_read, codes_length}
use Rattle.pbd_chain.proofs.targets.Targets.get.Goals as goal

pub returns : goal.returns
returns c = rw (← c.self.view_is) (let r = rw (← c.self.view_is) at c.requires in
    code_read c.self.inside.codes.items c.args.k c.index.result.now c.read.result
    (omega (arith, r, codes_length c.self.inside.codes.items)) c.index.ensures c.read.ensures)
