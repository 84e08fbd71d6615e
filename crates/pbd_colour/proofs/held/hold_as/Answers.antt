use Rattle.std.proofs.Common.{◌∙◌, sym, false, arith}
use Rattle.std.proofs.lemmas.List.{ext_get_or}
use Rattle.pbd_colour.proofs.held.hold_as.Goals as goal

pub returns-clause-live : goal.returns-clause-live
returns-clause-live c =
    let h = c.loop-at.invariant.0 in
    ext_get_or false c.loop-at.live c.args.flags.now (h.size ∙ sym c.requires.flags)
    (λ k l. h.same k (omega (arith, l, h.size, c.requires.flags, c.loop-at-test.false)))
