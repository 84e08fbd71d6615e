use Rattle.std.proofs.Common.{arith}
use Rattle.std.proofs.lemmas.Result.{err_from_is_err_and}
use Rattle.pbd_io.specs.Appending.{piece_then, prefix_longer}
use Rattle.pbd_session.specs.Printing.{header_after}
use Rattle.pbd_session.proofs.Paying.{frame_reads, ledger_reads}
use Rattle.pbd_session.proofs.Texts.{frame_after, sums_after}
use Rattle.pbd_session.proofs.session.Session.write_after.Goals as goal

-- a frame
pub returns-in_err-write_header-in-Frame-clause-bytes : goal.returns-in_err-write_header-in-Frame-clause-bytes
returns-in_err-write_header-in-Frame-clause-bytes g c =
    let p = err_from_is_err_and c.from_residual.result c.from_residual.ensures.1 in
    let w = c.solver-solver.result.now.world in
    rw (p.1, c.in-Frame.is, ← c.solver-solver.ensures, frame_after c.args.prefix.now w)
    (prefix_longer _ _ (header_after c.args.prefix.now w) _ c.in_err-write_header-in-Frame.ensures.bytes)

pub returns-in_ok-write_header-in-Frame-clause-bytes : goal.returns-in_ok-write_header-in-Frame-clause-bytes
returns-in_ok-write_header-in-Frame-clause-bytes g c =
    rw (c.in-Frame.is, ← c.solver-solver.ensures, frame_after c.args.prefix.now c.solver-solver.result.now.world)
    (piece_then _ _ _ c.write_places.result _ _ c.in_ok-write_header-in-Frame.ensures.bytes c.write_places.ensures.bytes)

pub returns-in_ok-write_header-in-Frame-clause-cost : goal.returns-in_ok-write_header-in-Frame-clause-cost
returns-in_ok-write_header-in-Frame-clause-cost g c = omega (arith, c.write_places.ensures.cost, frame_reads _ _ _ c.solver-solver.ensures c.in-Frame.is)

-- a ledger
pub write_sums-requires : goal.write_sums-requires
write_sums-requires g c = record { short = c.named_sums.ensures.short }

pub returns-in-Ledger-clause-bytes : goal.returns-in-Ledger-clause-bytes
returns-in-Ledger-clause-bytes g c =
    rw (
      c.in-Ledger.is,
      ← c.solver-solver.ensures,
      ← sums_after c.args.prefix.now c.solver-solver.result.now.world c.named_sums.result c.named_sums.ensures.sums,
    )
    c.write_sums.ensures.bytes

pub returns-in-Ledger-clause-cost : goal.returns-in-Ledger-clause-cost
returns-in-Ledger-clause-cost g c = omega (arith, c.named_sums.ensures.cost, ledger_reads _ _ _ c.solver-solver.ensures c.in-Ledger.is)
