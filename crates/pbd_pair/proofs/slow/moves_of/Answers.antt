use Rattle.std.proofs.Common.{rules, w32, FitsSigned}
use Rattle.pbd_pair.proofs.WideRows.{no_flag, row_exact}
use Rattle.pbd_pair.proofs.slow.moves_of.Goals as goal

pub row_moves-requires : goal.row_moves-requires
row_moves-requires c =
    let fits : FitsSigned w32 c.args.row.flag = search rules in
    (c.requires.row (no_flag c.args.row.flag fits c.if-told.true)).size

pub returns-then-told : goal.returns-then-told
returns-then-told c =
    let fits : FitsSigned w32 c.args.row.flag = search rules in
    row_exact c.row_moves.result (c.requires.row (no_flag c.args.row.flag fits c.if-told.true)) c.row_moves.ensures.first
    c.row_moves.ensures.second

pub returns : goal.returns
returns c = record { moves = c.exact_moves.ensures.moves; first = c.exact_moves.ensures.first; second = c.exact_moves.ensures.second }
