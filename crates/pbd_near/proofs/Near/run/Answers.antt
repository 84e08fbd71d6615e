use Rattle.std.proofs.Common.{arith, get_or}
use Rattle.pbd_num.specs.Rows.{no_row}
use Rattle.pbd_near.proofs.Near.run.Goals as goal

pub returns-clause-each : goal.returns-clause-each
returns-clause-each c = λ j q f.
    c.moves.ensures.each j (omega (arith, c.squares.ensures.count)) f (get_or c.args.ways.now j no_row) (c.squares.ensures.each j q)

pub returns-clause-only : goal.returns-clause-only
returns-clause-only c = λ none. c.moves.ensures.only (λ j q. none j (omega (arith, c.squares.ensures.count)))
