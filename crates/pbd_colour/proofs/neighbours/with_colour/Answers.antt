use Rattle.std.proofs.Common.{◌∙◌, ◌&&◌, ◌||◌, Bool, eqb, ap, sym}
use Rattle.std.specs.Int.{bit_at}
use Rattle.pbd_colour.proofs.UsedLemmas.{bit-with, small-with}
use Rattle.pbd_colour.proofs.neighbours.with_colour.Goals as goal

pub returns-then-c-lt63-clause-has : goal.returns-then-c-lt63-clause-has
returns-then-c-lt63-clause-has c = λ d l. bit-with c.args.set c.args.c c.if-c-lt63.true d
    ∙ ap (λ (b : Bool). eqb (bit_at c.args.set d) 1 || (b && eqb c.args.c d)) (sym c.if-is_held.true)

pub returns-then-c-lt63-clause-small : goal.returns-then-c-lt63-clause-small
returns-then-c-lt63-clause-small c = small-with c.args.set c.args.c c.if-c-lt63.true c.requires.small
