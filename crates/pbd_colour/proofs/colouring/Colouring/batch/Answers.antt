use Rattle.std.proofs.Common.{◌≡◌, ◌+◌, ◌∙◌, sym, arith, subst, ℕ, List}
use Rattle.pbd_colour.specs.Batch.{AreApart, AreLive}
use Rattle.pbd_colour.specs.Pairs.{batch_of}
use Rattle.pbd_colour.proofs.Batches.{batch-apart, batch-live}
use Rattle.pbd_colour.proofs.KeptLemmas.{starts_ordered, starts_within, batch_is}
use Rattle.pbd_colour.proofs.colouring.Colouring.batch.Goals as goal

pub piece-requires-clause-ordered : goal.piece-requires-clause-ordered
piece-requires-clause-ordered c = rw c.as_slice-2.ensures (starts_ordered c.self.invariant.coloured c.args.c (omega arith))

pub piece-requires-clause-within : goal.piece-requires-clause-within
piece-requires-clause-within c = rw (c.as_slice-2.ensures, c.as_slice.ensures)
    (starts_within c.self.invariant.coloured (c.args.c + 1) (omega arith))

-- the piece is the batch of its colour
is_batch : (c : goal.After-piece) → c.piece.result.now ≡ batch_of c.self.inside.pairs.entries c.self.inside.live.entries c.args.c
is_batch c = (rw (c.as_slice.ensures, c.as_slice-2.ensures) at c.piece.ensures) ∙ batch_is c.self.invariant.coloured c.args.c (omega arith)

pub returns-clause-value : goal.returns-clause-value
returns-clause-value c = rw (← c.self.view_is) (is_batch c)

pub returns-clause-apart : goal.returns-clause-apart
returns-clause-apart c = rw (← c.self.view_is) (subst (λ (xs : List ℕ). AreApart c.self.inside.pairs.entries xs) (sym (is_batch c))
    (batch-apart c.self.inside.pairs.entries c.self.inside.live.entries c.args.c (omega arith)))

pub returns-clause-live : goal.returns-clause-live
returns-clause-live c = rw (← c.self.view_is) (subst (λ (xs : List ℕ). AreLive c.self.inside.pairs.entries c.self.inside.live.entries xs)
    (sym (is_batch c)) (batch-live c.self.inside.pairs.entries c.self.inside.live.entries c.args.c))
