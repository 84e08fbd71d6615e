use Rattle.std.proofs.Common.{◌+◌, ◌∙◌, sym, arith, subst, ℕ, List}
use Rattle.pbd_colour.specs.Batch.{AreLive}
use Rattle.pbd_colour.proofs.Batches.{batch-live}
use Rattle.pbd_colour.proofs.KeptLemmas.{starts_ordered, starts_within, batch_is}
use Rattle.pbd_colour.proofs.colouring.Colouring.serial.Goals as goal

pub piece-requires-clause-ordered : goal.piece-requires-clause-ordered
piece-requires-clause-ordered c = rw c.as_slice-2.ensures (starts_ordered c.self.invariant.coloured 63 (omega arith))

pub piece-requires-clause-within : goal.piece-requires-clause-within
piece-requires-clause-within c = rw (c.as_slice-2.ensures, c.as_slice.ensures)
    (starts_within c.self.invariant.coloured (63 + 1) (omega arith))

pub returns-clause-value : goal.returns-clause-value
returns-clause-value c = rw (← c.self.view_is) (let q = rw (c.as_slice.ensures, c.as_slice-2.ensures) at c.piece.ensures in
    q ∙ batch_is c.self.invariant.coloured 63 (omega arith))

pub returns-clause-live : goal.returns-clause-live
returns-clause-live c = rw (← c.self.view_is) (let q = rw (c.as_slice.ensures, c.as_slice-2.ensures) at c.piece.ensures in
    subst (λ (xs : List ℕ). AreLive c.self.inside.pairs.entries c.self.inside.live.entries xs)
    (sym (q ∙ batch_is c.self.invariant.coloured 63 (omega arith)))
    (batch-live c.self.inside.pairs.entries c.self.inside.live.entries 63))
