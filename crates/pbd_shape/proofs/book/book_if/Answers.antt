use Rattle.std.proofs.Common.{◌^◌, sym, ◌∙◌, cond}
use Rattle.pbd_world.specs.declared.totals.Class.TheVariants as classes
use Rattle.pbd_world.specs.Ledger.{ledger_of, added}
use Rattle.pbd_world.proofs.Rooms.{room_left}
use Rattle.pbd_shape.proofs.book.book_if.Goals as goal

pub returns-then-made-clause-value : goal.returns-then-made-clause-value
returns-then-made-clause-value c =
    let before = ledger_of c.args.totals.now in
    c.add.ensures ∙ (λ i. cond (sym c.if-made.true i) (added before classes.Shape c.args.by) before)

pub returns-then-made-clause-room : goal.returns-then-made-clause-room
returns-then-made-clause-room c = λ n h. rw c.add.ensures
    (room_left (ledger_of c.args.totals.now) classes.Shape c.args.by n (2 ^ 31) h c.requires.short)
