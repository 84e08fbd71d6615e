use Rattle.std.proofs.Common.{◌≡◌, ◌+◌, ◌^◌, false, [], ◌∷◌, arith, sym, ◌∙◌}
use Rattle.std.proofs.lemmas.Bool.{cond-true, cond-false}
use Rattle.pbd_world.specs.declared.totals.Class.TheVariants as classes
use Rattle.pbd_world.specs.declared.bond.Bond.{Bond}
use Rattle.pbd_world.specs.declared.bond.Shift.{Shift}
use Rattle.pbd_world.specs.declared.totals.Class.{Class}
use Rattle.pbd_world.specs.Ledger.{Ledger, ledger_of, booked}
use Rattle.pbd_world.specs.Bonds.{class_of, entries_of}
use Rattle.pbd_world.proofs.Rooms.{room_at}
use Rattle.pbd_pair.proofs.book.book.Goals.{then-bond, else-bond}
use Rattle.pbd_pair.proofs.book.book.Goals as goal

both_booked : (t u : Ledger) {v : Ledger} {class : Class} (b : Bond) (s : Shift) → class ≡ class_of b
    → u ≡ booked t ((class, s.first_move) ∷ [])
    → v ≡ booked u ((class, s.second_move) ∷ []) → v ≡ booked t (entries_of false false (class_of b) s)
both_booked t u b s same first second =
    second ∙ (λ i. booked (first i) ((same i, s.second_move) ∷ []))
    ∙ (λ i. booked t ((same i, s.first_move) ∷ (class_of b, s.second_move) ∷ []))

pub returns-else-second-clause-value : goal.returns-else-second-clause-value
returns-else-second-clause-value c =
    let b = c.args.bond in
    let same : c.if-bond.class ≡ class_of b = elim c.if-bond.branch [
      | then-bond w ↦ w.class-is ∙ sym (cond-true b.contact classes.Contact classes.Link w.if-bond.true)
      | else-bond w ↦ w.class-is ∙ sym (cond-false b.contact classes.Contact classes.Link w.if-bond.false)
    ] in
    both_booked (ledger_of c.args.totals.now) _ b c.args.shift same c.add-else-second.ensures.value
    c.add-else-second-2.ensures.value
    ∙ (λ i. booked (ledger_of c.args.totals.now) (entries_of (sym c.if-first.false i) (sym c.if-second.false i)
    (class_of b) c.args.shift))

pub returns-then-second-clause-value : goal.returns-then-second-clause-value
returns-then-second-clause-value c =
    c.add-then-second.ensures.value
    ∙ (λ i. booked (ledger_of c.args.totals.now) (entries_of (sym c.if-first.false i) (sym c.if-second.true i)
    (class_of c.args.bond) c.args.shift))

pub returns-then-not-second-clause-value : goal.returns-then-not-second-clause-value
returns-then-not-second-clause-value c =
    c.add.ensures.value
    ∙ (λ i. booked (ledger_of c.args.totals.now) (entries_of (sym c.if-first.true i) (sym c.if-not-second.true i)
    (class_of c.args.bond) c.args.shift))

pub add-requires-else-second-2-clause-room : goal.add-requires-else-second-2-clause-room
add-requires-else-second-2-clause-room c = room_at (2 ^ 126) (omega arith)
    (c.add-else-second.ensures.room (2 ^ 125) c.requires.room)

pub returns-else-second-clause-room : goal.returns-else-second-clause-room
returns-else-second-clause-room c = λ n h. room_at (n + 2 ^ 32) (omega arith) (c.add-else-second-2.ensures.room (n + 2 ^ 31)
    (c.add-else-second.ensures.room n h))

pub returns-then-second-clause-room : goal.returns-then-second-clause-room
returns-then-second-clause-room c = λ n h. room_at (n + 2 ^ 32) (omega arith) (c.add-then-second.ensures.room n h)

pub returns-then-not-second-clause-room : goal.returns-then-not-second-clause-room
returns-then-not-second-clause-room c = λ n h. room_at (n + 2 ^ 32) (omega arith) (c.add.ensures.room n h)
