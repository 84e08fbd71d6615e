use Rattle.std.proofs.Common.{◌≡◌, ℕ, ◌^◌, ◌<◌, pos, int_le, get_or, w32, FitsSigned, length, add-one, refl, ap, sym, ◌∙◌, arith, subst}
use Rattle.pbd_num.specs.Vectors.{Within}
use Rattle.pbd_world.specs.declared.bond.Shift.{Shift}
use Rattle.std.proofs.lemmas.Int.{to_z-of_z}
use Rattle.pbd_world.specs.Ledger.{ledger_of, booked}
use Rattle.pbd_world.specs.Bonds.{entries_of, class_of}
use Rattle.pbd_pair.proofs.Chunks.{first_fits, second_fits}
use Rattle.pbd_world.proofs.Rooms.{room_at}
use Rattle.pbd_pair.specs.Moves.{settled}
use Rattle.pbd_pair.specs.Chunks.{entries_in}
use Rattle.pbd_pair.proofs.slow.book_each.Goals as goal

pub loop-j-init : goal.loop-j-init
loop-j-init c = record { value = refl; room = λ n h. room_at _ (omega arith) h }

pub book-requires-clause-room : goal.book-requires-clause-room
book-requires-clause-room c = room_at (2 ^ 125) (omega (arith, c.requires.few)) (c.loop-j.invariant.room (2 ^ 124) c.requires.room)

pub book-requires-clause-first : goal.book-requires-clause-first
book-requires-clause-first c = subst (λ (x : Shift). Within (2 ^ 31) x.first_move) (sym c.as_shift.ensures)
    (c.requires.first c.loop-j.j (omega arith))

pub book-requires-clause-second : goal.book-requires-clause-second
book-requires-clause-second c = subst (λ (x : Shift). Within (2 ^ 31) x.second_move) (sym c.as_shift.ensures)
    (c.requires.second c.loop-j.j (omega arith))

pub loop-j-preserved : goal.loop-j-preserved
loop-j-preserved c =
    let inv = c.loop-j.invariant in
    let j = c.loop-j.j in
    let found = c.args.found.now in
    let p : j < length found.chunk.numbers.now = omega arith in
    let w1 = get_or found.laid.first_weight.now j (pos 0) in
    let w2 = get_or found.laid.second_weight.now j (pos 0) in
    let f1 : FitsSigned w32 w1 = first_fits c.requires.sized j p in
    let f2 : FitsSigned w32 w2 = second_fits c.requires.sized j p in
    let did = simp to_z-of_z at c.book.ensures.value in
    record {
      value = did ∙ (λ i. booked (inv.value i) (entries_of (int_le w1 (pos 0)) (int_le w2 (pos 0)) (class_of (c.get.ensures i))
          (c.as_shift.ensures i)))
          ∙ ap (λ (k : ℕ). settled (entries_in found c.args.moves.now) k (ledger_of c.args.totals.now)) (sym (add-one j));
      room = λ n h. room_at _ (omega arith) (c.book.ensures.room _ (inv.room n h));
    }

pub returns-clause-value : goal.returns-clause-value
returns-clause-value c =
    let whole : c.loop-j.j ≡ length c.args.found.now.chunk.numbers.now = omega arith in
    c.loop-j.invariant.value ∙ ap (λ (k : ℕ). settled (entries_in c.args.found.now c.args.moves.now) k (ledger_of c.args.totals.now)) whole

pub returns-clause-room : goal.returns-clause-room
returns-clause-room c = λ n h. room_at _ (omega arith) (c.loop-j.invariant.room n h)
