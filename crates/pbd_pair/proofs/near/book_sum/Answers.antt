use Rattle.std.proofs.Common.{◌+◌, ◌^◌, arith, subst, sym}
use Rattle.pbd_world.specs.Ledger.{Ledger, ledger_of, HaveRoom}
use Rattle.pbd_world.proofs.Rooms.{move_fits, room_left}
use Rattle.pbd_pair.proofs.near.book_sum.Goals as goal

pub add-requires : goal.add-requires
add-requires c = move_fits (ledger_of c.args.totals.now) c.args.class c.args.moved (2 ^ 125) (2 ^ 30) c.requires.room c.requires.size (omega arith)

pub returns-clause-room : goal.returns-clause-room
returns-clause-room c = λ n m within room. subst (λ (t : Ledger). HaveRoom (n + m) t) (sym c.add.ensures)
    (room_left (ledger_of c.args.totals.now) c.args.class c.args.moved n m room within)
