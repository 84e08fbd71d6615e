use Rattle.std.proofs.Common.{◌^◌, arith}
use Rattle.pbd_world.specs.Ledger.{ledger_of}
use Rattle.pbd_world.proofs.Rooms.{move_fits, room_left}
use Rattle.pbd_pair.proofs.book.add.Goals as goal

pub add-requires : goal.add-requires
add-requires c = move_fits (ledger_of c.args.totals.now) c.args.class c.args.by (2 ^ 126) (2 ^ 31) c.requires.room c.requires.short
    (omega arith)

pub returns-clause-room : goal.returns-clause-room
returns-clause-room c = λ n h. rw c.add.ensures (room_left (ledger_of c.args.totals.now) c.args.class c.args.by n
    (2 ^ 31) h c.requires.short)
