use Rattle.std.proofs.Common.{◌≡◌, replicate}
use Rattle.pbd_world.proofs.room_list.RoomList.fill.Given as goal

abbrev pub invariant-loop : goal.invariant-loop
invariant-loop g l = (l.self.room ≡ l.fn.self.room) × (l.self.entries ≡ replicate l.counter l.item)
