use Rattle.std.proofs.Common.{arith, refl, length}
use Rattle.pbd_store.specs.Blocks.{place_of}
use Rattle.pbd_store.proofs.Filling.{own_block}
use Rattle.pbd_store.proofs.Listing.{moved_padded, moved_saved}
use Rattle.pbd_store.proofs.Lengths.{rows_from}
use Rattle.pbd_store.proofs.Saves.{saved_of}
use Rattle.pbd_store.proofs.columns.Columns.move_where.Goals as goal

pub set_where-requires : goal.set_where-requires
set_where-requires g c =
    let room = rows_from c.self.invariant.padded c.self.view_is _ c.start-start.result c.self.invariant.padded.places c.start-start.ensures.within in
    (omega (arith, c.requires.lanes), (omega (arith, c.requires.lanes), (c.start-start.ensures.size, (c.requires.lanes, room))))

pub set_where-requires-2 : goal.set_where-requires-2
set_where-requires-2 g c =
    let room = rows_from c.self.invariant.padded c.self.view_is _ c.start-start.result c.self.invariant.padded.befores c.start-start.ensures.within in
    (omega (arith, c.requires.lanes), (omega (arith, c.requires.lanes), (c.start-start.ensures.size, (c.requires.lanes, room))))

pub invariant_of-self : goal.invariant_of-self
invariant_of-self g c =
    let own = own_block g.row.L c.args.block c.start-start.result (length c.args.self.now) c.args.set.now c.filled-filled.result c.and-own.result
    c.start-start.ensures.value c.filled-filled.ensures c.and-own.ensures in
    record {
      padded = moved_padded c.self.invariant.padded c.self.view_is g.row.L c.start-start.result c.args.set.now c.and-own.result own
          c.set_where.new.self c.set_where-2.new.self (place_of c.args.at.now.x c.args.at.now.y c.args.at.now.z)
          (place_of c.args.before.now.x c.args.before.now.y c.args.before.now.z) c.set_where.ensures c.set_where-2.ensures;
      long = c.self.invariant.long;
      weighs = c.self.invariant.weighs;
    }

pub returns : goal.returns
returns g c =
    let own = own_block g.row.L c.args.block c.start-start.result (length c.args.self.now) c.args.set.now c.filled-filled.result c.and-own.result
    c.start-start.ensures.value c.filled-filled.ensures c.and-own.ensures in
    saved_of c.start-start.ensures.value refl (moved_saved c.self.invariant.padded c.self.view_is g.row.L c.start-start.result c.args.set.now
    c.and-own.result own c.set_where.new.self c.set_where-2.new.self (place_of c.args.at.now.x c.args.at.now.y c.args.at.now.z)
    (place_of c.args.before.now.x c.args.before.now.y c.args.before.now.z) c.set_where.ensures c.set_where-2.ensures)
