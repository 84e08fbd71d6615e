use Rattle.std.proofs.Common.{length, map}
use Rattle.pbd_chain.specs.Linked.{Shows, chains_of, without}
use Rattle.pbd_chain.proofs.Shown
use Rattle.pbd_chain.proofs.chains.Chains.unlink.Goals as goal

pub unlink-requires : goal.unlink-requires
unlink-requires c = let i = c.self.invariant in let linked = rw (← c.self.view_is) at c.requires in record {
  item = Shown.item_below i c.args.item linked;
  back = i.backs;
  few = i.few;
  slot = Shown.slot_below i c.args.item;
  behind = λ z. Shown.behind_below i c.args.item z linked;
}

shows : (c : goal.After-unlink) → Shows c.unlink.new.self.heads c.unlink.new.self.next c.unlink.new.self.back.items
    (map (without c.args.item) (chains_of c.self.inside.slots.heads c.self.inside.slots.next))
shows c = let size = c.unlink.ensures.sized in let linked = rw (← c.self.view_is) at c.requires in
    Shown.Shows-unlink c.self.invariant size.chains size.items size.backs c.args.item linked c.unlink.ensures.out

pub invariant_of-self : goal.invariant_of-self
invariant_of-self c = Shown.shows-seen (shows c)

pub returns : goal.returns
returns c = rw (← c.self.view_is) (Shown.view-shown (length c.self.inside.slots.next) c.unlink.ensures.sized.items (shows c))
