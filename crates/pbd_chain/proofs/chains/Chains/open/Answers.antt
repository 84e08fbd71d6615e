use Rattle.std.proofs.Common.{◌∙◌, ap, length, ℕ}
use Rattle.std.proofs.lemmas.List.{length-replicate}
use Rattle.pbd_chain.proofs.Shown
use Rattle.pbd_chain.proofs.chains.Chains.open.Goals as goal

pub invariant_of-result : goal.invariant_of-result
invariant_of-result c = let made = c.in_ok-slots.ensures in
    Shown.shows-seen (Shown.opened-shows c.args.chains c.args.items c.requires.items c.in_ok-slots.slots.heads c.in_ok-slots.slots.next
    c.in_ok-slots.slots.back.items made.heads made.next made.back)

pub returns : goal.returns
returns c = let made = c.in_ok-slots.ensures in
    Shown.view-shown c.args.items (ap length made.next ∙ length-replicate c.args.items (Shown.nothing ℕ))
    (Shown.opened-shows c.args.chains c.args.items c.requires.items c.in_ok-slots.slots.heads c.in_ok-slots.slots.next
    c.in_ok-slots.slots.back.items made.heads made.next made.back)
