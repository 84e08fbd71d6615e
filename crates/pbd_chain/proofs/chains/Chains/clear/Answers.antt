use Rattle.std.proofs.Common.{◌≡◌, ◌∙◌, sym, ap, arith, List, length, ℕ, replicate, map}
use Rattle.pbd_chain.specs.Linked.{Shows, chains_of}
use Rattle.pbd_chain.proofs.Shown
use Rattle.pbd_chain.proofs.chains.Chains.clear.Goals as goal

shows : (c : goal.After-clear) → Shows c.clear.new.self.heads c.clear.new.self.next c.clear.new.self.back.items
    (replicate (length c.clear.new.self.heads) (Shown.none_of ℕ))
shows c =
    let few = ap length c.clear.ensures.next in
    Shown.shown-none c.clear.new.self.heads c.clear.new.self.next c.clear.new.self.back.items
    (omega (arith, few, c.self.invariant.few))
    (omega (arith, few, c.clear.ensures.sized.backs, c.self.invariant.backs)) c.clear.ensures.heads c.clear.ensures.back

pub invariant_of-self : goal.invariant_of-self
invariant_of-self c = Shown.shows-seen (shows c)

pub returns : goal.returns
returns c =
    let old : List (List ℕ) = chains_of c.self.inside.slots.heads c.self.inside.slots.next in
    let count : length c.clear.new.self.heads ≡ length old = c.clear.ensures.sized.chains ∙ sym c.self.invariant.count in
    let none : replicate (length c.clear.new.self.heads) (Shown.none_of ℕ) ≡ map (λ _. Shown.none_of ℕ) old =
    ap (λ (n : ℕ). replicate n (Shown.none_of ℕ)) count ∙ Shown.all_empty old in
    rw (← c.self.view_is) (Shown.view-shown (length c.self.inside.slots.next) (ap length c.clear.ensures.next) (shows c)
    ∙ ap (Shown.linked_as (length c.self.inside.slots.next)) none)
