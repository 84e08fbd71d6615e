use Rattle.std.proofs.Common.{◌≡◌, ◌∙◌, ◌+◌, ◌/◌, ℕ, Bool, false, sym, ap, length, arith}
use Rattle.std.proofs.lemmas.List.{length-replicate}
use Rattle.pbd_world.specs.Room.{Roomed}
use Rattle.pbd_colour.proofs.Marking.{all_unmarked, none_blocked}
use Rattle.pbd_colour.proofs.marks.MarkedNumbers.refill.Goals as goal

pub fill-requires : goal.fill-requires
fill-requires c = rw (← c.self.view_is) at c.requires

pub fill-requires-2 : goal.fill-requires-2
fill-requires-2 c = let few = rw (← c.self.view_is) at c.requires in omega (arith, few, c.self.invariant.1)

pub invariant_of-self : goal.invariant_of-self
invariant_of-self c =
    let numbers = ap (λ (r : Roomed Bool). r.entries) c.fill.ensures in
    let count : length c.fill.new.self.entries ≡ c.args.count = ap length numbers ∙ length-replicate c.args.count false in
    let blocks : length c.fill-2.new.self.entries ≡ c.args.count / 256 + 1 = ap (λ (r : Roomed Bool). length r.entries) c.fill-2.ensures
    ∙ length-replicate (c.args.count / 256 + 1) false in (
      none_blocked c.fill.new.self.entries c.fill-2.new.self.entries (blocks ∙ ap (λ (n : ℕ). n / 256 + 1) (sym count))
          (all_unmarked c.args.count c.fill.new.self.entries numbers),
      ap (λ (r : Roomed Bool). r.room) c.fill-2.ensures ∙ c.self.invariant.1
          ∙ ap (λ (r : Roomed Bool). r.room / 256 + 1) (sym c.fill.ensures),
    )

pub returns : goal.returns
returns c = rw (← c.self.view_is) c.fill.ensures
