use Rattle.std.proofs.Common.{◌≡◌, ◌∙◌, ◌+◌, ◌/◌, ℕ, Bool, sym, ap, length, false}
use Rattle.pbd_world.specs.Room.{Roomed}
use Rattle.pbd_world.specs.Colours.{live_at}
use Rattle.pbd_colour.proofs.Marking.{none_blocked}
use Rattle.pbd_colour.proofs.marks.MarkedNumbers.open.Goals as goal

pub invariant_of-result : goal.invariant_of-result
invariant_of-result c =
    let numbers = c.in_ok-numbers.ensures in
    let blocks = c.in_ok-blocks.ensures in
    let none : (k : ℕ) → live_at c.in_ok-numbers.numbers.entries k ≡ false = λ k. ap (λ (r : Roomed Bool). live_at r.entries k) numbers in (
      none_blocked c.in_ok-numbers.numbers.entries c.in_ok-blocks.blocks.entries (ap (λ (r : Roomed Bool). length r.entries) blocks
          ∙ sym (ap (λ (r : Roomed Bool). length r.entries / 256 + 1) numbers)) none,
      ap (λ (r : Roomed Bool). r.room) blocks ∙ sym (ap (λ (r : Roomed Bool). r.room / 256 + 1) numbers),
    )
