-- What a program reads of a cloth's links and of its ledger.
use Rattle.std.specs.Prelude.{◌≡◌, ℕ, ◌^◌, ℤ, pos, ◌+ℤ◌, ◌*ℤ◌, List, slice_index_or, Option, Some, None}
use Rattle.pbd_world.specs.Ledger.{Sum}
use Rattle.pbd_world.specs.Momentum.{momentum}
use Rattle.pbd_world.specs.World.{World}
use Rattle.pbd_cloth.specs.Slots.{Slotted}
use Rattle.lakmozet_c.specs.declared.plain.Wide.{Wide}
use Rattle.lakmozet_c.specs.declared.plain.Book.{Book}

-- ---- a link that is found, or none

-- no link has this number
abbrev pub no_link : ℕ
no_link = 3

abbrev pub found_answer : Option ℕ → ℕ
found_answer None = no_link
found_answer (Some l) = 0

abbrev pub found_left : Option ℕ → ℕ → ℕ
found_left None before = before
found_left (Some l) before = l

-- ---- the ledger

-- a number of 128 bits in two parts
abbrev pub wide_value : Wide → ℤ
wide_value w = w.high *ℤ pos (2 ^ 64) +ℤ pos w.low

abbrev pub wide_at : List Wide → ℕ → ℤ
wide_at ws n = wide_value (slice_index_or ws n (record { low = 0; high = pos 0 }))

-- the sum that three such numbers stand for
abbrev pub sum_in : List Wide → Sum
sum_in ws = record { x = wide_at ws 0; y = wide_at ws 1; z = wide_at ws 2 }

-- a book tells the momentum of a world, that at opening, and the totals of what moved it since
pub record IsBookOf (w : World) (b : Book) : Type 0 where
  pub momentum : sum_in b.momentum ≡ momentum w.particles
  pub opening : sum_in b.opening ≡ w.opening
  pub gravity : sum_in b.gravity ≡ w.totals.gravity
  pub damping : sum_in b.damping ≡ w.totals.damping
  pub link : sum_in b.link ≡ w.totals.link
  pub contact : sum_in b.contact ≡ w.totals.contact
  pub pin : sum_in b.pin ≡ w.totals.pin
  pub shape : sum_in b.shape ≡ w.totals.shape

-- what a call leaves of a book: what it was where the handle is closed
abbrev pub WritesBook : Option Slotted → Book → Book → Type 0
WritesBook None before after = after ≡ before
WritesBook (Some cloth) before after = IsBookOf cloth.world after
