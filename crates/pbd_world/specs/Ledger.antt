-- The ledger: sums of moves, by what made them.
use Rattle.std.specs.Prelude.{ℕ, ◌≤◌, ℤ, pos, ◌+ℤ◌, unsigned_abs, List, fold, slice_index_or, FitsSigned}
use Rattle.std.specs.Int.{w128}
use Rattle.pbd_num.specs.declared.Vec3.{Vec3}
use Rattle.pbd_world.specs.declared.totals.Class.{Class}
use Rattle.pbd_world.specs.declared.totals.Class.TheVariants as classes
use Rattle.pbd_world.specs.declared.totals.Totals.{Totals}

-- a sum of moves, axis by axis
pub record Sum : Type 0 where
  pub x : ℤ
  pub y : ℤ
  pub z : ℤ

-- where momentum came from since opening, by what made it
pub record Ledger : Type 0 where
  pub gravity : Sum
  pub damping : Sum
  pub link : Sum
  pub contact : Sum
  pub pin : Sum
  pub shape : Sum

-- the sum that three numbers stand for
abbrev pub sum_of : List ℤ → Sum
sum_of axes = record { x = slice_index_or axes 0 (pos 0); y = slice_index_or axes 1 (pos 0); z = slice_index_or axes 2 (pos 0) }

-- the ledger that totals stand for
abbrev pub ledger_of : Totals → Ledger
ledger_of t = record {
  gravity = sum_of t.gravity;
  damping = sum_of t.damping;
  link = sum_of t.link;
  contact = sum_of t.contact;
  pin = sum_of t.pin;
  shape = sum_of t.shape;
}

abbrev pub zero_sum : Sum
zero_sum = record { x = pos 0; y = pos 0; z = pos 0 }

-- a sum with one more move
abbrev pub sum_plus : Sum → Vec3 → Sum
sum_plus s v = record { x = s.x +ℤ v.x; y = s.y +ℤ v.y; z = s.z +ℤ v.z }

abbrev pub both_sums : Sum → Sum → Sum
both_sums s t = record { x = s.x +ℤ t.x; y = s.y +ℤ t.y; z = s.z +ℤ t.z }

abbrev pub zero_totals : Ledger
zero_totals = record { gravity = zero_sum; damping = zero_sum; link = zero_sum; contact = zero_sum; pin = zero_sum; shape = zero_sum }

-- the total of one class
abbrev pub total_of : Ledger → Class → Sum
total_of t classes.Gravity = t.gravity
total_of t classes.Damping = t.damping
total_of t classes.Link = t.link
total_of t classes.Contact = t.contact
total_of t classes.Pin = t.pin
total_of t classes.Shape = t.shape

-- the totals with a move added to one class
abbrev pub added : Ledger → Class → Vec3 → Ledger
added t classes.Gravity move = record t { gravity = sum_plus t.gravity move }
added t classes.Damping move = record t { damping = sum_plus t.damping move }
added t classes.Link move = record t { link = sum_plus t.link move }
added t classes.Contact move = record t { contact = sum_plus t.contact move }
added t classes.Pin move = record t { pin = sum_plus t.pin move }
added t classes.Shape move = record t { shape = sum_plus t.shape move }

-- an entry of the ledger: a move, and the class to which it belongs
abbrev pub Entry : Type 0
Entry = Class × Vec3

-- the totals after some entries
abbrev pub booked : Ledger → List Entry → Ledger
booked t entries = fold {A = Entry} (λ t e. added t e.0 e.1) t entries

-- all six totals together
abbrev pub all_totals : Ledger → Sum
all_totals t = both_sums t.gravity (both_sums t.damping (both_sums t.link (both_sums t.contact (both_sums t.pin t.shape))))

-- each axis is at most `bound` in size
pub record SumWithin (bound : ℕ) (s : Sum) : Type 0 where
  pub x : unsigned_abs s.x ≤ bound
  pub y : unsigned_abs s.y ≤ bound
  pub z : unsigned_abs s.z ≤ bound

-- each axis of each total is at most `bound` in size
pub record HaveRoom (bound : ℕ) (t : Ledger) : Type 0 where
  pub gravity : SumWithin bound t.gravity
  pub damping : SumWithin bound t.damping
  pub link : SumWithin bound t.link
  pub contact : SumWithin bound t.contact
  pub pin : SumWithin bound t.pin
  pub shape : SumWithin bound t.shape

-- each axis fits a signed number of 128 bits
pub record SumFits (s : Sum) : Type 0 where
  pub x : FitsSigned w128 s.x
  pub y : FitsSigned w128 s.y
  pub z : FitsSigned w128 s.z
