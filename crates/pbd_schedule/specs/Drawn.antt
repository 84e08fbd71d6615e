-- The events of a batch in an order that words of a generator draw.
use Rattle.std.specs.Prelude.{ℕ, zero, suc, ◌*◌, ◌%◌, List, [], ◌∷◌, length, map, slice_set, swap_remove, Option, Some, None}
use Rattle.std.specs.List.{range_with_len}
use Rattle.rand_pcg.specs.Lcg.{Lcg, started, increment_of}
use Rattle.rand_pcg.specs.Pcg.{multiplier_64, pcg32}
use Rattle.pbd_schedule.specs.declared.event.Event.{Event}
use Rattle.pbd_schedule.specs.declared.event.Event.TheVariants.{Read, WriteA, WriteB}
use Rattle.pbd_schedule.specs.Legal.{event_at}

-- the event of the same bond that comes after it
abbrev pub following : Event → Option Event
following (Read k) = Some (WriteA k)
following (WriteA k) = Some (WriteB k)
following (WriteB k) = None

abbrev pub replaced : List Event → ℕ → Option Event → List Event
replaced coming i (Some e) = slice_set coming i e
replaced coming i None = swap_remove coming i (Read 0)

-- After event i of those that may come, its bond's following event stands in its place. After a bond's last
-- event the last of the list takes the place, and the list is one shorter.
abbrev pub gone_on : List Event → ℕ → List Event
gone_on coming i = replaced coming i (following (event_at coming i))

-- the place that a word draws
abbrev pub drawn_place : Lcg → List Event → ℕ
drawn_place g coming = (pcg32 g).0 % length coming

-- n events, where `coming` has the next event of each bond that isn't done
abbrev pub drawn_from : ℕ → Lcg → List Event → List Event
drawn_from zero g coming = []
drawn_from (suc n) g coming =
    let i = drawn_place g coming in
    event_at coming i ∷ drawn_from n (pcg32 g).1 (gone_on coming i)

-- each bond of m is to be read
abbrev pub first_events : ℕ → List Event
first_events m = map Read (range_with_len 0 m)

-- all events of m bonds
unfoldable pub drawn : Lcg → ℕ → List Event
drawn g m = drawn_from (3 * m) g (first_events m)

-- the generator n words later
abbrev pub later : ℕ → Lcg → Lcg
later zero g = g
later (suc n) g = later n (pcg32 g).1

-- the generator of a seed
abbrev pub words_of : ℕ → Lcg
words_of seed = started 64 multiplier_64 seed (increment_of 64 1)

-- what a drawing projector is seen as: its generator, the events of the last batch, and how many bonds it was handed
pub record Drawing : Type 0 where
  pub words : Lcg
  pub events : List Event
  pub handed : ℕ
