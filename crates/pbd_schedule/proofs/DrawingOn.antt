-- What may come after an event is drawn.
use Rattle.std.proofs.Common.{◌≡◌, ℕ, zero, suc, [], ◌∷◌, ◌++◌, ◌+◌, ◌*◌, map, ◌-◌, ◌<◌, ◌≤◌, List, length, take, set, length-take, refl}
use Rattle.std.proofs.Common.{sym, ◌∙◌, ap, arith, Some, None}
use Rattle.std.proofs.Math.Seq.{take-set-lt}
use Rattle.std.proofs.lemmas.List.{get_or-take, append_assoc, append-nil, take-take}
use Rattle.std.proofs.lemmas.List.Sums.{sum_by-set, sum_by-swap_remove, sum_by-cons}
use Rattle.rand_pcg.specs.Lcg.{Lcg}
use Rattle.rand_pcg.specs.Pcg.{pcg32}
use Rattle.std.specs.List.{sum_by, range_with_len}
use Rattle.pbd_schedule.specs.declared.event.Event.{Event}
use Rattle.pbd_schedule.specs.declared.event.Event.TheVariants.{Read, WriteA, WriteB}
use Rattle.pbd_schedule.specs.Legal.{event_at}
use Rattle.pbd_schedule.specs.Drawn.{following, replaced, gone_on, drawn_place, drawn_from, drawn, later, first_events}

module _ (coming : List Event) (left i : ℕ) (h : left ≤ length coming) (w : i < left) where
  there : event_at (take left coming) i ≡ event_at coming i
  there = get_or-take left coming i (Read 0) w

  size : length (take left coming) ≡ left
  size = omega (arith, length-take left coming)

  pub goes_on : (e : Event) → following (event_at coming i) ≡ Some e → take left (set coming i e) ≡ gone_on (take left coming) i
  goes_on e f = take-set-lt left coming i e w ∙ sym (ap (λ (x : Event). replaced (take left coming) i (following x)) there
      ∙ ap (replaced (take left coming) i) f)

  pub goes_out : following (event_at coming i) ≡ None → take (left - 1) (set coming i (event_at coming (left - 1)))
      ≡ gone_on (take left coming) i
  goes_out f =
      sym (ap (λ (n : ℕ). take (n - 1) (set (take left coming) i (event_at (take left coming) (n - 1)))) size
      ∙ ap (λ (x : Event). take (left - 1) (set (take left coming) i x)) (get_or-take left coming (left - 1) (Read 0) (omega arith))
      ∙ ap (take (left - 1)) (sym (take-set-lt left coming i (event_at coming (left - 1)) w))
      ∙ take-take (left - 1) left (set coming i (event_at coming (left - 1))) (omega arith))
      ∙ sym (ap (λ (x : Event). replaced (take left coming) i (following x)) there ∙ ap (replaced (take left coming) i) f)

-- how many events a bond has from its next on
abbrev pub from_there : Event → ℕ
from_there (Read k) = 3
from_there (WriteA k) = 2
from_there (WriteB k) = 1

-- how many events are still to come
abbrev pub still_to_come : List Event → ℕ
still_to_come coming = sum_by from_there coming

next_fewer : (e : Event) (coming : List Event) (i : ℕ) → i < length coming → event_at coming i ≡ e
    → still_to_come (replaced coming i (following e)) + 1 ≡ still_to_come coming
next_fewer (Read k) coming i h q = omega (arith, sum_by-set from_there coming i (WriteA k) (Read 0) h, ap from_there q)
next_fewer (WriteA k) coming i h q = omega (arith, sum_by-set from_there coming i (WriteB k) (Read 0) h, ap from_there q)
next_fewer (WriteB k) coming i h q = omega (arith, sum_by-swap_remove from_there coming i (Read 0) h, ap from_there q)

-- each event that comes leaves one less to come
pub gone_fewer : (coming : List Event) (i : ℕ) → i < length coming → still_to_come (gone_on coming i) + 1 ≡ still_to_come coming
gone_fewer coming i h = next_fewer (event_at coming i) coming i h refl

reads_from : (a n : ℕ) → still_to_come (map Read (range_with_len a n)) ≡ 3 * n
reads_from a zero = refl
reads_from a (suc n) = omega (arith, sum_by-cons from_there (Read a) (map Read (range_with_len (a + 1) n)), reads_from (a + 1) n)

pub all_reads : (m : ℕ) → still_to_come (first_events m) ≡ 3 * m
all_reads m = reads_from 0 m

-- one event more is drawn
pub drawn_more : (done done' : List Event) (n k : ℕ) (g : Lcg) (coming coming' : List Event) (e : Event) → n ≡ suc k
    → done' ≡ done ++ e ∷ [] → e ≡ event_at coming (drawn_place g coming) → coming' ≡ gone_on coming (drawn_place g coming)
    → done' ++ drawn_from k (pcg32 g).1 coming' ≡ done ++ drawn_from n g coming
drawn_more done done' n k g coming coming' e en ed ee ec =
    (λ i. ed i ++ drawn_from k (pcg32 g).1 (ec i))
    ∙ append_assoc done (e ∷ []) (drawn_from k (pcg32 g).1 (gone_on coming (drawn_place g coming)))
    ∙ ap (λ (x : Event). done ++ x ∷ drawn_from k (pcg32 g).1 (gone_on coming (drawn_place g coming))) ee
    ∙ sym (ap (λ (j : ℕ). done ++ drawn_from j g coming) en)

pub later_more : (n k : ℕ) (g : Lcg) → n ≡ suc k → later k (pcg32 g).1 ≡ later n g
later_more n k g e = sym (ap (λ (j : ℕ). later j g) e)

pub length-drawn_from : (n : ℕ) (g : Lcg) (coming : List Event) → length (drawn_from n g coming) ≡ n
length-drawn_from zero g coming = refl
length-drawn_from (suc n) g coming = ap suc (length-drawn_from n (pcg32 g).1 (gone_on coming (drawn_place g coming)))

pub length-drawn : (g : Lcg) (m : ℕ) → length (drawn g m) ≡ 3 * m
unfolding drawn
length-drawn g m = length-drawn_from (3 * m) g (first_events m)

pub none_more : (done : List Event) (n : ℕ) (g g0 : Lcg) (coming : List Event) (m : ℕ) → n ≡ 0
    → done ++ drawn_from n g coming ≡ drawn_from (3 * m) g0 (first_events m) → done ≡ drawn g0 m
unfolding drawn
none_more done n g g0 coming m e h = sym (append-nil done) ∙ sym (ap (λ (j : ℕ). done ++ drawn_from j g coming) e) ∙ h

pub some_left : (coming : List Event) → 0 < still_to_come coming → 0 < length coming
some_left [] h = absurd (omega (arith, h))
some_left (e ∷ coming) h = omega arith
