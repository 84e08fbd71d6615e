-- Cuts, one after another.
use Rattle.std.proofs.Common.{◌≡◌, ◌∙◌, refl, sym, ap, subst, zero, suc, ℕ, ◌+◌, ◌<◌, ◌≤◌, List, [], ◌∷◌, length, get_or, drop, map, Bool}
use Rattle.std.proofs.Common.{true, false, arith}
use Rattle.std.specs.Prelude.{if◌then◌else◌}
use Rattle.std.proofs.lemmas.List.{drop_all, length-map}
use Rattle.pbd_world.specs.declared.command.Command.{Command}
use Rattle.pbd_world.specs.declared.command.Command.TheVariants.{Cut}
use Rattle.pbd_world.specs.Meaning.{after, reply}
use Rattle.pbd_world.specs.Session.{is_refused, refused_count}
use Rattle.pbd_world.specs.World.{World}
use Rattle.pbd_cloth.specs.Slots.{Slotted, last_played, played}
use Rattle.pbd_world.proofs.WorkLemmas.{if_most_else}

abbrev pub cuts_from : ℕ → List ℕ → List Command
cuts_from i links = drop i (map {A = ℕ} {B = Command} Cut links)

-- so many of the first i cuts were refused, and the others lead from now on where all of them lead from the start
pub record AreCut (links : List ℕ) (i count : ℕ) (start now : Slotted) : Type 0 where
  pub led : last_played now (cuts_from i links) ≡ last_played start (cuts_from 0 links)
  pub counted : count + refused_count now.world (cuts_from i links) ≡ refused_count start.world (cuts_from 0 links)
  pub few : count ≤ i

next_cut : (links : List ℕ) (i d : ℕ) → i < length links → cuts_from i links ≡ Cut (get_or links i d) ∷ cuts_from (i + 1) links
next_cut [] i d lt = absurd (omega (arith, lt))
next_cut (l ∷ ls) zero d lt = refl
next_cut (l ∷ ls) (suc i) d lt = let e : suc i + 1 ≡ suc (i + 1) = omega arith in rw e (next_cut ls i d (omega (arith, lt)))

refused_next : (w : World) (c : Command) (cs : List Command)
    → refused_count w (c ∷ cs) ≡ (if is_refused (reply w c) then 1 else 0) + refused_count (after w c) cs
unfolding refused_count
refused_next w c cs = refl

refused_none : (w : World) → refused_count w [] ≡ 0
unfolding refused_count
refused_none w = refl

pub cut_none : (links : List ℕ) (start : Slotted) → AreCut links 0 0 start start
cut_none links start = record { led = refl; counted = omega arith; few = omega arith }

pub cut_next : (links : List ℕ) (i d l count n : ℕ) (start now new : Slotted) → i < length links → AreCut links i count start now
    → l ≡ get_or links i d → n ≡ (if is_refused (reply now.world (Cut l)) then 1 else 0) → new ≡ played now (Cut l)
    → AreCut links (i + 1) (count + n) start new
cut_next links i d l count n start now new lt so_far at is done =
    let c : Command = Cut l in
    let next : cuts_from i links ≡ c ∷ cuts_from (i + 1) links =
    next_cut links i d lt ∙ ap {A = ℕ} {B = List Command} (λ k. Cut k ∷ cuts_from (i + 1) links) (sym at) in
    let more = ap (λ (cs : List Command). refused_count now.world cs) next ∙ refused_next now.world c (cuts_from (i + 1) links) in
    let here : AreCut links (i + 1) (count + n) start (played now c) = record {
      led = sym (ap (λ (cs : List Command). last_played now cs) next) ∙ so_far.led;
      counted = omega (arith, is, more, so_far.counted);
      few = omega (arith, is, if_most_else (is_refused (reply now.world c)) 1, so_far.few);
    } in
    subst (λ (s : Slotted). AreCut links (i + 1) (count + n) start s) (sym done) here

pub cut_all : (links : List ℕ) (i count : ℕ) (start now : Slotted) → i ≡ length links → AreCut links i count start now
    → (now ≡ last_played start (cuts_from 0 links)) × (count ≡ refused_count start.world (cuts_from 0 links))
cut_all links i count start now all so_far =
    let none : cuts_from i links ≡ [] = drop_all i (map {A = ℕ} {B = Command} Cut links)
    (omega (arith, all, length-map {A = ℕ} {B = Command} links Cut)) in
    let left = ap (λ (cs : List Command). refused_count now.world cs) none ∙ refused_none now.world in
    (sym (ap (λ (cs : List Command). last_played now cs) none) ∙ so_far.led, omega (arith, left, so_far.counted))
