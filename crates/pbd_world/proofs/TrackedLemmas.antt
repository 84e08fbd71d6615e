-- Tracks one after another: flags tell which particles are named.
use Rattle.std.proofs.Common.{◌≡◌, refl, sym, ap, ◌∙◌, ℕ, ◌+◌, ◌<◌, ◌≤◌, Bool, true, false, ◌||◌, List, [], ◌∷◌, length, get_or, take}
use Rattle.std.proofs.Common.{arith, inl, inr, All}
use Rattle.std.specs.Prelude.{slice_set as set, replicate, ◌==◌}
use Rattle.std.specs.List.{list_any}
use Rattle.std.proofs.lemmas.Bool.{cases_eq, eq-eqb, ne_eqb}
use Rattle.std.proofs.lemmas.List.{get_or-set_same, get_or-set_other, length-set, take_all, length-replicate, get_or-replicate}
use Rattle.std.proofs.lemmas.List.{get_or_default}
use Rattle.std.proofs.lemmas.List.Elements.{All-get_or}
use Rattle.std.proofs.lemmas.List.Folds.{list_any_more}
use Rattle.pbd_world.specs.declared.parts.Track.{Track}
use Rattle.pbd_world.specs.Valid.{none_twice}
use Rattle.pbd_world.specs.Neighbours.{HoldsTracked, name_apart}
use Rattle.pbd_world.proofs.TwiceLemmas.{twice_next, twice_found}
use Rattle.std.proofs.Math.Bool.{or-false, or-true}

abbrev alike : Track → Track → Bool
alike t u = t.particle == u.particle

pub record NameApart (count : ℕ) (tracks : List Track) (flags : List Bool) : Type 0 where
  pub holds : HoldsTracked count tracks flags
  pub apart : none_twice {A = Track} (λ t u. t.particle == u.particle) tracks ≡ true

nobody : (tracks : List Track) → take 0 tracks ≡ []
nobody [] = refl
nobody (t ∷ ts) = refl

pub tracked_begins : (count : ℕ) (tracks : List Track) (flags : List Bool) → flags ≡ replicate count false
    → NameApart count (take 0 tracks) flags
tracked_begins count tracks flags e = rw (nobody tracks) (record {
  holds = record {
    size = ap length e ∙ length-replicate count false;
    flag = λ i h. ap (λ fs. get_or fs i false) e ∙ get_or-replicate count i false false h;
  };
  apart = refl;
})

tracked_next : (count : ℕ) (tracks : List Track) (i : ℕ) (t : Track) (old now : List Bool) → i < length tracks → t ≡ get_or tracks i t
    → t.particle < count → NameApart count (take i tracks) old → get_or old t.particle false ≡ false → now ≡ set old t.particle true
    → NameApart count (take (i + 1) tracks) now
tracked_next count tracks i t old now h e among a free is = record {
  holds = record {
    size = ap length is ∙ length-set old t.particle true ∙ a.holds.size;
    flag = λ k l.
        let more = list_any_more (λ (u : Track). u.particle == k) tracks i t h
        ∙ ap (λ (u : Track). list_any (λ (v : Track). v.particle == k) (take i tracks) || (u.particle == k)) (sym e) in
        elim (cases_eq t.particle k) [
          | inl same ↦
              let here : get_or now k false ≡ true = ap (λ fs. get_or fs k false) is
              ∙ ap (λ j. get_or (set old t.particle true) j false) (sym same)
              ∙ get_or-set_same old t.particle true false (omega (arith, among, a.holds.size)) in
              here ∙ sym (more ∙ ap (λ x. list_any (λ (v : Track). v.particle == k) (take i tracks) || x) (eq-eqb t.particle k same)
              ∙ or-true _)
          | inr other ↦
              let here : get_or now k false ≡ get_or old k false = ap (λ fs. get_or fs k false) is
              ∙ get_or-set_other old t.particle k true false (λ j. other (sym j)) in
              here ∙ a.holds.flag k l ∙ sym (more ∙ ap (λ x. list_any (λ (v : Track). v.particle == k) (take i tracks) || x)
              (ne_eqb t.particle k other) ∙ or-false _)
        ];
  };
  apart = twice_next alike tracks i t h e a.apart (sym (a.holds.flag t.particle among) ∙ free);
}

pub tracked_all : (count : ℕ) (tracks : List Track) (i : ℕ) (flags : List Bool) → length tracks ≤ i → NameApart count (take i tracks) flags
    → name_apart tracks ≡ true
unfolding name_apart
tracked_all count tracks i flags h a = let all : take i tracks ≡ tracks = take_all i tracks h in (rw all at a).apart

tracked_stops : (count : ℕ) (tracks : List Track) (i : ℕ) (t : Track) (flags : List Bool) → i < length tracks → t ≡ get_or tracks i t
    → t.particle < count → NameApart count (take i tracks) flags → get_or flags t.particle false ≡ true → name_apart tracks ≡ false
unfolding name_apart
tracked_stops count tracks i t flags h e among a named = twice_found alike tracks i t h e (sym (a.holds.flag t.particle among) ∙ named)

-- ---- the same of track i as it is read

pub read_tracked : (count : ℕ) (tracks : List Track) (i : ℕ) (t : Track) (old : List Bool) (flag : Bool)
    → All (λ (u : Track). u.particle < count) tracks → i < length tracks → t ≡ get_or tracks i t → NameApart count (take i tracks) old
    → flag ≡ get_or old t.particle flag → flag ≡ false → NameApart count (take (i + 1) tracks) (set old t.particle true)
read_tracked count tracks i t old flag all h e a is free =
    let among : t.particle < count = rw (ap (λ (u : Track). u.particle) e)
    (All-get_or (λ (u : Track). u.particle < count) tracks i t h all) in
    tracked_next count tracks i t old (set old t.particle true) h e among a
    (sym (sym free ∙ is ∙ ap (λ x. get_or old t.particle x) free)) refl

pub read_named : (count : ℕ) (tracks : List Track) (i : ℕ) (t : Track) (flags : List Bool) (flag : Bool)
    → All (λ (u : Track). u.particle < count) tracks → i < length tracks → t ≡ get_or tracks i t → NameApart count (take i tracks) flags
    → flag ≡ get_or flags t.particle flag → flag ≡ true → name_apart tracks ≡ false
read_named count tracks i t flags flag all h e a is named =
    let among : t.particle < count = rw (ap (λ (u : Track). u.particle) e)
    (All-get_or (λ (u : Track). u.particle < count) tracks i t h all) in
    let within : t.particle < length flags = omega (arith, among, a.holds.size) in
    tracked_stops count tracks i t flags h e among a (get_or_default flags t.particle false flag within ∙ sym is ∙ named)
