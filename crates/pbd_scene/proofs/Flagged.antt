-- Flags that tell which numbers are named, and the particles and tracks of these numbers.
use Rattle.std.proofs.Common.{◌≡◌, ◌∙◌, ap, sym, refl, ℕ, ◌+◌, ◌<◌, ◌≤◌, Bool, true, false, ◌||◌, List, [], ◌∷◌, ◌++◌, length, get_or, take}
use Rattle.std.proofs.Common.{drop, map, arith, inl, inr, append_assoc, append-nil}
use Rattle.std.specs.Prelude.{slice_set as set, replicate, ◌==◌, if◌then◌else◌, Ok}
use Rattle.std.specs.List.{list_any}
use Rattle.std.proofs.lemmas.Bool.{cases_eq, eq-eqb, ne_eqb}
use Rattle.std.proofs.lemmas.List.{map-append, get_or-set_same, get_or-set_other, length-set, take_all, take_more, drop_more, drop_all}
use Rattle.std.proofs.lemmas.List.{length-append, length-replicate, get_or-replicate, get_or_default}
use Rattle.std.proofs.lemmas.List.Folds.{list_any-append}
use Rattle.pbd_world.specs.declared.parts.Particle.{Particle}
use Rattle.pbd_world.specs.declared.parts.Track.{Track}
use Rattle.pbd_world.specs.Neighbours.{is_among, HoldsTracked}
use Rattle.pbd_scene.specs.declared.raw.TrackEntry.{TrackEntry}
use Rattle.pbd_scene.specs.declared.fault.SceneFault.{SceneFault}
use Rattle.pbd_scene.specs.Checks.{Fails, each}
use Rattle.pbd_scene.specs.Naming.{placed_track, held_still, holding}
use Rattle.pbd_scene.specs.Marks.{Flags}
use Rattle.pbd_scene.specs.Scene.{named}
use Rattle.pbd_scene.proofs.Reading.{next_ok, next_fails, last_ok}

or_true : (b : Bool) → (b || (true || false)) ≡ true
or_true true = refl
or_true false = refl

or_false : (b : Bool) → (b || (false || false)) ≡ b
or_false true = refl
or_false false = refl

-- ---- flags

none : {A : Type 0} (xs : List A) → take 0 xs ≡ []
none [] = refl
none (x ∷ xs) = refl

pub no_flags_yet : (count : ℕ) (names : List ℕ) (flags : List Bool) → flags ≡ replicate count false → Flags count (take 0 names) flags
no_flags_yet count names flags is = rw (none names) (record {
  size = ap length is ∙ length-replicate count false;
  flag = λ i within. ap (λ fs. get_or fs i false) is ∙ get_or-replicate count i false false within;
})

flag_next : (count : ℕ) (names : List ℕ) (i : ℕ) (old now : List Bool) → Flags count names old → now ≡ set old i true
    → Flags count (names ++ i ∷ []) now
flag_next count names i old now held is = record {
  size = ap length is ∙ length-set old i true ∙ held.size;
  flag = λ k within.
      let more : is_among k (names ++ i ∷ []) ≡ (is_among k names || ((i == k) || false)) = list_any-append (λ m. m == k) names (i ∷ []) in
      elim (cases_eq i k) [
        | inl same ↦
            let here : get_or now k false ≡ true = ap (λ fs. get_or fs k false) is ∙ ap (λ j. get_or (set old i true) j false) (sym same)
            ∙ get_or-set_same old i true false (omega (arith, within, same, held.size)) in
            here ∙ sym (more ∙ ap (λ x. is_among k names || (x || false)) (eq-eqb i k same) ∙ or_true (is_among k names))
        | inr other ↦
            let here : get_or now k false ≡ get_or old k false = ap (λ fs. get_or fs k false) is
            ∙ get_or-set_other old i k true false (λ j. other (sym j)) in
            here ∙ held.flag k within ∙ sym (more ∙ ap (λ x. is_among k names || (x || false)) (ne_eqb i k other)
            ∙ or_false (is_among k names))
      ];
}

pub flags_more : (count : ℕ) (names : List ℕ) (index i : ℕ) (old now : List Bool) → index < length names → i ≡ get_or names index i
    → Flags count (take index names) old → now ≡ set old i true → Flags count (take (index + 1) names) now
flags_more count names index i old now within same held is =
    rw (take_more names index i within, ← same) (flag_next count (take index names) i old now held is)

pub flags_all : (count : ℕ) (names : List ℕ) (index : ℕ) (flags : List Bool) → length names ≤ index → Flags count (take index names) flags
    → Flags count names flags
flags_all count names index flags past held = let e : take index names ≡ names = take_all index names past in rw e at held

-- ---- the particles that tracks name

pub named_more : (names : List ℕ) (tracks : List Track) (i : ℕ) (t : Track) (old now : List ℕ) → i < length tracks → t ≡ get_or tracks i t
    → old ≡ named names (take i tracks) → now ≡ old ++ t.particle ∷ [] → now ≡ named names (take (i + 1) tracks)
named_more names tracks i t old now within same so_far is =
    rw (take_more tracks i t within, ← same, map-append, is, so_far)
    (append_assoc names (map (λ (u : Track). u.particle) (take i tracks)) (t.particle ∷ []))

-- ---- particles that stay

pub held_more : (names : List ℕ) (ps : List Particle) (i : ℕ) (p : Particle) (flag : Bool) (held now : List Particle)
    (total : List Particle) → i < length ps → p ≡ get_or ps i p → flag ≡ is_among i names
    → now ≡ held ++ (if flag then held_still p else p) ∷ [] → held ++ holding names i (drop i ps) ≡ total
    → now ++ holding names (i + 1) (drop (i + 1) ps) ≡ total
unfolding holding
held_more names ps i p flag held now total within same is grown so_far =
    let first : drop i ps ≡ p ∷ drop (i + 1) ps = drop_more ps i p within ∙ ap (λ q. q ∷ drop (i + 1) ps) (sym same) in
    let q : Particle = if flag then held_still p else p in
    ap (λ qs. qs ++ holding names (i + 1) (drop (i + 1) ps)) grown
    ∙ append_assoc held (q ∷ []) (holding names (i + 1) (drop (i + 1) ps))
    ∙ ap (λ b. held ++ (if b then held_still p else p) ∷ holding names (i + 1) (drop (i + 1) ps)) is
    ∙ ap (λ qs. held ++ holding names i qs) (sym first)
    ∙ so_far

pub held_all : (names : List ℕ) (ps : List Particle) (i : ℕ) (held total : List Particle) → length ps ≤ i
    → held ++ holding names i (drop i ps) ≡ total → held ≡ total
unfolding holding
held_all names ps i held total past so_far = sym (append-nil held) ∙ ap (λ qs. held ++ holding names i qs) (sym (drop_all i ps past))
    ∙ so_far

-- ---- tracks

-- what was placed so far
pub record TracksSoFar (count : ℕ) (entries : List TrackEntry) (i : ℕ) (tracks : List Track) (flags : List Bool) : Type 0 where
  pub number : length tracks ≡ i
  pub rest : each (placed_track count) tracks (drop i entries) ≡ each (placed_track count) [] entries
  pub told : HoldsTracked count tracks flags

none_dropped : {A : Type 0} (xs : List A) → drop 0 xs ≡ xs
none_dropped [] = refl
none_dropped (x ∷ xs) = refl

pub tracks_begin : (count : ℕ) (entries : List TrackEntry) (flags : List Bool) → flags ≡ replicate count false
    → TracksSoFar count entries 0 [] flags
tracks_begin count entries flags is = record {
  number = refl;
  rest = ap (each (placed_track count) []) (none_dropped entries);
  told = record {
    size = ap length is ∙ length-replicate count false;
    flag = λ i within. ap (λ fs. get_or fs i false) is ∙ get_or-replicate count i false false within;
  };
}

track_next : (count : ℕ) (tracks : List Track) (t : Track) (old now : List Bool) → HoldsTracked count tracks old
    → now ≡ set old t.particle true → HoldsTracked count (tracks ++ t ∷ []) now
track_next count tracks t old now held is = record {
  size = ap length is ∙ length-set old t.particle true ∙ held.size;
  flag = λ k within.
      let more : list_any (λ (u : Track). u.particle == k) (tracks ++ t ∷ [])
      ≡ (list_any (λ (u : Track). u.particle == k) tracks || ((t.particle == k) || false)) =
      list_any-append (λ (u : Track). u.particle == k) tracks (t ∷ []) in
      elim (cases_eq t.particle k) [
        | inl same ↦
            let here : get_or now k false ≡ true = ap (λ fs. get_or fs k false) is
            ∙ ap (λ j. get_or (set old t.particle true) j false) (sym same)
            ∙ get_or-set_same old t.particle true false (omega (arith, within, same, held.size)) in
            here ∙ sym (more ∙ ap (λ x. list_any (λ (u : Track). u.particle == k) tracks || (x || false)) (eq-eqb t.particle k same)
            ∙ or_true (list_any (λ (u : Track). u.particle == k) tracks))
        | inr other ↦
            let here : get_or now k false ≡ get_or old k false = ap (λ fs. get_or fs k false) is
            ∙ get_or-set_other old t.particle k true false (λ j. other (sym j)) in
            here ∙ held.flag k within ∙ sym (more ∙ ap (λ x. list_any (λ (u : Track). u.particle == k) tracks || (x || false))
            (ne_eqb t.particle k other) ∙ or_false (list_any (λ (u : Track). u.particle == k) tracks))
      ];
}

pub tracks_more : (count : ℕ) (entries : List TrackEntry) (i : ℕ) (entry : TrackEntry) (tracks now : List Track) (old flags : List Bool)
    (t : Track) → i < length entries → entry ≡ get_or entries i entry → TracksSoFar count entries i tracks old
    → placed_track count tracks entry ≡ Ok t → flags ≡ set old t.particle true → now ≡ tracks ++ t ∷ []
    → TracksSoFar count entries (i + 1) now flags
tracks_more count entries i entry tracks now old flags t within same so_far is raised grown = rw grown (record {
  number = omega (arith, length-append tracks (t ∷ []), so_far.number);
  rest = next_ok (placed_track count) entries i entry tracks t (each (placed_track count) [] entries) within same is so_far.rest;
  told = track_next count tracks t old flags so_far.told raised;
})

pub tracks_stop : (count : ℕ) (entries : List TrackEntry) (i : ℕ) (entry : TrackEntry) (tracks : List Track) (old : List Bool)
    (e : SceneFault) → i < length entries → entry ≡ get_or entries i entry → TracksSoFar count entries i tracks old
    → Fails e (placed_track count tracks entry) → Fails e (each (placed_track count) [] entries)
tracks_stop count entries i entry tracks old e within same so_far fails =
    next_fails (placed_track count) entries i entry tracks e (each (placed_track count) [] entries) within same fails so_far.rest

pub tracks_end : (count : ℕ) (entries : List TrackEntry) (i : ℕ) (tracks : List Track) (flags : List Bool) → length entries ≤ i
    → TracksSoFar count entries i tracks flags → each (placed_track count) [] entries ≡ Ok tracks
tracks_end count entries i tracks flags past so_far = last_ok (placed_track count) entries i tracks
    (each (placed_track count) [] entries) past so_far.rest

-- ---- the same of what the loops read

pub held_at : (names : List ℕ) (ps : List Particle) (i : ℕ) (d : Particle) (flags : List Bool) (flag : Bool) (q : Particle)
    (held now total : List Particle) → i < length ps → Flags (length ps) names flags → flag ≡ get_or flags i flag
    → q ≡ (if flag then held_still (get_or ps i d) else get_or ps i d) → now ≡ held ++ q ∷ [] → held ++ holding names i (drop i ps) ≡ total
    → now ++ holding names (i + 1) (drop (i + 1) ps) ≡ total
held_at names ps i d flags flag q held now total within told is made grown so_far =
    let inside : i < length flags = omega (arith, within, told.size) in
    let named : flag ≡ is_among i names = is ∙ sym (get_or_default flags i false flag inside) ∙ told.flag i within in
    held_more names ps i (get_or ps i d) flag held now total within (get_or_default ps i d (get_or ps i d) within) named
    (grown ∙ ap (λ x. held ++ x ∷ []) made) so_far

pub flag_more : (count : ℕ) (names : List ℕ) (index d : ℕ) (old now : List Bool) → index < length names → Flags count (take index names) old
    → now ≡ set old (get_or names index d) true → Flags count (take (index + 1) names) now
flag_more count names index d old now within held is = flags_more count names index (get_or names index d) old now within
    (get_or_default names index d (get_or names index d) within) held is
