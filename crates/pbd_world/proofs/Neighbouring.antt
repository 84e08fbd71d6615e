-- The neighbours of a particle, as links are added.
use Rattle.std.proofs.Common.{◌≡◌, ◌∙◌, ap, sym, refl, ℕ, ◌<◌, ◌++◌, List, [], ◌∷◌, length, get_or, take, ◌+◌, ◌≤◌, append_assoc}
use Rattle.std.proofs.Common.{append-nil, arith, inl, inr}
use Rattle.std.specs.Prelude.{slice_set as set}
use Rattle.std.proofs.lemmas.Bool.{eq-eqb, ne_eqb, cases_eq, cases_lt}
use Rattle.std.proofs.lemmas.List.{get_or-set_same, get_or-set_other, length-set, length-append, get_or_append_left, take_more, take_all}
use Rattle.std.proofs.lemmas.List.{get_or_default}
use Rattle.std.proofs.Math.Seq.{get_or-append_seam}
use Rattle.pbd_world.specs.declared.parts.Link.{Link}
use Rattle.pbd_world.specs.Neighbours.{neighbours, other_end}
use Rattle.pbd_world.specs.Neighbours.{HoldsNeighbours, AddsLink}

-- a link more
pub neighbours_end : (i : ℕ) (ls : List Link) (l : Link) → neighbours i (ls ++ l ∷ []) ≡ neighbours i ls ++ other_end i l
unfolding neighbours
neighbours_end i [] l = append-nil (other_end i l)
neighbours_end i (m ∷ ls) l = ap (λ ns. other_end i m ++ ns) (neighbours_end i ls l)
    ∙ sym (append_assoc (other_end i m) (neighbours i ls) (other_end i l))

pub holds_next : (count : ℕ) (links : List Link) (l : Link) (old now : List (List ℕ)) → HoldsNeighbours count links old → AddsLink l old now
    → HoldsNeighbours count (links ++ l ∷ []) now
holds_next count links l old now held adds = record {
  size = adds.size ∙ held.size;
  ends_at = λ i within. adds.ends_at i (rw held.size within) ∙ ap (λ ns. ns ++ other_end i l) (held.ends_at i within)
      ∙ sym (neighbours_end i links l);
}

-- which end a link has at a particle
pub at_first : (l : Link) → other_end l.a l ≡ l.b ∷ []
unfolding other_end
at_first l = rw (eq-eqb l.a l.a refl) refl

pub at_second : (l : Link) → (l.a ≡ l.b → ⊥) → other_end l.b l ≡ l.a ∷ []
unfolding other_end
at_second l differ = rw (ne_eqb l.a l.b differ, eq-eqb l.b l.b refl) refl

pub at_neither : (l : Link) (i : ℕ) → (l.a ≡ i → ⊥) → (l.b ≡ i → ⊥) → other_end i l ≡ []
unfolding other_end
at_neither l i first second = rw (ne_eqb l.a i first, ne_eqb l.b i second) refl

-- both ends are noted
pub adds_both : (l : Link) (old mid now : List (List ℕ)) → (l.a ≡ l.b → ⊥) → mid ≡ set old l.a (get_or old l.a [] ++ l.b ∷ [])
    → now ≡ set mid l.b (get_or mid l.b [] ++ l.a ∷ []) → AddsLink l old now
adds_both l old mid now differ first second =
    let same_mid : length mid ≡ length old = rw first (length-set old l.a (get_or old l.a [] ++ l.b ∷ [])) in
    let same_now : length now ≡ length mid = rw second (length-set mid l.b (get_or mid l.b [] ++ l.a ∷ [])) in
    record {
      size = same_now ∙ same_mid;
      ends_at = λ i within. elim (cases_eq l.a i) [
        | inl e ↦
            let here : get_or now i [] ≡ get_or mid i [] = rw second
            (get_or-set_other mid l.b i (get_or mid l.b [] ++ l.a ∷ []) [] (λ k. differ (e ∙ k))) in
            let there : get_or mid l.a [] ≡ get_or old l.a [] ++ l.b
            ∷ [] = rw first (get_or-set_same old l.a (get_or old l.a [] ++ l.b ∷ []) [] (omega (arith, e, within))) in
            here ∙ ap (λ k. get_or mid k []) (sym e) ∙ there ∙ ap (λ ns. get_or old l.a [] ++ ns) (sym (at_first l))
            ∙ ap (λ k. get_or old k [] ++ other_end k l) e
        | inr n ↦
            let there : get_or mid i [] ≡ get_or old i [] = rw first
            (get_or-set_other old l.a i (get_or old l.a [] ++ l.b ∷ []) [] (λ k. n (sym k))) in
            elim (cases_eq l.b i) [
              | inl e ↦
                  let here : get_or now l.b [] ≡ get_or mid l.b [] ++ l.a
                  ∷ [] = rw second (get_or-set_same mid l.b (get_or mid l.b [] ++ l.a ∷ []) [] (omega (arith, e, within, same_mid))) in
                  ap (λ k. get_or now k []) (sym e) ∙ here ∙ ap (λ k. get_or mid k [] ++ l.a ∷ []) e ∙ ap (λ ns. ns ++ l.a ∷ []) there
                  ∙ ap (λ k. get_or old k [] ++ l.a ∷ []) (sym e) ∙ ap (λ ns. get_or old l.b [] ++ ns) (sym (at_second l differ))
                  ∙ ap (λ k. get_or old k [] ++ other_end k l) e
              | inr m ↦
                  let here : get_or now i [] ≡ get_or mid i [] = rw second
                  (get_or-set_other mid l.b i (get_or mid l.b [] ++ l.a ∷ []) [] (λ k. m (sym k))) in
                  here ∙ there ∙ sym (append-nil (get_or old i [])) ∙ ap (λ ns. get_or old i [] ++ ns) (sym (at_neither l i n m))
            ]
      ];
    }

-- the one end, where both are the same
pub adds_one : (l : Link) (old now : List (List ℕ)) → l.a ≡ l.b → now ≡ set old l.a (get_or old l.a [] ++ l.b ∷ []) → AddsLink l old now
adds_one l old now same first = record {
  size = rw first (length-set old l.a (get_or old l.a [] ++ l.b ∷ []));
  ends_at = λ i within. elim (cases_eq l.a i) [
    | inl e ↦
        let there : get_or now l.a [] ≡ get_or old l.a [] ++ l.b
        ∷ [] = rw first (get_or-set_same old l.a (get_or old l.a [] ++ l.b ∷ []) [] (omega (arith, e, within))) in
        ap (λ k. get_or now k []) (sym e) ∙ there ∙ ap (λ ns. get_or old l.a [] ++ ns) (sym (at_first l))
        ∙ ap (λ k. get_or old k [] ++ other_end k l) e
    | inr n ↦
        let there : get_or now i [] ≡ get_or old i [] = rw first
        (get_or-set_other old l.a i (get_or old l.a [] ++ l.b ∷ []) [] (λ k. n (sym k))) in
        there ∙ sym (append-nil (get_or old i [])) ∙ ap (λ ns. get_or old i [] ++ ns) (sym (at_neither l i n (λ k. n (same ∙ k))))
  ];
}

-- lists for no links
pub holds_nothing : HoldsNeighbours 0 [] []
holds_nothing = record { size = refl; ends_at = λ i within. absurd (omega arith) }

pub holds_no_links : (n : ℕ) (ends now : List (List ℕ)) → HoldsNeighbours n [] ends → now ≡ ends ++ [] ∷ [] → HoldsNeighbours (n + 1) [] now
unfolding neighbours
holds_no_links n ends now held is = rw is record {
  size = omega (arith, length-append ends ([] ∷ []), held.size);
  ends_at = λ i within. elim (cases_lt i n) [
    | inl below ↦ get_or_append_left ends ([] ∷ []) [] i (omega (arith, below, held.size)) ∙ held.ends_at i below
    | inr above ↦ let e : i ≡ length ends = omega (arith, within, above, held.size) in
        ap (λ k. get_or (ends ++ [] ∷ []) k []) e ∙ get_or-append_seam ends [] [] []
  ];
}

-- the links of a list, one after another
pub holds_begin : (count : ℕ) (links : List Link) (ends : List (List ℕ)) → HoldsNeighbours count [] ends
    → HoldsNeighbours count (take 0 links) ends
holds_begin count [] ends held = held
holds_begin count (l ∷ ls) ends held = held

pub holds_more : (count : ℕ) (links : List Link) (i : ℕ) (l : Link) (old now : List (List ℕ)) → i < length links → l ≡ get_or links i l
    → HoldsNeighbours count (take i links) old → AddsLink l old now → HoldsNeighbours count (take (i + 1) links) now
holds_more count links i l old now within same held adds =
    rw (take_more links i l within, ← same) (holds_next count (take i links) l old now held adds)

pub holds_all : (count : ℕ) (links : List Link) (i : ℕ) (ends : List (List ℕ)) → length links ≤ i
    → HoldsNeighbours count (take i links) ends → HoldsNeighbours count links ends
holds_all count links i ends past held = let e : take i links ≡ links = take_all i links past in rw e at held

-- the same of link i as it is read
pub holds_read : (count : ℕ) (links : List Link) (i : ℕ) (d : Link) (old now : List (List ℕ)) → i < length links
    → HoldsNeighbours count (take i links) old → AddsLink (get_or links i d) old now → HoldsNeighbours count (take (i + 1) links) now
holds_read count links i d old now within held adds = holds_more count links i (get_or links i d) old now within
    (get_or_default links i d (get_or links i d) within) held adds
