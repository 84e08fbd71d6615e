-- The links of entries, as they are added one after another.
use Rattle.std.proofs.Common.{◌≡◌, ◌∙◌, ap, sym, ℕ, ◌+◌, ◌<◌, ◌≤◌, List, [], ◌∷◌, ◌++◌, length, get_or, drop, arith, append_assoc}
use Rattle.std.specs.Prelude.{Ok}
use Rattle.std.proofs.lemmas.List.{length-append, get_or_default}
use Rattle.pbd_world.specs.declared.parts.Particle.{Particle}
use Rattle.pbd_world.specs.declared.parts.Link.{Link}
use Rattle.pbd_world.specs.Neighbours.{HoldsNeighbours, AddsLink}
use Rattle.pbd_world.proofs.Neighbouring.{holds_next}
use Rattle.pbd_scene.specs.declared.raw.LinkEntry.{LinkEntry}
use Rattle.pbd_scene.specs.declared.fault.SceneFault.{SceneFault}
use Rattle.pbd_scene.specs.Checks.{Fails, each}
use Rattle.pbd_scene.specs.Naming.{entry_link, link_after, all_links}
use Rattle.pbd_scene.proofs.Reading.{next_ok, next_fails, last_ok, bind_fails}

-- the links so far are those of the meshes and those of the first i entries
pub record LinksSoFar (ps : List Particle) (meshes : List Link) (entries : List LinkEntry) (i : ℕ) (links : List Link)
    (ends : List (List ℕ)) : Type 0 where
  pub added : List Link
  pub are : links ≡ meshes ++ added
  pub number : length added ≡ i
  pub rest : each (link_after ps meshes) added (drop i entries) ≡ each (link_after ps meshes) [] entries
  pub told : HoldsNeighbours (length ps) links ends

-- the entry's check is that of the definition
same_check : (ps : List Particle) (meshes : List Link) (entries : List LinkEntry) (i : ℕ) (links : List Link) (ends : List (List ℕ))
    (entry : LinkEntry) (so_far : LinksSoFar ps meshes entries i links ends)
    → link_after ps meshes so_far.added entry ≡ entry_link ps i links entry
same_check ps meshes entries i links ends entry so_far = ap (λ n. entry_link ps n (meshes ++ so_far.added) entry) so_far.number
    ∙ ap (λ ls. entry_link ps i ls entry) (sym so_far.are)

pub links_more : (ps : List Particle) (meshes : List Link) (entries : List LinkEntry) (i : ℕ) (entry : LinkEntry) (links now : List Link)
    (old ends : List (List ℕ)) (l : Link) → i < length entries → entry ≡ get_or entries i entry → LinksSoFar ps meshes entries i links old
    → entry_link ps i links entry ≡ Ok l → AddsLink l old ends → now ≡ links ++ l ∷ [] → LinksSoFar ps meshes entries (i + 1) now ends
links_more ps meshes entries i entry links now old ends l within same so_far is adds grown = record {
  added = so_far.added ++ l ∷ [];
  are = grown ∙ ap (λ ls. ls ++ l ∷ []) so_far.are ∙ append_assoc meshes so_far.added (l ∷ []);
  number = omega (arith, length-append so_far.added (l ∷ []), so_far.number);
  rest = next_ok (link_after ps meshes) entries i entry so_far.added l (each (link_after ps meshes) [] entries) within same
      (same_check ps meshes entries i links old entry so_far ∙ is) so_far.rest;
  told = rw grown (holds_next (length ps) links l old ends so_far.told adds);
}

pub links_stop : (ps : List Particle) (meshes : List Link) (entries : List LinkEntry) (i : ℕ) (entry : LinkEntry) (links : List Link)
    (old : List (List ℕ)) (e : SceneFault) → i < length entries → entry ≡ get_or entries i entry → LinksSoFar ps meshes entries i links old
    → Fails e (entry_link ps i links entry) → Fails e (all_links ps meshes entries)
unfolding all_links
links_stop ps meshes entries i entry links old e within same so_far fails =
    let here : Fails e (link_after ps meshes so_far.added entry) = rw (same_check ps meshes entries i links old entry so_far) fails in
    bind_fails e (each (link_after ps meshes) [] entries) _
    (next_fails (link_after ps meshes) entries i entry so_far.added e
    (each (link_after ps meshes) [] entries) within same here so_far.rest)

pub links_end : (ps : List Particle) (meshes : List Link) (entries : List LinkEntry) (i : ℕ) (links : List Link) (ends : List (List ℕ))
    → length entries ≤ i → LinksSoFar ps meshes entries i links ends → all_links ps meshes entries ≡ Ok links
unfolding all_links
links_end ps meshes entries i links ends past so_far =
    let all : each (link_after ps meshes) [] entries ≡ Ok so_far.added =
    last_ok (link_after ps meshes) entries i so_far.added (each (link_after ps meshes) [] entries) past so_far.rest in
    rw all (ap Ok (sym so_far.are))

-- ---- the same of what the loop reads

pub entry_more : (ps : List Particle) (meshes : List Link) (entries : List LinkEntry) (i : ℕ) (d : LinkEntry) (links now : List Link)
    (old ends : List (List ℕ)) (l : Link) → i < length entries → LinksSoFar ps meshes entries i links old
    → entry_link ps i links (get_or entries i d) ≡ Ok l → AddsLink l old ends → now ≡ links ++ l ∷ []
    → LinksSoFar ps meshes entries (i + 1) now ends
entry_more ps meshes entries i d links now old ends l within so_far is adds grown =
    links_more ps meshes entries i (get_or entries i d) links now old ends l within
    (get_or_default entries i d (get_or entries i d) within) so_far is adds grown

pub entry_stops : (ps : List Particle) (meshes : List Link) (entries : List LinkEntry) (i : ℕ) (d : LinkEntry) (links : List Link)
    (old : List (List ℕ)) (e : SceneFault) → i < length entries → LinksSoFar ps meshes entries i links old
    → Fails e (entry_link ps i links (get_or entries i d)) → Fails e (all_links ps meshes entries)
entry_stops ps meshes entries i d links old e within so_far fails =
    links_stop ps meshes entries i (get_or entries i d) links old e within
    (get_or_default entries i d (get_or entries i d) within) so_far fails
