-- Links one after another: each stands alone as long as there is room for it.
use Rattle.std.proofs.Common.{◌≡◌, ◌≢◌, ◌⊎◌, refl, sym, ap, ◌∙◌, ℕ, suc, ◌+◌, ◌<◌, ◌≤◌, Bool, true, false, not, ◌&&◌, ◌||◌, List, [], ◌∷◌}
use Rattle.std.proofs.Common.{◌++◌, length, get_or, take, drop, arith, inl, inr, append_assoc, length-append, All}
use Rattle.std.specs.Prelude.{nat_le, nat_lt, ◌==◌, cond, filter}
use Rattle.std.specs.List.{list_any, list_all, range_with_len}
use Rattle.std.proofs.lemmas.Bool.{and_parts, and_from, eq-eqb, ne_eqb, cases_eq, cases_lt, ltb-true, lt-ltb, not-false}
use Rattle.std.proofs.lemmas.Bool.Decides.{nat_tests}
use Rattle.std.proofs.lemmas.List.{take_more, take_all, take-append-drop, get_or_default}
use Rattle.std.proofs.lemmas.List.Elements.{All-get_or}
use Rattle.std.proofs.lemmas.List.Folds.{list_any-append}
use Rattle.pbd_world.specs.declared.parts.Link.{Link}
use Rattle.pbd_world.specs.Valid.{none_twice, join_alike, links_at}
use Rattle.pbd_world.specs.Neighbours.{other_end, neighbours, is_among, AreJoined, is_room_for, stand_alone, HoldsNeighbours, AddsLink}
use Rattle.pbd_world.proofs.Neighbouring.{neighbours_end, holds_more, at_first, at_second, at_neither}
use Rattle.pbd_world.proofs.TwiceLemmas.{twice_next, twice_found, range_all, range_fails}
use Rattle.std.proofs.Math.Bool.{or-false, and-false, and-true}

-- ---- how many

-- one other end for each link at the particle
end_counts : (x y : Bool) (a b n : ℕ) (ns : List ℕ) (ls : List Link) (l : Link) → length ns ≡ length ls
    → length ((cond x (b ∷ []) (cond y (a ∷ []) [])) ++ ns) ≡ length (cond (x || y) (l ∷ ls) ls)
end_counts true y a b n ns ls l h = ap suc h
end_counts false true a b n ns ls l h = ap suc h
end_counts false false a b n ns ls l h = h

pub count_is : (i : ℕ) (ls : List Link) → length (neighbours i ls) ≡ links_at ls i
unfolding neighbours other_end
count_is i [] = refl
count_is i (l ∷ ls) = end_counts (l.a == i) (l.b == i) l.a l.b i (neighbours i ls) (filter (λ (m : Link). m.a == i || m.b == i) ls) l
    (count_is i ls)

-- ---- doubles

-- the link m has b at its other end from a exactly where it joins the same two
end_joins : (m : Link) (a b : ℕ) → a ≢ b → is_among b (other_end a m) ≡ (m.a == a && m.b == b || m.a == b && m.b == a)
unfolding other_end
end_joins m a b apart = elim (cases_eq m.a a) [
  | inl e ↦ (let other : m.a == b ≡ false = ne_eqb m.a b (λ k. apart (sym e ∙ k)) in rw (eq-eqb m.a a e, other) refl)
  | inr d ↦ elim (cases_eq m.b a) [
    | inl e ↦ rw (ne_eqb m.a a d, eq-eqb m.b a e) (or-false (m.a == b) ∙ sym (and-true (m.a == b)))
    | inr f ↦ rw (ne_eqb m.a a d, ne_eqb m.b a f) (sym (and-false (m.a == b)))
  ]
]

pub among_is : (l : Link) (ls : List Link) → l.a ≢ l.b → is_among l.b (neighbours l.a ls) ≡ list_any (λ m. join_alike m l) ls
unfolding neighbours
among_is l [] apart = refl
among_is l (m ∷ ls) apart =
    list_any-append (λ n. n == l.b) (other_end l.a m) (neighbours l.a ls)
    ∙ ap (λ x. x || is_among l.b (neighbours l.a ls)) (end_joins m l.a l.b apart)
    ∙ ap (λ x. join_alike m l || x) (among_is l ls apart)

-- ---- the links so far

-- each of these links stands alone, and the ends are theirs
pub record StandAlone (count : ℕ) (links : List Link) (ends : List (List ℕ)) : Type 0 where
  pub holds : HoldsNeighbours count links ends
  pub apart : none_twice join_alike links ≡ true
  pub few : (i : ℕ) → i < count → links_at links i ≤ 32

pub nobody : (links : List Link) → take 0 links ≡ []
nobody [] = refl
nobody (l ∷ ls) = refl

pub alone_begins : (count : ℕ) (links : List Link) (ends : List (List ℕ)) → HoldsNeighbours count [] ends
    → StandAlone count (take 0 links) ends
alone_begins count links ends h = rw (nobody links) (record { holds = h; apart = refl; few = λ i l. omega arith })

-- what room means
room_parts : (b : ℕ) (at_a at_b : List ℕ) → is_room_for b at_a at_b ≡ true
    → (length at_a < 32) × (length at_b < 32) × (is_among b at_a ≡ false)
unfolding is_room_for
room_parts b at_a at_b h =
    let p = and_parts (nat_lt (length at_a) 32 && nat_lt (length at_b) 32) (not (is_among b at_a)) h in
    let q = and_parts (nat_lt (length at_a) 32) (nat_lt (length at_b) 32) p.0 in
    (ltb-true (length at_a) 32 q.0, ltb-true (length at_b) 32 q.1, is_not (is_among b at_a) p.1)
  where
    is_not : (x : Bool) → not x ≡ true → x ≡ false
    is_not true e = sym e
    is_not false e = refl

-- how many ends a link has at a particle
few_ends : (i : ℕ) (l : Link) (n : ℕ) → AreJoined n l → (ns : List ℕ) → length ns ≤ 32 → (i ≡ l.a → length ns < 32)
    → (i ≡ l.b → length ns < 32) → length (ns ++ other_end i l) ≤ 32
few_ends i l n joined ns few first second = elim (cases_eq l.a i) [
  | inl e ↦ omega (arith, length-append ns (other_end i l), ap length (ap (λ k. other_end k l) (sym e) ∙ at_first l), first (sym e))
  | inr d ↦ elim (cases_eq l.b i) [
    | inl e ↦ omega (
      arith,
      length-append ns (other_end i l),
      ap length (ap (λ k. other_end k l) (sym e) ∙ at_second l joined.apart),
      second (sym e),
    )
    | inr f ↦ omega (arith, length-append ns (other_end i l), ap length (at_neither l i d f))
  ]
]

-- with a link more there are few still
pub few_more : (i n : ℕ) (ls : List Link) (l : Link) → AreJoined n l → links_at ls i ≤ 32 → length (neighbours l.a ls) < 32
    → length (neighbours l.b ls) < 32 → links_at (ls ++ l ∷ []) i ≤ 32
few_more i n ls l joined few first second =
    let counted : links_at (ls ++ l ∷ []) i ≡ length (neighbours i ls ++ other_end i l) = sym (count_is i (ls ++ l ∷ []))
    ∙ ap length (neighbours_end i ls l) in
    let some : length (neighbours i ls) ≤ 32 = omega (arith, count_is i ls, few) in
    let most = few_ends i l n joined (neighbours i ls) some (λ q. rw q first) (λ q. rw q second) in
    omega (arith, counted, most)

alone_next : (count : ℕ) (links : List Link) (i : ℕ) (l : Link) (old now : List (List ℕ)) → i < length links → l ≡ get_or links i l
    → AreJoined count l → StandAlone count (take i links) old → is_room_for l.b (get_or old l.a []) (get_or old l.b []) ≡ true
    → AddsLink l old now → StandAlone count (take (i + 1) links) now
alone_next count links i l old now h e joined alone room adds =
    let before = take i links in
    let at_a = alone.holds.ends_at l.a joined.first in
    let at_b = alone.holds.ends_at l.b joined.second in
    let parts = room_parts l.b (neighbours l.a before) (neighbours l.b before) (rw (at_a, at_b) at room) in
    let next : take (i + 1) links ≡ before ++ l ∷ [] = take_more links i l h ∙ ap (λ (m : Link). before ++ m ∷ []) (sym e) in
    record {
      holds = holds_more count links i l old now h e alone.holds adds;
      apart = twice_next join_alike links i l h e alone.apart (sym (among_is l before joined.apart) ∙ parts.2);
      few = λ k u. rw next (few_more k count before l joined (alone.few k u) parts.0 parts.1);
    }

pub alone_all : (count : ℕ) (links : List Link) (i : ℕ) (ends : List (List ℕ)) → length links ≤ i → StandAlone count (take i links) ends
    → stand_alone count links ≡ true
unfolding stand_alone
alone_all count links i ends h alone =
    let all : take i links ≡ links = take_all i links h in
    let whole = rw all at alone in
    and_from _ _ whole.apart (range_all (λ k. nat_le (links_at links k) 32) 0 count
    (λ k l u. let few = whole.few k (omega (arith, u)) in grind (arith, nat_tests)))

-- ---- a link with no room

neighbours-append : (i : ℕ) (xs ys : List Link) → neighbours i (xs ++ ys) ≡ neighbours i xs ++ neighbours i ys
unfolding neighbours
neighbours-append i [] ys = refl
neighbours-append i (x ∷ xs) ys = ap (λ ns. other_end i x ++ ns) (neighbours-append i xs ys)
    ∙ sym (append_assoc (other_end i x) (neighbours i xs) (neighbours i ys))

-- link i comes on top of those before it
pub one_above : (k : ℕ) (links : List Link) (i : ℕ) (l : Link) → i < length links → l ≡ get_or links i l → length (other_end k l) ≡ 1
    → length (neighbours k (take i links)) + 1 ≤ links_at links k
one_above k links i l h e one =
    let before = take i links in
    let next : take (i + 1) links ≡ before ++ l ∷ [] = take_more links i l h ∙ ap (λ (m : Link). before ++ m ∷ []) (sym e) in
    let whole : take (i + 1) links ++ drop (i + 1) links ≡ links = take-append-drop (i + 1) links in
    let split = ap (λ ls. length (neighbours k ls)) (sym whole) ∙ ap length (neighbours-append k (take (i + 1) links) (drop (i + 1) links))
    ∙ length-append (neighbours k (take (i + 1) links)) (neighbours k (drop (i + 1) links)) in
    let first = ap (λ ls. length (neighbours k ls)) next ∙ ap length (neighbours_end k before l)
    ∙ length-append (neighbours k before) (other_end k l) in
    omega (arith, split, first, one, count_is k links)

no_room : (b : ℕ) (at_a at_b : List ℕ) → is_room_for b at_a at_b ≡ false
    → (32 ≤ length at_a) ⊎ ((32 ≤ length at_b) ⊎ (is_among b at_a ≡ true))
unfolding is_room_for
no_room b at_a at_b h = elim (cases_lt (length at_a) 32) [
  | inl few ↦ elim (cases_lt (length at_b) 32) [
    | inl less ↦ inr (inr (not-false (is_among b at_a) (rw (lt-ltb _ _ few, lt-ltb _ _ less) at h)))
    | inr many ↦ inr (inl many)
  ]
  | inr many ↦ inl many
]

too_many : (count : ℕ) (links : List Link) (k : ℕ) → k < count → 33 ≤ links_at links k → stand_alone count links ≡ false
unfolding stand_alone
too_many count links k h many =
    let fails : nat_le (links_at links k) 32 ≡ false = grind (arith, nat_tests) in
    rw (range_fails (λ i. nat_le (links_at links i) 32) 0 count k (omega arith) (omega (arith, h)) fails)
    (and-false (none_twice join_alike links))

doubled : (count : ℕ) (links : List Link) → none_twice join_alike links ≡ false → stand_alone count links ≡ false
unfolding stand_alone
doubled count links h = ap (λ x. x && list_all (λ i. nat_le (links_at links i) 32) (range_with_len 0 count)) h

alone_stops : (count : ℕ) (links : List Link) (i : ℕ) (l : Link) (ends : List (List ℕ)) → i < length links → l ≡ get_or links i l
    → AreJoined count l → StandAlone count (take i links) ends → is_room_for l.b (get_or ends l.a []) (get_or ends l.b []) ≡ false
    → stand_alone count links ≡ false
alone_stops count links i l ends h e joined alone room =
    let before = take i links in
    let at_a = alone.holds.ends_at l.a joined.first in
    let at_b = alone.holds.ends_at l.b joined.second in
    elim (no_room l.b (neighbours l.a before) (neighbours l.b before) (rw (at_a, at_b) at room)) [
      | inl many ↦ too_many count links l.a joined.first (omega (arith, many, one_above l.a links i l h e (ap length (at_first l))))
      | inr more ↦ elim more [
        | inl many ↦ too_many count links l.b joined.second (omega
            (arith, many, one_above l.b links i l h e (ap length (at_second l joined.apart))))
        | inr among ↦ doubled count links (twice_found join_alike links i l h e (sym (among_is l before joined.apart) ∙ among))
      ]
    ]

-- ---- the same of link i as it is read

pub read_next : (count : ℕ) (links : List Link) (i : ℕ) (d : Link) (old now : List (List ℕ)) → All (AreJoined count) links
    → i < length links → StandAlone count (take i links) old
    → is_room_for (get_or links i d).b (get_or old (get_or links i d).a []) (get_or old (get_or links i d).b []) ≡ true
    → AddsLink (get_or links i d) old now → StandAlone count (take (i + 1) links) now
read_next count links i d old now all h alone room adds =
    let l = get_or links i d in
    alone_next count links i l old now h (get_or_default links i d l h) (All-get_or (AreJoined count) links i d h all) alone room adds

pub read_stops : (count : ℕ) (links : List Link) (i : ℕ) (d : Link) (ends : List (List ℕ)) → All (AreJoined count) links → i < length links
    → StandAlone count (take i links) ends → is_room_for (get_or links i d).b (get_or ends (get_or links i d).a [])
    (get_or ends (get_or links i d).b []) ≡ false → stand_alone count links ≡ false
read_stops count links i d ends all h alone room =
    let l = get_or links i d in
    alone_stops count links i l ends h (get_or_default links i d l h) (All-get_or (AreJoined count) links i d h all) alone room
