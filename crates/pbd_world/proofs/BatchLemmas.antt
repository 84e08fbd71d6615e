-- No link of a scene is serial: fewer links share a particle with it than there are colours of batches.
use Rattle.std.proofs.Common.{◌≡◌, refl, sym, ap, ◌∙◌, ℕ, zero, suc, ◌+◌, ◌<◌, ◌≤◌, Bool, true, false, ◌&&◌, ◌||◌, List, [], ◌∷◌, ◌++◌}
use Rattle.std.proofs.Common.{length, get_or, take, arith, inl, inr, ℤ}
use Rattle.std.specs.Prelude.{IsTrue, nat_lt, ◌==◌, cond, filter}
use Rattle.std.specs.List.{range_with_len}
use Rattle.std.proofs.lemmas.Bool.{and_parts, and_right, cases_eq, cases_lt, ne_eqb}
use Rattle.std.proofs.lemmas.Bool.Decides.{nat_tests}
use Rattle.std.proofs.lemmas.List.{take_more, get_or-map, get_or_default}
use Rattle.std.proofs.lemmas.List.Elements.{All-get_or}
use Rattle.pbd_world.specs.declared.command.Command.{Command}
use Rattle.pbd_world.specs.declared.parts.Link.{Link}
use Rattle.pbd_world.specs.declared.parts.Parts.{Parts}
use Rattle.pbd_world.specs.Bonds.{no_link}
use Rattle.pbd_world.specs.Colours.{blocks, colour, is_end, live_at, of_colour, pair_at, share}
use Rattle.pbd_world.specs.Contacts.{link_pairs, live_flags}
use Rattle.pbd_world.specs.Session.{last_world}
use Rattle.pbd_world.specs.Valid.{is_valid, links_at, ValidLink, ValidLinks}
use Rattle.pbd_world.specs.World.{World, opened, parts_of, IsSound}
use Rattle.pbd_world.proofs.ApartLemmas.{count_is, one_above, nobody}
use Rattle.pbd_world.proofs.Every.{count_both}
use Rattle.pbd_world.proofs.GreedyLemmas.{colour-is_greedy}
use Rattle.pbd_world.proofs.Neighbouring.{at_first, at_second}
use Rattle.pbd_world.proofs.SessionSound.{session-sound}
use Rattle.pbd_world.proofs.ValidLinks.{links_facts}
use Rattle.pbd_world.proofs.WorldParts.{formed}

-- ---- how many numbers below n pass a test

count_below : (ℕ → Bool) → ℕ → ℕ
count_below test zero = 0
count_below test (suc n) = cond (test n) 1 0 + count_below test n

cond_wider : (b c : Bool) → (b ≡ true → c ≡ true) → cond {A = ℕ} b 1 0 ≤ cond {A = ℕ} c 1 0
cond_wider true c h = rw (h refl) (omega arith)
cond_wider false c h = omega arith

count_wider : (p q : ℕ → Bool) (n : ℕ) → ((j : ℕ) → p j ≡ true → q j ≡ true) → count_below p n ≤ count_below q n
unfolding count_below
count_wider p q zero h = omega arith
count_wider p q (suc n) h = omega (arith, cond_wider (p n) (q n) (h n), count_wider p q n h)

cond_either : (b c : Bool) → cond {A = ℕ} (b || c) 1 0 ≤ cond {A = ℕ} b 1 0 + cond {A = ℕ} c 1 0
cond_either true true = omega arith
cond_either true false = omega arith
cond_either false true = omega arith
cond_either false false = omega arith

count_either : (p q : ℕ → Bool) (n : ℕ) → count_below (λ j. p j || q j) n ≤ count_below p n + count_below q n
unfolding count_below
count_either p q zero = omega arith
count_either p q (suc n) = omega (arith, cond_either (p n) (q n), count_either p q n)

-- ---- with m colours there are m numbers

below_more : (b : Bool) (x m : ℕ) → cond {A = ℕ} (b && nat_lt x m) 1 0 ≤ cond {A = ℕ} (b && nat_lt x (suc m)) 1 0
below_more true x m = grind (arith, nat_tests)
below_more false x m = omega arith

below_next : (b : Bool) (x m : ℕ) → b ≡ true → x ≡ m → cond {A = ℕ} (b && nat_lt x m) 1 0 + 1 ≤ cond {A = ℕ} (b && nat_lt x (suc m)) 1 0
below_next true x m t e = grind (arith, nat_tests)
below_next false x m t e = cc

-- those of a colour below m
abbrev coloured_below : (ℕ → Bool) → (ℕ → ℕ) → ℕ → ℕ → Bool
coloured_below p f m j = p j && nat_lt (f j) m

colour_grows : (p : ℕ → Bool) (f : ℕ → ℕ) (m n : ℕ) → count_below (coloured_below p f m) n ≤ count_below (coloured_below p f (suc m)) n
unfolding count_below
colour_grows p f m zero = omega arith
colour_grows p f m (suc n) = omega (arith, below_more (p n) (f n) m, colour_grows p f m n)

colour_more : (p : ℕ → Bool) (f : ℕ → ℕ) (m n j : ℕ) → j < n → p j ≡ true → f j ≡ m
    → count_below (coloured_below p f m) n + 1 ≤ count_below (coloured_below p f (suc m)) n
unfolding count_below
colour_more p f m zero j h t e = absurd (omega (arith, h))
colour_more p f m (suc n) j h t e = elim (cases_eq j n) [
  | inl is ↦ omega (arith, below_next (p n) (f n) m (ap p (sym is) ∙ t) (ap f (sym is) ∙ e), colour_grows p f m n)
  | inr other ↦ omega (arith, below_more (p n) (f n) m, colour_more p f m n j (omega (arith, h, other)) t e)
]

-- where each colour below m is that of some number below n
all_colours : (p : ℕ → Bool) (f : ℕ → ℕ) (n m : ℕ) → ((d : ℕ) → d < m → (j : ℕ) × (j < n) × (p j ≡ true) × (f j ≡ d))
    → m ≤ count_below (coloured_below p f m) n
all_colours p f n zero h = omega arith
all_colours p f n (suc m) h =
    let w = h m (omega arith) in
    omega (arith, all_colours p f n m (λ d l. h d (omega (arith, l))), colour_more p f m n w.0 w.1 w.2 w.3)

-- ---- the links at a particle

one_at : (b : Bool) (l : Link) → length (cond {A = List Link} b (l ∷ []) []) ≡ cond {A = ℕ} b 1 0
one_at true l = refl
one_at false l = refl

pair_is : (links : List Link) (i : ℕ) → i < length links
    → pair_at (link_pairs links) i ≡ ((get_or links i no_link).a, (get_or links i no_link).b)
pair_is links i h = get_or-map {X = Link} {Y = ℕ × ℕ} (λ l. (l.a, l.b)) links i no_link (0, 0) h

ends_counted : (links : List Link) (p n : ℕ) → n ≤ length links
    → count_below (λ j. is_end (pair_at (link_pairs links) j) p) n ≡ links_at (take n links) p
unfolding count_below
ends_counted links p zero h = ap (λ ls. links_at ls p) (sym (nobody links))
ends_counted links p (suc n) h =
    let l = get_or links n no_link in
    let w : n < length links = omega (arith, h) in
    let same : suc n ≡ n + 1 = omega arith in
    let next : take (suc n) links ≡ take n links ++ l ∷ [] = ap (λ k. take k links) same ∙ take_more links n no_link w in
    let split : links_at (take (suc n) links) p ≡ links_at (take n links) p + links_at (l ∷ []) p = ap (λ ls. links_at ls p) next
    ∙ count_both (λ (m : Link). m.a == p || m.b == p) (take n links) (l ∷ []) in
    let last : links_at (l ∷ []) p ≡ cond {A = ℕ} (l.a == p || l.b == p) 1 0 = one_at (l.a == p || l.b == p) l in
    let first : cond {A = ℕ} (is_end (pair_at (link_pairs links) n) p) 1 0
    ≡ cond {A = ℕ} (l.a == p || l.b == p) 1 0 = ap (λ q. cond {A = ℕ} (is_end q p) 1 0) (pair_is links n w) in
    omega (arith, split, last, first, ends_counted links p n (omega (arith, h)))

-- the others that share a particle with link i, of those before it
blocks_few : (limit : ℤ) (n : ℕ) (links : List Link) (live : List Bool) (i : ℕ) → ValidLinks limit n links → i < length links
    → count_below (blocks (link_pairs links) live i) i ≤ 62
blocks_few limit n links live i valid h =
    let pairs = link_pairs links in
    let l = get_or links i no_link in
    let is = pair_is links i h in
    let v : ValidLink limit n l = All-get_or (ValidLink limit n) links i no_link h valid.each in
    let same : l ≡ get_or links i l = get_or_default links i no_link l h in
    let all = count_wider (blocks pairs live i) (λ j. is_end (pair_at pairs j) (pair_at pairs i).0
    || is_end (pair_at pairs j) (pair_at pairs i).1) i (λ j t.
    (and_parts (live_at live j) (share (pair_at pairs j) (pair_at pairs i)) t).1) in
    let both = count_either (λ j. is_end (pair_at pairs j) (pair_at pairs i).0) (λ j. is_end (pair_at pairs j) (pair_at pairs i).1) i in
    let at_a : links_at (take i links) (pair_at pairs i).0
    ≡ links_at (take i links) l.a = ap (λ (q : ℕ × ℕ). links_at (take i links) q.0) is in
    let at_b : links_at (take i links) (pair_at pairs i).1
    ≡ links_at (take i links) l.b = ap (λ (q : ℕ × ℕ). links_at (take i links) q.1) is in
    let first = ends_counted links (pair_at pairs i).0 i (omega (arith, h)) in
    let second = ends_counted links (pair_at pairs i).1 i (omega (arith, h)) in
    let few_a = one_above l.a links i l h same (ap length (at_first l)) in
    let few_b = one_above l.b links i l h same (ap length (at_second l v.apart)) in
    omega (
      arith,
      all,
      both,
      first,
      second,
      at_a,
      at_b,
      few_a,
      few_b,
      count_is l.a (take i links),
      count_is l.b (take i links),
      valid.few l.a v.first,
      valid.few l.b v.second,
    )

pub coloured : (limit : ℤ) (n : ℕ) (links : List Link) (live : List Bool) (i : ℕ) → ValidLinks limit n links → i < length links
    → colour (link_pairs links) live i < 63
coloured limit n links live i valid h = elim (cases_lt (colour (link_pairs links) live i) 63) [
  | inl below ↦ below
  | inr above ↦
      let greedy = colour-is_greedy (link_pairs links) live i in
      let used = all_colours (blocks (link_pairs links) live i) (colour (link_pairs links) live) i 63
      (λ d l. greedy.least d (omega (arith, above, l))) in
      let among = count_wider (coloured_below (blocks (link_pairs links) live i) (colour (link_pairs links) live) 63)
      (blocks (link_pairs links) live i) i (λ j t. (and_parts _ _ t).0) in
      absurd (omega (arith, used, among, blocks_few limit n links live i valid h))
]

-- ---- worlds

pub sound-coloured : (w : World) (i : ℕ) → IsSound w → i < length w.links → colour (link_pairs w.links) (live_flags w.links) i < 63
sound-coloured w i s h = coloured w.limit (length w.particles) w.links (live_flags w.links) i
    ((links_facts w.limit (length w.particles) w.links).0 (formed (parts_of w) s.well_formed).links) h

pub session-coloured : (parts : Parts) (commands : List Command) (i : ℕ) → IsTrue (is_valid parts)
    → i < length (last_world (opened parts) commands).links
    → colour (link_pairs (last_world (opened parts) commands).links) (live_flags (last_world (opened parts) commands).links) i < 63
session-coloured parts commands i valid h = sound-coloured (last_world (opened parts) commands) i (session-sound parts commands valid) h

none_kept : (test : ℕ → Bool) (a n : ℕ) → ((k : ℕ) → k < a + n → test k ≡ false) → filter test (range_with_len a n) ≡ []
none_kept test a zero h = refl
none_kept test a (suc n) h = rw (h a (omega arith)) (none_kept test (a + 1) n (λ k l. h k (omega (arith, l))))

pub sound-none_last : (w : World) → IsSound w → of_colour (live_flags w.links) (colour (link_pairs w.links) (live_flags w.links))
    (length w.links) 63 ≡ []
sound-none_last w s = none_kept (λ i. live_at (live_flags w.links) i && colour (link_pairs w.links) (live_flags w.links) i == 63) 0
    (length w.links)
    (λ k l. and_right (live_at (live_flags w.links) k) (colour (link_pairs w.links) (live_flags w.links) k == 63)
    (ne_eqb (colour (link_pairs w.links) (live_flags w.links) k) 63
    (λ e. let below = sound-coloured w k s (omega (arith, l)) in omega (arith, e, below))))
