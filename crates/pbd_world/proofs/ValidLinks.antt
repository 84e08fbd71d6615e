-- Valid links, by their tests and as facts: two lists of them on separate particles, and one link more.
use Rattle.std.proofs.Common.{◌≡◌, ◌≢◌, refl, sym, ap, ◌∙◌, ℕ, ◌+◌, ◌<◌, ◌≤◌, true, false, not, ◌||◌, List, [], ◌∷◌, ◌++◌, length, arith}
use Rattle.std.proofs.Common.{inl, inr, All, ℤ, pos, ◌≤ℤ◌, length-append}
use Rattle.std.specs.Prelude.{IsTrue, ◌*ℤ◌, nat_le, ◌==◌}
use Rattle.std.proofs.lemmas.Int.{ints}
use Rattle.std.proofs.lemmas.Bool.{and_parts, and_from, cases_lt, eq-eqb, false≢true, leb-true, le-leb, lt-ltb, ltb-true, ne_eqb, or_from}
use Rattle.std.proofs.lemmas.Bool.Decides.{nat_tests}
use Rattle.std.proofs.lemmas.List.Elements.{All-append, All-push, All-weaker}
use Rattle.std.proofs.lemmas.List.Sums.{AllPass-from_list_all}
use Rattle.pbd_world.specs.declared.parts.Link.{Link}
use Rattle.pbd_world.specs.Valid.{is_between, is_valid_link, are_valid_links, join_alike, links_at, ValidLink, ValidLinks}
use Rattle.pbd_world.specs.Neighbours.{AreJoined, neighbours, is_among}
use Rattle.pbd_world.proofs.ApartLemmas.{among_is, few_more}
use Rattle.pbd_world.proofs.Every.{Every, every_from_all, every_more, every_test, apart_from, apart_one, once_one, once_both, count_both}
use Rattle.pbd_world.proofs.Every.{count_none}
use Rattle.pbd_world.proofs.TwiceLemmas.{range_all, range_tells}

-- ---- one link

pub between_facts : (low high n : ℤ) → (IsTrue (is_between low high n) → (low ≤ℤ n) × (n ≤ℤ high))
    × ((low ≤ℤ n) × (n ≤ℤ high) → IsTrue (is_between low high n))
between_facts low high n = (λ t. (grind (arith, ints, nat_tests), grind (arith, ints, nat_tests)), λ f. from low high n f.0 f.1)
  where
    from : (low high n : ℤ) → low ≤ℤ n → n ≤ℤ high → IsTrue (is_between low high n)
    from low high n h k = grind (arith, ints, nat_tests)

pub differ : (a b : ℕ) → not (a == b) ≡ true → a ≢ b
differ a b h e = false≢true (ap not (sym (eq-eqb a b e)) ∙ h)

pub link_facts : (limit : ℤ) (n : ℕ) (l : Link) → (IsTrue (is_valid_link limit n l) → ValidLink limit n l)
    × (ValidLink limit n l → IsTrue (is_valid_link limit n l))
link_facts limit n l = (
  (λ t.
      let p5 = and_parts _ _ t in let p4 = and_parts _ _ p5.0 in let p3 = and_parts _ _ p4.0 in let p2 = and_parts _ _ p3.0 in
      let p1 = and_parts _ _ p2.0 in
      let rest = (between_facts (pos 0) (pos 4 *ℤ limit) l.rest).0 p3.1 in
      let tear = (between_facts (pos 0) (pos 4 *ℤ limit) l.tear).0 p4.1 in
      record {
        first = ltb-true l.a n p1.0;
        second = ltb-true l.b n p1.1;
        apart = differ l.a l.b p2.1;
        rest_low = rest.0;
        rest_high = rest.1;
        tear_low = tear.0;
        tear_high = tear.1;
        stiffness = leb-true l.k 256 p5.1;
      }),
  (λ f.
      let rest = (between_facts (pos 0) (pos 4 *ℤ limit) l.rest).1 (f.rest_low, f.rest_high) in
      let tear = (between_facts (pos 0) (pos 4 *ℤ limit) l.tear).1 (f.tear_low, f.tear_high) in
      let apart : not (l.a == l.b) ≡ true = ap not (ne_eqb l.a l.b f.apart) in
      and_from _ _ (and_from _ _ (and_from _ _ (and_from _ _ (and_from _ _ (lt-ltb l.a n f.first) (lt-ltb l.b n f.second)) apart) rest)
      tear) (le-leb l.k 256 f.stiffness)),
)

pub joined_of : (limit : ℤ) (n : ℕ) (l : Link) → ValidLink limit n l → AreJoined n l
joined_of limit n l v = record { first = v.first; second = v.second; apart = v.apart }

-- with more particles it is valid too
wider : (limit : ℤ) (m n : ℕ) (l : Link) → m ≤ n → ValidLink limit m l → ValidLink limit n l
wider limit m n l le v = record {
  first = omega (arith, le, v.first);
  second = omega (arith, le, v.second);
  apart = v.apart;
  rest_low = v.rest_low;
  rest_high = v.rest_high;
  tear_low = v.tear_low;
  tear_high = v.tear_high;
  stiffness = v.stiffness;
}

-- ---- a list of links

pub links_facts : (limit : ℤ) (n : ℕ) (links : List Link)
    → (IsTrue (are_valid_links limit n links) → ValidLinks limit n links)
    × (ValidLinks limit n links → IsTrue (are_valid_links limit n links))
links_facts limit n links = (
  (λ t.
      let p3 = and_parts _ _ t in let p2 = and_parts _ _ p3.0 in let p1 = and_parts _ _ p2.0 in
      record {
        number = leb-true (length links) 524288 p1.0;
        each = All-weaker (λ (l : Link). is_valid_link limit n l ≡ true) (ValidLink limit n) (λ l h. (link_facts limit n l).0 h) links
            (AllPass-from_list_all (is_valid_link limit n) links p1.1);
        once = p2.1;
        few = λ i w. leb-true (links_at links i) 32 (range_tells (λ k. nat_le (links_at links k) 32) 0 n i (omega arith)
            (omega (arith, w)) p3.1);
      }),
  (λ f.
      let tests = every_more (ValidLink limit n) (λ l. IsTrue (is_valid_link limit n l)) links (λ l v. (link_facts limit n l).1 v)
      (every_from_all (ValidLink limit n) links f.each) in
      let few = range_all (λ k. nat_le (links_at links k) 32) 0 n
      (λ k low high. le-leb (links_at links k) 32 (f.few k (omega (arith, high)))) in
      and_from _ _ (and_from _ _ (and_from _ _ (le-leb (length links) 524288 f.number) (every_test (is_valid_link limit n) links tests))
      f.once) few),
)

-- ---- two lists on separate particles

-- a link of two particles from number `base` on
pub record IsFrom (base : ℕ) (l : Link) : Type 0 where
  pub first : base ≤ l.a
  pub second : base ≤ l.b

not_alike : (limit : ℤ) (base : ℕ) (l m : Link) → ValidLink limit base l → IsFrom base m → join_alike l m ≡ false
not_alike limit base l m v f =
    let one : (l.a == m.a) ≡ false = ne_eqb l.a m.a (λ e. omega (arith, e, v.first, f.first)) in
    let two : (l.a == m.b) ≡ false = ne_eqb l.a m.b (λ e. omega (arith, e, v.first, f.second)) in
    rw (one, two) refl

not_at : (l : Link) (i : ℕ) → l.a ≢ i → l.b ≢ i → (l.a == i || l.b == i) ≡ false
not_at l i first second = or_from (l.a == i) (l.b == i) (ne_eqb l.a i first) (ne_eqb l.b i second)

-- valid links of the particles before `base`, and valid ones of particles from there on, are valid links together
pub links_join : (limit : ℤ) (base n : ℕ) (old new : List Link) → base ≤ n → length old + length new ≤ 524288 → ValidLinks limit base old
    → ValidLinks limit n new → All (IsFrom base) new → ValidLinks limit n (old ++ new)
links_join limit base n old new le number o w from =
    let olds : Every (ValidLink limit base) old = every_from_all (ValidLink limit base) old o.each in
    let news : Every (IsFrom base) new = every_from_all (IsFrom base) new from in
    record {
      number = omega (arith, number, length-append old new);
      each = All-append (ValidLink limit n) old new (All-weaker (ValidLink limit base) (ValidLink limit n)
          (λ l v. wider limit base n l le v) old o.each) w.each;
      once = once_both join_alike old new o.once w.once (apart_from join_alike (ValidLink limit base) (IsFrom base) old new
          (λ l m v f. not_alike limit base l m v f) olds news);
      few = λ i within.
          let both = count_both (λ (l : Link). l.a == i || l.b == i) old new in
          elim (cases_lt i base) [
            | inl before ↦
                let none : links_at new i ≡ 0 = count_none (λ (l : Link). l.a == i || l.b == i) new
                (every_more (IsFrom base) (λ l. (l.a == i || l.b == i) ≡ false) new
                (λ l f. not_at l i (λ e. omega (arith, e, before, f.first)) (λ e. omega (arith, e, before, f.second))) news) in
                let some = o.few i before in
                omega (arith, both, none, some)
            | inr after ↦
                let none : links_at old i ≡ 0 = count_none (λ (l : Link). l.a == i || l.b == i) old
                (every_more (ValidLink limit base) (λ l. (l.a == i || l.b == i) ≡ false) old
                (λ l v. not_at l i (λ e. omega (arith, e, after, v.first)) (λ e. omega (arith, e, after, v.second))) olds) in
                let some = w.few i within in
                omega (arith, both, none, some)
          ];
    }

-- ---- one link more

-- a valid link for which there is room
pub links_more : (limit : ℤ) (n : ℕ) (ls : List Link) (l : Link) → ValidLinks limit n ls → ValidLink limit n l → length ls < 524288
    → is_among l.b (neighbours l.a ls) ≡ false → length (neighbours l.a ls) < 32 → length (neighbours l.b ls) < 32
    → ValidLinks limit n (ls ++ l ∷ [])
links_more limit n ls l v valid room free first second = record {
  number = omega (arith, room, length-append ls (l ∷ []));
  each = All-push (ValidLink limit n) ls l v.each valid;
  once = once_both join_alike ls (l ∷ []) v.once (once_one join_alike l)
      (apart_one join_alike ls l (sym (among_is l ls valid.apart) ∙ free));
  few = λ i within. few_more i n ls l (joined_of limit n l valid) (v.few i within) first second;
}

pub no_links : (limit : ℤ) (n : ℕ) → ValidLinks limit n []
no_links limit n = record {
  number = omega arith;
  each = λ k d within. absurd (omega (arith, within));
  once = refl;
  few = λ i within. omega arith;
}
