-- Flags of live pairs after some were dropped.
use Rattle.std.proofs.Common.{◌≡◌, refl, sym, ap, ◌∙◌, ℕ, zero, suc, ◌<◌, ◌==◌, not, ◌&&◌, ◌||◌, Bool, true, false, List, [], ◌∷◌, length}
use Rattle.std.proofs.Common.{replicate, get_or, arith, inl, inr}
use Rattle.std.specs.Prelude.{slice_set as set}
use Rattle.std.specs.List.{list_any}
use Rattle.std.proofs.lemmas.Bool.{cases_eq, cases_lt, eq-eqb, ne_eqb}
use Rattle.std.proofs.lemmas.List.{ext_get_or, get_or-set_same, get_or-set_other, get_or-map, length-set, get_or_past, map-set}
use Rattle.std.proofs.Math.Seq.{map-set_same}
use Rattle.pbd_world.specs.declared.parts.Link.{Link}
use Rattle.pbd_world.specs.Bonds.{link_at}
use Rattle.pbd_world.specs.Colours.{live_at}
use Rattle.pbd_world.specs.Contacts.{link_pairs, live_flags}
use Rattle.pbd_colour.specs.Pairs.{dropped}
use Rattle.pbd_world.proofs.KeepingOn.{length-mapped}
use Rattle.std.proofs.Math.Bool.{and-false}

and_true : (b : Bool) → b ≡ (b && not false)
and_true true = refl
and_true false = refl

set_at : (live : List Bool) (n i : ℕ) → live_at (set live n false) i ≡ (live_at live i && not (n == i))
set_at live n i = elim (cases_eq i n) [
  | inl e ↦ elim (cases_lt n (length live)) [
    | inl m ↦ ap (live_at (set live n false)) e ∙ get_or-set_same live n false false m
        ∙ sym (ap (λ (b : Bool). live_at live i && not b) (eq-eqb n i (sym e)) ∙ and-false (live_at live i))
    | inr m ↦ get_or_past (set live n false) i false (omega (arith, length-set live n false, e, m))
        ∙ sym (ap (λ (b : Bool). b && not (n == i)) (get_or_past live i false (omega (arith, e, m))))
  ]
  | inr ne ↦ get_or-set_other live n i false false ne ∙ and_true (live_at live i)
      ∙ ap (λ (b : Bool). live_at live i && not b) (sym (ne_eqb n i (λ s. ne (sym s))))
]

three : (a b c : Bool) → ((a && not b) && not c) ≡ (a && not (b || c))
three true true c = refl
three true false c = refl
three false b c = refl

-- a flag stays where it was set and its number isn't among those dropped
pub dropped_at : (numbers : List ℕ) (live : List Bool) (i : ℕ)
    → live_at (dropped numbers live) i ≡ (live_at live i && not (list_any (λ n. n == i) numbers))
dropped_at [] live i = and_true (live_at live i)
dropped_at (n ∷ ns) live i = dropped_at ns (set live n false) i ∙ ap (λ (b : Bool). b && not (list_any (λ m. m == i) ns)) (set_at live n i)
    ∙ three (live_at live i) (n == i) (list_any (λ m. m == i) ns)

pub dropped_length : (numbers : List ℕ) (live : List Bool) → length (dropped numbers live) ≡ length live
dropped_length [] live = refl
dropped_length (n ∷ ns) live = dropped_length ns (set live n false) ∙ length-set live n false

pub flag_at : (links : List Link) (i : ℕ) → i < length links → live_at (live_flags links) i ≡ (link_at links i).live
flag_at links i lt = get_or-map (λ (l : Link). l.live) links i _ _ lt

-- dropping numbers from the flags of links leaves the flags of other links, where these differ so from the first
pub dropped_flags : (numbers : List ℕ) (links after : List Link) → length after ≡ length links
    → ((i : ℕ) → i < length links → (link_at after i).live ≡ ((link_at links i).live && not (list_any (λ n. n == i) numbers)))
    → dropped numbers (live_flags links) ≡ live_flags after
dropped_flags numbers links after same each =
    let many = length-mapped {A = Link} {B = Bool} (λ l. l.live) links in
    let others = length-mapped {A = Link} {B = Bool} (λ l. l.live) after in
    ext_get_or false (dropped numbers (live_flags links)) (live_flags after)
    (dropped_length numbers (live_flags links) ∙ many ∙ sym same ∙ sym others)
    (λ i lt. let l : i < length links = omega (arith, lt, dropped_length numbers (live_flags links), many) in
    dropped_at numbers (live_flags links) i ∙ ap (λ (b : Bool). b && not (list_any (λ n. n == i) numbers)) (flag_at links i l)
    ∙ sym (each i l) ∙ sym (flag_at after i (omega (arith, l, same))))

-- flags that are set just where links are live are those of the links
pub flags_are : (flags : List Bool) (links : List Link) → length flags ≡ length links
    → ((k : ℕ) → k < length links → live_at flags k ≡ (link_at links k).live) → flags ≡ live_flags links
flags_are flags links same each =
    let many = length-mapped {A = Link} {B = Bool} (λ l. l.live) links in
    ext_get_or false flags (live_flags links) (same ∙ sym many)
    (λ i lt. let l : i < length links = omega (arith, lt, same) in each i l ∙ sym (flag_at links i l))

all_set : (n i : ℕ) → i < n → live_at (replicate n true) i ≡ true
all_set zero i lt = absurd (omega (arith, lt))
all_set (suc n) zero lt = refl
all_set (suc n) (suc i) lt = all_set n i (omega (arith, lt))

all_many : (n : ℕ) → length (replicate n true) ≡ n
all_many zero = refl
all_many (suc n) = ap suc (all_many n)

twice_not : (b : Bool) → (true && not (not b)) ≡ b
twice_not true = refl
twice_not false = refl

-- dropping the numbers of dead links from flags that are all set leaves the flags of the links
pub dead_dropped : (numbers : List ℕ) (links : List Link) (n : ℕ) → n ≡ length links
    → ((i : ℕ) → i < length links → list_any (λ m. m == i) numbers ≡ not (link_at links i).live)
    → dropped numbers (replicate n true) ≡ live_flags links
dead_dropped numbers links n same each =
    let many = length-mapped {A = Link} {B = Bool} (λ l. l.live) links in
    ext_get_or false (dropped numbers (replicate n true)) (live_flags links)
    (dropped_length numbers (replicate n true) ∙ all_many n ∙ same ∙ sym many)
    (λ i lt. let l : i < length links = omega (arith, lt, dropped_length numbers (replicate n true), all_many n, same) in
    dropped_at numbers (replicate n true) i ∙ ap (λ (b : Bool). b && not (list_any (λ m. m == i) numbers))
    (all_set n i (omega (arith, l, same))) ∙ ap (λ (b : Bool). true && not b) (each i l) ∙ twice_not (link_at links i).live
    ∙ sym (flag_at links i l))

-- each of some numbers below n is set where all are
pub all_live : (n k : ℕ) (numbers : List ℕ) → get_or numbers k 0 < n → live_at (replicate n true) (get_or numbers k 0) ≡ true
all_live n k numbers lt = all_set n (get_or numbers k 0) lt

-- a link that is cut joins the same particles, and its flag alone is dropped
pub cut_pairs : (links : List Link) (n : ℕ) (y d : Link) → y ≡ record (get_or links n d) { live = false }
    → link_pairs (set links n y) ≡ link_pairs links
cut_pairs links n y d e = map-set_same (λ (l : Link). (l.a, l.b)) links n y d (ap (λ (l : Link). (l.a, l.b)) e)

pub cut_flags : (links : List Link) (n : ℕ) (y d : Link) → y ≡ record (get_or links n d) { live = false }
    → dropped (n ∷ []) (live_flags links) ≡ live_flags (set links n y)
cut_flags links n y d e = sym (map-set (λ (l : Link). l.live) links n y ∙ ap (set (live_flags links) n) (ap (λ (l : Link). l.live) e))
