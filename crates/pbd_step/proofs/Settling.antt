-- Links that are let go together, and their colours.
use Rattle.std.proofs.Common.{◌≡◌, refl, sym, ap, ◌∙◌, ℕ, zero, suc, ◌<◌, not, ◌&&◌, Bool, true, false, cond, List, [], ◌∷◌, length, filter}
use Rattle.std.proofs.Common.{get_or, arith, pos, int_lt}
use Rattle.std.specs.List.{range_with_len}
use Rattle.std.proofs.lemmas.Bool.{and_parts}
use Rattle.std.proofs.lemmas.List.{ext_get_or, get_or-map}
use Rattle.pbd_world.specs.declared.parts.Particle.{Particle}
use Rattle.pbd_world.specs.declared.parts.Link.{Link}
use Rattle.pbd_world.specs.Bonds.{no_link, link_at}
use Rattle.pbd_world.specs.Colours.{live_at}
use Rattle.pbd_world.specs.Contacts.{link_pairs, live_flags}
use Rattle.pbd_world.specs.Step.{is_torn, tear}
use Rattle.pbd_world.proofs.KeepingOn.{length-mapped}
use Rattle.pbd_num.specs.Vectors.{zero_vector}
use Rattle.pbd_shape.specs.Rubbing.{settled_parts}
use Rattle.pbd_colour.specs.Pairs.{Coloured, dropped}
use Rattle.pbd_tear.specs.Tearing.{AscendTo, torn_numbers, numbers_with_tear_length}
use Rattle.pbd_tear.proofs.Numbers.{numbers_go}
use Rattle.pbd_step.specs.States.{fixed_links, HasLinks}
use Rattle.pbd_step.specs.Settling.{LetGo}
use Rattle.pbd_step.proofs.Dropping.{dropped_flags, flag_at}
use Rattle.std.proofs.lemmas.Simd.{map-map}
use Rattle.pbd_world.proofs.StepBalance.{torn-count}

-- ---- torn links

-- letting all torn links go is tearing
pub let_go_tears : (ps : List Particle) (links after : List Link) → LetGo (torn_numbers ps links) links after → after ≡ tear ps links
unfolding tear
let_go_tears ps links after go =
    let many : length (tear ps links) ≡ length links = length-mapped {A = Link} {B = Link}
    (λ l. record l { live = l.live && not (is_torn ps l) }) links in
    ext_get_or no_link after (tear ps links) (go.whole ∙ sym many)
    (λ i lt.
    let l : i < length links = omega (arith, lt, go.whole) in
    let there = get_or-map (λ (x : Link). record x { live = x.live && not (is_torn ps x) }) links i no_link no_link l in
    go.each i l
    ∙ (λ k. record (link_at links i) { live = sym (numbers_go ps links i l) k })
    ∙ (λ k. record (link_at links i) { live = (there k).live })
    ∙ sym there)

passes_by : (test : ℕ → Bool) (x : ℕ) (rest : List ℕ) (b : Bool) (k : ℕ) → test x ≡ b
    → ((j : ℕ) → j < length rest → test (get_or rest j 0) ≡ true) → k < length (cond b (x ∷ rest) rest)
    → test (get_or (cond b (x ∷ rest) rest) k 0) ≡ true
passes_by test x rest true zero e f h = e
passes_by test x rest true (suc k) e f h = f k (omega (arith, h))
passes_by test x rest false k e f h = f k h

passes : (test : ℕ → Bool) (xs : List ℕ) (k : ℕ) → k < length (filter test xs) → test (get_or (filter test xs) k 0) ≡ true
passes test [] k lt = absurd (omega (arith, lt))
passes test (x ∷ xs) k lt = passes_by test x (filter test xs) (test x) k refl (λ j h. passes test xs j h) lt

-- torn links were live
pub torn_live : (ps : List Particle) (links : List Link) (k : ℕ) → AscendTo (length links) (torn_numbers ps links)
    → k < length (torn_numbers ps links) → live_at (live_flags links) (get_or (torn_numbers ps links) k 0) ≡ true
unfolding torn_numbers
torn_live ps links k ascend lt =
    let n = get_or (torn_numbers ps links) k 0 in
    let torn = passes (λ i. is_torn ps (link_at links i)) (range_with_len 0 (length links)) k lt in
    get_or-map (λ (l : Link). l.live) links n no_link false (ascend.within k lt) ∙ (and_parts _ _ (and_parts _ _ torn).0).0

torn_pairs : (ps : List Particle) (links : List Link) → link_pairs (tear ps links) ≡ link_pairs links
unfolding tear
torn_pairs ps [] = refl
torn_pairs ps (l ∷ links) = ap (λ (pairs : List (ℕ × ℕ)). (l.a, l.b) ∷ pairs) (torn_pairs ps links)

-- the colouring without the torn links has the links that are left
pub torn_coloured : (n : ℕ) (ps : List Particle) (links after : List Link) (old new : Coloured) → HasLinks n links old
    → after ≡ tear ps links → new ≡ record old { live = dropped (torn_numbers ps links) old.live } → HasLinks n after new
torn_coloured n ps links after old new has is coloured =
    let same : length after ≡ length links = ap (λ (ls : List Link). length ls) is ∙ torn-count ps links in
    record {
      particles = ap (λ (c : Coloured). c.particles) coloured ∙ has.particles;
      pairs = ap (λ (c : Coloured). c.pairs) coloured ∙ has.pairs ∙ sym (torn_pairs ps links)
          ∙ sym (ap (λ (ls : List Link). link_pairs ls) is);
      live = ap (λ (c : Coloured). c.live) coloured
          ∙ ap (dropped (torn_numbers ps links)) has.live
          ∙ dropped_flags (torn_numbers ps links) links (tear ps links) (torn-count ps links) (numbers_go ps links)
          ∙ sym (ap (λ (ls : List Link). live_flags ls) is);
      room = omega (arith, same, has.room, ap (λ (c : Coloured). c.room) coloured);
    }

-- particles that differ in their places alone are as many
pub still_many : (ps qs : List Particle) → settled_parts ps ≡ settled_parts qs → length ps ≡ length qs
still_many ps qs e =
    let blank : Particle → Particle = λ p. record p { before = zero_vector } in
    sym (length-mapped {A = Particle} {B = Particle} blank ps) ∙ ap (λ (xs : List Particle). length xs) e
    ∙ length-mapped {A = Particle} {B = Particle} blank qs

-- ---- what of links never changes

fixed_many : (links : List Link) → length (fixed_links links) ≡ length links
fixed_many links = length-mapped {A = Link} {B = Link} (λ l. record l { live = false }) links

fixed_at : (links : List Link) (i : ℕ) → i < length links → link_at (fixed_links links) i ≡ record (link_at links i) { live = false }
fixed_at links i lt = get_or-map (λ (l : Link). record l { live = false }) links i no_link no_link lt

fixed_tear : (links : List Link) (i : ℕ) → (link_at (fixed_links links) i).tear ≡ (link_at links i).tear
fixed_tear [] zero = refl
fixed_tear [] (suc i) = refl
fixed_tear (l ∷ links) zero = refl
fixed_tear (l ∷ links) (suc i) = fixed_tear links i

numbers_fixed : (links : List Link) → numbers_with_tear_length (fixed_links links) ≡ numbers_with_tear_length links
unfolding numbers_with_tear_length
numbers_fixed links = λ k. filter (λ i. int_lt (pos 0) (fixed_tear links i k)) (range_with_len 0 (fixed_many links k))

-- links that differ in which are live alone have the same tear lengths
pub fixed_numbers : (links others : List Link) → fixed_links links ≡ fixed_links others
    → numbers_with_tear_length links ≡ numbers_with_tear_length others
fixed_numbers links others e = sym (numbers_fixed links) ∙ ap numbers_with_tear_length e ∙ numbers_fixed others

-- where the same of them are live they are the same
pub same_links : (links others : List Link) → fixed_links links ≡ fixed_links others → live_flags links ≡ live_flags others
    → links ≡ others
same_links links others e f =
    let many : length links ≡ length others = sym (fixed_many links) ∙ ap (λ (ls : List Link). length ls) e ∙ fixed_many others in
    ext_get_or no_link links others many
    (λ i lt.
    let l : i < length others = omega (arith, lt, many) in
    let rest = sym (fixed_at links i lt) ∙ ap (λ (ls : List Link). link_at ls i) e ∙ fixed_at others i l in
    let live = sym (flag_at links i lt) ∙ ap (λ (fs : List Bool). live_at fs i) f ∙ flag_at others i l in
    λ k. record (rest k) { live = live k })

-- tearing changes which are live alone
pub torn_fixed : (ps : List Particle) (links after : List Link) → after ≡ tear ps links → fixed_links after ≡ fixed_links links
unfolding tear
torn_fixed ps links after is = ap (λ (ls : List Link). fixed_links ls) is
    ∙ map-map {A = Link} {B = Link} {C = Link} (λ l. record l { live = false })
    (λ l. record l { live = l.live && not (is_torn ps l) }) links

not_gone : (b : Bool) → (b && not false) ≡ b
not_gone true = refl
not_gone false = refl

-- where none goes they are as they were
pub none_go : (links after : List Link) → LetGo [] links after → after ≡ links
none_go links after go = ext_get_or no_link after links go.whole (λ i lt.
    go.each i (omega (arith, lt, go.whole)) ∙ (λ k. record (link_at links i) { live = not_gone (link_at links i).live k }))
