-- Folding words: one that differs shows, and what parts of a world add.
use Rattle.std.proofs.Common.{◌≡◌, ◌≢◌, refl, sym, ap, ◌∙◌, subst, ℕ, suc, ◌+◌, ◌/◌, ◌%◌, ◌^◌, ◌<◌, ◌≤◌, Bool, true, false, ℤ, List, []}
use Rattle.std.proofs.Common.{◌∷◌, ◌++◌, length, map, drop, get_or, arith}
use Rattle.std.specs.Prelude.{FitsSigned}
use Rattle.std.specs.Int.{w64, w128, cast_unsigned}
use Rattle.std.specs.List.{flat_map, AllByRecursion}
use Rattle.std.proofs.Math.Facts.{Fits-of_z}
use Rattle.std.proofs.lemmas.List.{drop_more, drop_all}
use Rattle.pbd_num.specs.declared.Vec3.{Vec3}
use Rattle.pbd_world.specs.declared.parts.Particle.{Particle}
use Rattle.pbd_world.specs.declared.parts.Link.{Link}
use Rattle.pbd_world.specs.Ledger.{Sum, Ledger, SumFits}
use Rattle.pbd_world.specs.Particles.{particle_at, no_particle}
use Rattle.pbd_world.specs.World.{World, IsSound}
use Rattle.pbd_log.specs.Entries.{VectorFits}
use Rattle.pbd_encoding.specs.Laws.{NumbersFit, TotalsFit}
use Rattle.pbd_state.specs.Checksum.{flag_word, vector_words, wide_words, sum_words, particle_words, live_word, totals_words, words}
use Rattle.pbd_state.specs.Checksum.{with_word, with_words, checksum}
use Rattle.pbd_state.proofs.Fitting.{numbers_fit}

-- ---- one word that differs

small : (sum word : ℕ) → with_word sum word < 2 ^ 64
unfolding with_word
small sum word = omega arith

word_shows : (sum x y : ℕ) → x < 2 ^ 64 → y < 2 ^ 64 → with_word sum x ≡ with_word sum y → x ≡ y
unfolding with_word
word_shows sum x y a b e = omega (arith, a, b, e)

-- the multiplier is odd
sum_shows : (s t word : ℕ) → s < 2 ^ 64 → t < 2 ^ 64 → with_word s word ≡ with_word t word → s ≡ t
unfolding with_word
sum_shows s t word a b e = omega (arith, a, b, e)

more_shows : (s t : ℕ) (more : List ℕ) → s < 2 ^ 64 → t < 2 ^ 64 → with_words s more ≡ with_words t more → s ≡ t
unfolding with_words
more_shows s t [] a b e = e
more_shows s t (x ∷ more) a b e = sum_shows s t x a b (more_shows (with_word s x) (with_word t x) more (small s x) (small t x) e)

pub one_after_another : (sum : ℕ) (xs ys : List ℕ) → with_words sum (xs ++ ys) ≡ with_words (with_words sum xs) ys
unfolding with_words
one_after_another sum [] ys = refl
one_after_another sum (x ∷ xs) ys = one_after_another (with_word sum x) xs ys

pub next_word : (sum x : ℕ) (more : List ℕ) → with_words sum (x ∷ more) ≡ with_words (with_word sum x) more
unfolding with_words
next_word sum x more = refl

one_shows : (before after : List ℕ) (x y : ℕ) → x < 2 ^ 64 → y < 2 ^ 64
    → with_words 0 (before ++ x ∷ after) ≡ with_words 0 (before ++ y ∷ after) → x ≡ y
one_shows before after x y a b e =
    let s = with_words 0 before in
    let same : with_words (with_word s x) after ≡ with_words (with_word s y) after =
    sym (one_after_another 0 before (x ∷ after) ∙ next_word s x after) ∙ e ∙ one_after_another 0 before (y ∷ after) ∙ next_word s y after in
    word_shows s x y a b (more_shows (with_word s x) (with_word s y) after (small s x) (small s y) same)

-- ---- the words of a sound world are below 2^64

abbrev AreWords : List ℕ → Type 0
AreWords xs = AllByRecursion (λ x. x < 2 ^ 64) xs

both : (xs ys : List ℕ) → AreWords xs → AreWords ys → AreWords (xs ++ ys)
both [] ys a b = b
both (x ∷ xs) ys a b = (a.0, both xs ys a.1 b)

middle : (before after : List ℕ) (x : ℕ) → AreWords (before ++ x ∷ after) → x < 2 ^ 64
middle [] after x a = a.0
middle (y ∷ before) after x a = middle before after x a.1

each : {X : Type 0} (f : X → List ℕ) (xs : List X) (d : X) → ((i : ℕ) → i < length xs → AreWords (f (get_or xs i d)))
    → AreWords (flat_map f xs)
each f [] d h = tt
each f (x ∷ xs) d h = both (f x) (flat_map f xs) (h 0 (omega arith)) (each f xs d (λ i lt. h (suc i) (omega (arith, lt))))

flag_small : (flag : Bool) → flag_word flag < 2 ^ 64
flag_small true = omega arith
flag_small false = omega arith

flags_small : (links : List Link) → AreWords (map live_word links)
flags_small [] = tt
flags_small (l ∷ links) = (flag_small l.live, flags_small links)

bits_small : (z : ℤ) → FitsSigned w64 z → cast_unsigned w64 z < 2 ^ 64
bits_small z f = (Fits-of_z f).fits

vector_small : (v : Vec3) → VectorFits v → AreWords (vector_words v)
unfolding vector_words
vector_small v f = (bits_small v.x f.0, (bits_small v.y f.1, (bits_small v.z f.2, tt)))

halves_small : (n : ℕ) → n < 2 ^ 128 → (n / 2 ^ 64 < 2 ^ 64) × (n % 2 ^ 64 < 2 ^ 64)
halves_small n h = (omega (arith, h), omega (arith, h))

wide_small : (z : ℤ) → FitsSigned w128 z → AreWords (wide_words z)
unfolding wide_words
wide_small z f = let halves = halves_small (cast_unsigned w128 z) (Fits-of_z f).fits in (halves.0, (halves.1, tt))

sum_small : (s : Sum) → SumFits s → AreWords (sum_words s)
unfolding sum_words
sum_small s f =
    both (wide_words s.x ++ wide_words s.y) (wide_words s.z)
    (both (wide_words s.x) (wide_words s.y) (wide_small s.x f.x) (wide_small s.y f.y)) (wide_small s.z f.z)

particle_small : (p : Particle) → VectorFits p.at → VectorFits p.before → AreWords (particle_words p)
unfolding particle_words
particle_small p at before =
    both (vector_words p.at ++ vector_words p.before) (flag_word p.held ∷ [])
    (both (vector_words p.at) (vector_words p.before) (vector_small p.at at) (vector_small p.before before)) (flag_small p.held, tt)

totals_small : (t : Ledger) → TotalsFit t → AreWords (totals_words t)
unfolding totals_words
totals_small t f =
    let two = sum_words t.gravity ++ sum_words t.damping in
    let three = two ++ sum_words t.link in
    let four = three ++ sum_words t.contact in
    let five = four ++ sum_words t.shape in
    both five (sum_words t.pin)
    (both four (sum_words t.shape)
    (both three (sum_words t.contact)
    (both two (sum_words t.link)
    (both (sum_words t.gravity) (sum_words t.damping) (sum_small t.gravity f.gravity) (sum_small t.damping f.damping))
    (sum_small t.link f.link)) (sum_small t.contact f.contact)) (sum_small t.shape f.shape)) (sum_small t.pin f.pin)

words_small : (w : World) → NumbersFit w → AreWords (words w)
unfolding words
words_small w f =
    let p = flat_map particle_words w.particles in
    let l = map live_word w.links in
    let particles = each {X = Particle} particle_words w.particles no_particle
    (λ i lt. particle_small (particle_at w.particles i) (f.at i lt) (f.before i lt)) in
    let front = both (p ++ l) (w.steps ∷ vector_words w.gravity) (both p l particles (flags_small w.links))
    (f.steps, vector_small w.gravity f.gravity) in
    both (p ++ l ++ w.steps ∷ vector_words w.gravity) (w.contacts ∷ totals_words w.totals) front
    (omega (arith, f.contacts), totals_small w.totals f.totals)

-- ---- the law

pub word_of_world_shows : (v w : World) (before after : List ℕ) (x y : ℕ) → IsSound v → IsSound w → words v ≡ before ++ x ∷ after
    → words w ≡ before ++ y ∷ after → x ≢ y → checksum v ≢ checksum w
unfolding checksum
word_of_world_shows v w before after x y sv sw ev ew other same =
    let a = middle before after x (subst (λ (ws : List ℕ). AreWords ws) ev (words_small v (numbers_fit v sv))) in
    let b = middle before after y (subst (λ (ws : List ℕ). AreWords ws) ew (words_small w (numbers_fit w sw))) in
    let folded = λ (ws : List ℕ). with_words 0 ws in
    other (one_shows before after x y a b (sym (ap folded ev) ∙ same ∙ ap folded ew))

-- ---- what parts add

pub particle_next : (ps : List Particle) (i sum : ℕ) → i < length ps → with_words sum (flat_map particle_words (drop i ps))
    ≡ with_words (with_words sum (particle_words (particle_at ps i))) (flat_map particle_words (drop (i + 1) ps))
particle_next ps i sum lt =
    ap (λ (qs : List Particle). with_words sum (flat_map particle_words qs)) (drop_more ps i no_particle lt)
    ∙ one_after_another sum (particle_words (particle_at ps i)) (flat_map particle_words (drop (i + 1) ps))

pub particles_end : (ps : List Particle) (i sum : ℕ) → length ps ≤ i → with_words sum (flat_map particle_words (drop i ps)) ≡ sum
unfolding with_words
particles_end ps i sum all = ap (λ (qs : List Particle). with_words sum (flat_map particle_words qs)) (drop_all i ps all)

pub flag_next : (links : List Link) (i : ℕ) (d : Link) (sum : ℕ) → i < length links → with_words sum (map live_word (drop i links))
    ≡ with_words (with_word sum (live_word (get_or links i d))) (map live_word (drop (i + 1) links))
flag_next links i d sum lt =
    ap (λ (ls : List Link). with_words sum (map live_word ls)) (drop_more links i d lt)
    ∙ next_word sum (live_word (get_or links i d)) (map live_word (drop (i + 1) links))

pub flags_end : (links : List Link) (i sum : ℕ) → length links ≤ i → with_words sum (map live_word (drop i links)) ≡ sum
unfolding with_words
flags_end links i sum all = ap (λ (ls : List Link). with_words sum (map live_word ls)) (drop_all i links all)

pub world_summed : (w : World) (particles flags steps gravity contacts all : ℕ)
    → particles ≡ with_words 0 (flat_map particle_words w.particles)
    → flags ≡ with_words particles (map live_word w.links) → steps ≡ with_word flags w.steps
    → gravity ≡ with_words steps (vector_words w.gravity)
    → contacts ≡ with_word gravity w.contacts → all ≡ with_words contacts (totals_words w.totals) → all ≡ checksum w
unfolding checksum words
world_summed w particles flags steps gravity contacts all e1 e2 e3 e4 e5 e6 =
    let p = flat_map particle_words w.particles in
    let f = map live_word w.links in
    let v = vector_words w.gravity in
    let t = totals_words w.totals in
    let a = with_words 0 p in
    let b = with_words a f in
    let d = with_word b w.steps in
    let e = with_words d v in
    let first : with_words 0 (p ++ f) ≡ b = one_after_another 0 p f in
    let second : with_words 0 (p ++ f ++ w.steps ∷ v) ≡ e =
    one_after_another 0 (p ++ f) (w.steps ∷ v) ∙ ap (λ (s : ℕ). with_words s (w.steps ∷ v)) first ∙ next_word b w.steps v in
    let whole = one_after_another 0 (p ++ f ++ w.steps ∷ v) (w.contacts ∷ t) ∙ ap (λ (s : ℕ). with_words s (w.contacts ∷ t)) second
    ∙ next_word e w.contacts t in
    rw (e6, e5, e4, e3, e2, e1) (sym whole)
