-- The near pairs that the grid finds are the pairs that touch.
use Rattle.std.proofs.Common.{◌≡◌, ◌∙◌, refl, sym, ap, subst, ℕ, ◌+◌, ◌-◌, ◌^◌, ◌<◌, ◌≤◌, ℤ, pos, ◌≤ℤ◌, unsigned_abs, eqb, Bool, true}
use Rattle.std.proofs.Common.{false, not, ◌&&◌, List, [], ◌∷◌, length, map, replicate, arith, Result, Ok, Err}
use Rattle.std.specs.Prelude.{filter}
use Rattle.std.specs.Result.{OnOk, OnErr}
use Rattle.std.specs.List.{AllByRecursion, range_with_len}
use Rattle.std.proofs.Math.ListN.{get_or-map}
use Rattle.std.proofs.lemmas.Bool.Decides.{nat_tests}
use Rattle.std.proofs.lemmas.Int.{ints}
use Rattle.std.proofs.lemmas.List.{length-map}
use Rattle.std.proofs.lemmas.List.Elements.{filter_agree}
use Rattle.std.proofs.lemmas.Simd.{splat_is_map}
use Rattle.pbd_num.specs.declared.Vec3.{Vec3}
use Rattle.pbd_num.specs.Vectors.{Within, minus, squared_length}
use Rattle.pbd_world.specs.declared.parts.Particle.{Particle}
use Rattle.pbd_world.specs.declared.parts.Link.{Link}
use Rattle.pbd_world.specs.Particles.{particle_at, no_particle}
use Rattle.pbd_world.specs.Room.{Roomed}
use Rattle.pbd_world.specs.Colours.{joined}
use Rattle.pbd_world.specs.Contacts.{row, all_pairs, are_near, contacts_of, link_pairs, live_flags}
use Rattle.pbd_world.proofs.KeepingOn.{all-flat, all-filter, all-map, all-range, all-at}
use Rattle.pbd_colour.specs.Pairs.{Coloured, InRange}
use Rattle.pbd_store.specs.Moving.{AreInside}
use Rattle.pbd_grid.specs.Near.{AllInside, place_at, is_near, near_pairs}
use Rattle.pbd_self.specs.Apart.{held_at, may_touch}
use Rattle.pbd_grid.specs.Looks.{looks_for}
use Rattle.pbd_self.specs.Touching.{Found, touches, touching, looks_at, AreOrdered}
use Rattle.pbd_world.proofs.ContactLemmas.{row_pairs}
use Rattle.std.proofs.lemmas.Bool.{le-ltb}

-- ---- what the grid finds

abbrev pub places_of : List Particle → List Vec3
places_of ps = map {A = Particle} {B = Vec3} (λ p. p.at) ps

abbrev pub flags_of : List Particle → List Bool
flags_of ps = map {A = Particle} {B = Bool} (λ p. p.held) ps

pub place_of : (ps : List Particle) (i : ℕ) → place_at (places_of ps) i ≡ (particle_at ps i).at
place_of ps i = get_or-map (λ (p : Particle). p.at) ps i no_particle

flag_of : (ps : List Particle) (i : ℕ) → held_at (flags_of ps) i ≡ (particle_at ps i).held
flag_of ps i = get_or-map (λ (p : Particle). p.held) ps i no_particle

regroup : (a b c : Bool) → (a && (b && c)) ≡ (a && b && c)
regroup true b c = refl
regroup false b c = refl

found_touches : (thickness : ℤ) (links : Coloured) (ps : List Particle) (pair : ℕ × ℕ)
    → (is_near thickness (place_at (places_of ps) pair.0) (place_at (places_of ps) pair.1) && may_touch (flags_of ps) links pair.0 pair.1)
    ≡ touches thickness links ps pair
found_touches thickness links ps pair =
    rw (place_of ps pair.0, place_of ps pair.1, flag_of ps pair.0, flag_of ps pair.1)
    (regroup (are_near thickness (particle_at ps pair.0) (particle_at ps pair.1))
    (not ((particle_at ps pair.0).held && (particle_at ps pair.1).held)) (not (joined links.pairs links.live pair.0 pair.1)))

pub found_is_touching : (thickness : ℤ) (links : Coloured) (ps : List Particle)
    → near_pairs (places_of ps) thickness (may_touch (flags_of ps) links) ≡ touching thickness links ps
unfolding touching
found_is_touching thickness links ps =
    filter_agree (λ (pair : ℕ × ℕ). is_near thickness (place_at (places_of ps) pair.0) (place_at (places_of ps) pair.1)
    && may_touch (flags_of ps) links pair.0 pair.1) (touches thickness links ps) (found_touches thickness links ps)
    (all_pairs (length (places_of ps)))
    ∙ ap (λ (n : ℕ). filter (touches thickness links ps) (all_pairs n)) (length-map ps (λ (p : Particle). p.at))

-- the same, of what was copied into lists with room
pub grid_finds : (t thickness : ℤ) (links : Coloured) (ps : List Particle) (old places : Roomed Vec3) (old_flags flags : Roomed Bool)
    (xs : List Vec3) (bs : List Bool)
    → t ≡ thickness → xs ≡ places.entries → places ≡ record old { entries = places_of ps } → bs ≡ flags.entries
    → flags ≡ record old_flags { entries = flags_of ps }
    → near_pairs xs t (may_touch bs links) ≡ touching thickness links ps
grid_finds t thickness links ps old places old_flags flags xs bs e x p b f =
    let xs_is : xs ≡ places_of ps = x ∙ ap (λ (r : Roomed Vec3). r.entries) p in
    let bs_is : bs ≡ flags_of ps = b ∙ ap (λ (r : Roomed Bool). r.entries) f in
    rw (e, xs_is, bs_is) (found_is_touching thickness links ps)

-- the places within a limit of at most 2^29 are within 2^29
pub places_inside : (limit : ℤ) (ps : List Particle) (places old : Roomed Vec3) (xs : List Vec3)
    → (0 < length ps → unsigned_abs limit ≤ 2 ^ 29) → AreInside limit ps → places ≡ record old { entries = places_of ps } → xs ≡ places.entries → AllInside xs
places_inside limit ps places old xs small inside p x i lt =
    let xs_is : xs ≡ places_of ps = x ∙ ap (λ (r : Roomed Vec3). r.entries) p in
    let size : length xs ≡ length ps = ap length xs_is ∙ length-map ps (λ (q : Particle). q.at) in
    let here : place_at xs i ≡ (particle_at ps i).at = ap (λ (ys : List Vec3). place_at ys i) xs_is ∙ place_of ps i in
    let within = inside.each i (omega (arith, lt, size)) in
    let high = small (omega (arith, lt, size)) in
    subst (λ (v : Vec3). Within (2 ^ 29) v) (sym here) (record {
      x = omega (arith, within.x, high);
      y = omega (arith, within.y, high);
      z = omega (arith, within.z, high);
    })

-- ---- what a search costs

not_nothing : (thickness : ℤ) → pos 1 ≤ℤ thickness → eqb (unsigned_abs thickness) 0 ≡ false
not_nothing thickness low = grind (arith, nat_tests, ints)

-- from a thickness of 1 on, it is the grid's search of the places that were copied
pub looks_are : (t thickness : ℤ) (m n : ℕ) (ps : List Particle) (old places : Roomed Vec3) (xs : List Vec3) → t ≡ thickness → m ≡ n
    → xs ≡ places.entries → places ≡ record old { entries = places_of ps } → pos 1 ≤ℤ thickness
    → looks_for m t xs ≡ looks_at n thickness ps
unfolding looks_at
looks_are t thickness m n ps old places xs e is x p low =
    let xs_is : xs ≡ places_of ps = x ∙ ap (λ (r : Roomed Vec3). r.entries) p in
    rw (e, is, xs_is, not_nothing thickness low) refl

pub none_looked : (n : ℕ) (thickness : ℤ) (ps : List Particle) → thickness ≡ pos 0 → looks_at n thickness ps ≡ 0
unfolding looks_at
none_looked n thickness ps e = rw e refl

pub found_parts : (a b : Found) → a.particles ≡ b.particles → a.pairs ≡ b.pairs → a.chains ≡ b.chains → a.looks ≡ b.looks → a ≡ b
found_parts a b e f g h =
    let whole : ℕ → List (ℕ × ℕ) → ℕ → ℕ → Found = λ n ps m k. record { particles = n; pairs = ps; chains = m; looks = k } in
    ap (λ (n : ℕ). whole n a.pairs a.chains a.looks) e ∙ ap (λ (ps : List (ℕ × ℕ)). whole b.particles ps a.chains a.looks) f
    ∙ ap (λ (m : ℕ). whole b.particles b.pairs m a.looks) g ∙ ap (λ (k : ℕ). whole b.particles b.pairs b.chains k) h

-- ---- at thickness 0

none_kept : {A : Type 0} (test : A → Bool) → ((x : A) → test x ≡ false) → (xs : List A) → filter test xs ≡ []
none_kept test fails [] = refl
none_kept test fails (x ∷ xs) = rw (fails x) (none_kept test fails xs)

none_at_zero : (links : Coloured) (ps : List Particle) → touching (pos 0) links ps ≡ []
unfolding touching
none_at_zero links ps =
    none_kept (touches (pos 0) links ps) (λ pair. ap (λ (b : Bool). b && not ((particle_at ps pair.0).held && (particle_at ps pair.1).held)
    && not (joined links.pairs links.live pair.0 pair.1))
    (le-ltb (squared_length (minus (particle_at ps pair.0).at (particle_at ps pair.1).at)) 0 (omega arith))) (all_pairs (length ps))

pub none_touch : (thickness : ℤ) (links : Coloured) (ps : List Particle) → thickness ≡ pos 0 → touching thickness links ps ≡ []
none_touch thickness links ps e = ap (λ (t : ℤ). touching t links ps) e ∙ none_at_zero links ps

-- ---- their numbers

abbrev IsPair : ℕ → ℕ × ℕ → Type 0
IsPair n p = (p.0 < p.1) × (p.1 < n)

pub touching_ordered : (thickness : ℤ) (links : Coloured) (ps : List Particle) → AreOrdered (length ps) (touching thickness links ps)
unfolding touching
touching_ordered thickness links ps k lt =
    let n = length ps in
    let all : AllByRecursion (IsPair n) (all_pairs n) = all-flat (λ (i : ℕ). i < n) (IsPair n) (row n) (λ i l. row_pairs n i)
    (range_with_len 0 n) (all-range (λ (i : ℕ). i < n) 0 n (λ i l u. omega (arith, u))) in
    all-at (IsPair n) (touching thickness links ps) k (0, 0) lt (all-filter (IsPair n) (touches thickness links ps) (all_pairs n) all)

pub ordered_in_range : (n : ℕ) (pairs : List (ℕ × ℕ)) → AreOrdered n pairs → InRange n pairs
ordered_in_range n pairs h k lt = (omega (arith, (h k lt).0, (h k lt).1), (h k lt).1, λ e. absurd (omega (arith, (h k lt).0, e)))

-- ---- the law

pub touching_contacts : (thickness : ℤ) (links : List Link) (ps : List Particle) (c : Coloured) → c.pairs ≡ link_pairs links
    → c.live ≡ live_flags links → touching thickness c ps ≡ contacts_of thickness links ps
unfolding touching contacts_of
touching_contacts thickness links ps c pairs live = rw (pairs, live) refl

-- ---- what is kept

-- all pairs of a refilled colouring are live
pub recoloured : (n : ℕ) (old new : Coloured) (before entries xs : List (ℕ × ℕ))
    → old ≡ record { particles = n; room = 262144; pairs = before; live = map (λ pair. true) before }
    → xs ≡ entries → new ≡ record old { pairs = xs; live = replicate (length xs) true }
    → new ≡ record { particles = n; room = 262144; pairs = entries; live = map (λ pair. true) entries }
recoloured n old new before entries xs was e is =
    is ∙ ap (λ (c : Coloured). record c { pairs = xs; live = replicate (length xs) true }) was
    ∙ ap (λ (ys : List (ℕ × ℕ)). record { particles = n; room = 262144; pairs = ys; live = replicate (length ys) true }) e
    ∙ ap (λ (bs : List Bool). record { particles = n; room = 262144; pairs = entries; live = bs })
    (splat_is_map entries (length entries) true refl)

module _ {A E : Type 0} (r : Result A E) (entries near : List (ℕ × ℕ)) where
  pub result_ordered : (n : ℕ) → AreOrdered n near → OnOk r (entries ≡ near) → OnErr r (entries ≡ []) → AreOrdered n entries
  result_ordered n h ok err = by_case r ok err
    where
      by_case : (s : Result A E) → OnOk s (entries ≡ near) → OnErr s (entries ≡ []) → AreOrdered n entries
      by_case (Ok x) e f = rw e h
      by_case (Err x) e f = rw f (λ k l. absurd (omega (arith, l)))

  pub result_fits : (room : ℕ) → room ≡ 262144 → OnOk r (entries ≡ near) → OnOk r (length near ≤ room) → OnErr r (entries ≡ [])
      → length entries ≤ 262144
  result_fits room is ok fit err = by_case r ok fit err
    where
      by_case : (s : Result A E) → OnOk s (entries ≡ near) → OnOk s (length near ≤ room) → OnErr s (entries ≡ []) → length entries ≤ 262144
      by_case (Ok x) e l f = rw e (omega (arith, l, is))
      by_case (Err x) e l f = rw f (omega arith)
