-- Columns seen as a list of particles: what a read gives, and what a write makes of the list.
use Rattle.std.proofs.Common.{◌≡◌, ℕ, ◌+◌, ◌*◌, ◌++◌, ◌<◌, ◌≤◌, ℤ, pos, List, [], ◌∷◌, zero, suc, length, get_or, map, replicate, slice_set}
use Rattle.std.proofs.Common.{Bool, ◌&&◌, true, false, cond, IsTrue, nat_lt, refl, sym, ◌∙◌, ap, arith, inl, inr}
use Rattle.std.proofs.lemmas.Bool.{cases_lt, cases_eq, and_parts, and_from, ltb-true, lt-ltb}
use Rattle.std.proofs.lemmas.List.{get_or-set_same, get_or-set_other, get_or_past, get_or-replicate, length-set, length-map, length-append}
use Rattle.std.proofs.lemmas.List.{length-replicate}
use Rattle.std.proofs.lemmas.List.FromFn.{fill_by_all, get_or-map-range_with_len, length-map-range_with_len}
use Rattle.pbd_num.specs.declared.Vec3.{Vec3}
use Rattle.pbd_num.specs.Vectors.{zero_vector}
use Rattle.pbd_lanes.specs.Lane.{is_set, lanes_of}
use Rattle.pbd_world.specs.declared.parts.Particle.{Particle}
use Rattle.pbd_world.specs.Particles.{particle_at, placed, effective_weight, no_particle}
use Rattle.pbd_store.specs.Blocks.{loaded, Saved}
use Rattle.pbd_store.specs.Gathering.{index_at, gathered}
use Rattle.pbd_store.specs.Writing.{WrittenWhere}
use Rattle.pbd_store.specs.Listed.{place_at, row, listed, ArePadded, AreKept}

-- ---- a list that a function gives, with one element set

pub written : {A : Type 0} (none : A) (n i : ℕ) (f g : ℕ → A) (v : A) → i < n → g i ≡ v → ((k : ℕ) → (k ≡ i → ⊥) → g k ≡ f k)
    → lanes_of n g ≡ slice_set (lanes_of n f) i v
written none n i f g v h same other =
    let long : length (lanes_of n f) ≡ n = length-map-range_with_len f 0 n in
    sym (fill_by_all g (slice_set (lanes_of n f) i v) n none (length-set (lanes_of n f) i v ∙ long) (λ k p. elim (cases_eq k i) [
      | inl e ↦ ap (λ (m : ℕ). get_or (slice_set (lanes_of n f) i v) m none) e
          ∙ get_or-set_same (lanes_of n f) i v none (omega arith) ∙ sym same ∙ ap g (sym e)
      | inr d ↦ get_or-set_other (lanes_of n f) i k v none d ∙ get_or-map-range_with_len f 0 n k k none p (omega arith)
          ∙ sym (other k d)
    ]))

-- ---- a column of a list

pub padded_past : {A : Type 0} (n k : ℕ) (d : A) → get_or (replicate n d) k d ≡ d
padded_past n k d = elim (cases_lt k n) [
  | inl p ↦ get_or-replicate n k d d p
  | inr q ↦ get_or_past (replicate n d) k d
      (omega (arith, length-replicate n d))
]

pub column_is : {A : Type 0} (f : Particle → A) (ps : List Particle) (n k : ℕ)
    → get_or (map f ps ++ replicate n (f no_particle)) k (f no_particle) ≡ f (particle_at ps k)
column_is f [] n k = padded_past n k (f no_particle)
column_is f (p ∷ ps) n zero = refl
column_is f (p ∷ ps) n (suc k) = column_is f ps n k

pub column_long : {A : Type 0} (f : Particle → A) (ps : List Particle) (n : ℕ) (d : A) → length (map f ps ++ replicate n d) ≡ length ps + n
column_long f ps n d = length-append (map f ps) (replicate n d) ∙ (λ i. length-map ps f i + length-replicate n d i)

-- ---- the list of padded columns

module _ {n spare : ℕ} {at before : List Vec3} {weight : List ℕ} {held : List Bool} (h : ArePadded n spare at before weight held) where
  pub listed_long : length (listed n at before weight held) ≡ n
  listed_long = length-map-range_with_len (row at before weight held) 0 n

  pub shown : (k : ℕ) → particle_at (listed n at before weight held) k ≡ row at before weight held k
  shown k = elim (cases_lt k n) [
    | inl p ↦ get_or-map-range_with_len (row at before weight held) 0 n k k no_particle p (omega arith)
    | inr q ↦ get_or_past (listed n at before weight held) k no_particle (omega (arith, listed_long)) ∙ sym (h.padding k q)
  ]

  -- other rows, but for row i
  module _ (at' before' : List Vec3) (weight' : List ℕ) (held' : List Bool) (i : ℕ) (within : i < n)
      (other : (k : ℕ) → (k ≡ i → ⊥) → row at' before' weight' held' k ≡ row at before weight held k) where
    pub listed_set : (v : Particle) → row at' before' weight' held' i ≡ v
        → listed n at' before' weight' held' ≡ slice_set (listed n at before weight held) i v
    listed_set v same = written no_particle n i (row at before weight held) (row at' before' weight' held') v within same other

    pub padded_set : length at' ≡ n + spare → length before' ≡ n + spare → length weight' ≡ n + spare → length held' ≡ n + spare
        → ArePadded n spare at' before' weight' held'
    padded_set la lb lw lh = record {
      size = h.size;
      places = la;
      befores = lb;
      weights = lw;
      flags = lh;
      padding = λ k q. other k (λ e. absurd (omega arith)) ∙ h.padding k q;
    }

-- what f gives of a particle that is wanted, or of no particle
pub row_or_none : {A : Type 0} (f : Particle → A) (ps : List Particle) (i : ℕ) (b : Bool)
    → f (particle_at ps (cond b i (length ps))) ≡ cond b (f (particle_at ps i)) (f no_particle)
row_or_none f ps i true = refl
row_or_none f ps i false = ap f (get_or_past ps (length ps) no_particle (omega arith))

pub row_within : (i n : ℕ) (b : Bool) → (IsTrue b → i < n) → cond b i n ≤ n
row_within i n true h = omega (arith, h refl)
row_within i n false h = omega arith

-- the columns of a list
pub listed_from : (ps : List Particle) (at before : List Vec3) (weight : List ℕ) (held : List Bool)
    → ((k : ℕ) → row at before weight held k ≡ particle_at ps k) → listed (length ps) at before weight held ≡ ps
listed_from ps at before weight held is = sym (fill_by_all (row at before weight held) ps (length ps) no_particle refl (λ k p. sym (is k)))

pub any_default : {A : Type 0} (xs : List A) (i : ℕ) (d e : A) → i < length xs → get_or xs i d ≡ get_or xs i e
any_default [] i d e h = absurd (omega arith)
any_default (x ∷ xs) zero d e h = refl
any_default (x ∷ xs) (suc i) d e h = any_default xs i d e (omega arith)

-- what a lane has of what f gives
pub lane_is : {A : Type 0} (n : ℕ) (f : ℕ → A) (d : A) {xs : List A} → xs ≡ lanes_of n f → (j : ℕ) → j < n → get_or xs j d ≡ f j
lane_is {A} n f d e j p = ap (λ (xs : List A). get_or xs j d) e ∙ get_or-map-range_with_len f 0 n j j d p (omega arith)

-- lists of which each lane is alike
pub lanes_alike : {A : Type 0} (n : ℕ) (f g : ℕ → A) → ((j : ℕ) → j < n → f j ≡ g j) → lanes_of n f ≡ lanes_of n g
lanes_alike n f g h = fill_by_all g (lanes_of n f) n (g 0) (length-map-range_with_len f 0 n)
    (λ j p. get_or-map-range_with_len f 0 n j j (g 0) p (omega arith) ∙ h j p)

-- what g gives of the rows of a block, where that is what f gives of their particles
pub block_is : {A : Type 0} (n block : ℕ) {rows : List ℕ} → rows ≡ lanes_of n (λ j. block * n + j) → (ps : List Particle) (f : Particle → A)
    (g : ℕ → A) → ((k : ℕ) → g k ≡ f (particle_at ps k)) → lanes_of n (λ j. g (index_at rows j)) ≡ loaded n block f ps
block_is n block {rows} er ps f g eg = lanes_alike n (λ j. g (index_at rows j)) (λ j. f (particle_at ps (block * n + j))) (λ j p.
    eg (index_at rows j) ∙ ap (λ (k : ℕ). f (particle_at ps k)) (lane_is n (λ (k : ℕ). block * n + k) 0 er j p))

-- ---- the list that clauses see

module _ {n spare : ℕ} {at before : List Vec3} {weight : List ℕ} {held : List Bool}
    (h : ArePadded n spare at before weight held) {ps : List Particle}
    (e : listed n at before weight held ≡ ps) where
  pub count_is : n ≡ length ps
  count_is = sym (listed_long h) ∙ ap (λ (qs : List Particle). length qs) e

  pub row_is : (k : ℕ) → particle_at ps k ≡ row at before weight held k
  row_is k = ap (λ (qs : List Particle). particle_at qs k) (sym e) ∙ shown h k

  pub place_is : (k : ℕ) → (particle_at ps k).at ≡ place_at at k
  place_is k = ap (λ (p : Particle). p.at) (row_is k)

  -- what f gives of the rows of a block
  pub block_of : {A : Type 0} (l block : ℕ) {rows : List ℕ} → rows ≡ lanes_of l (λ j. block * l + j) → (f : Particle → A)
      → lanes_of l (λ j. f (row at before weight held (index_at rows j))) ≡ loaded l block f ps
  block_of l block er f = block_is l block er ps f (λ k. f (row at before weight held k)) (λ k. ap f (sym (row_is k)))

  -- what a row gives, be it of a particle that is wanted or the first of zeros
  pub end_is : {A : Type 0} (f : Particle → A) (i k : ℕ) (b : Bool) → k ≡ cond b i (length ps)
      → f (row at before weight held k) ≡ cond b (f (particle_at ps i)) (f no_particle)
  end_is f i k b is = ap f (sym (row_is k)) ∙ ap (λ (m : ℕ). f (particle_at ps m)) is ∙ row_or_none f ps i b

  -- what a column gives of the rows that the set lanes name
  pub gathered_is : (l : ℕ) (is : List ℕ) (set : List Bool) (rows : List ℕ)
      → rows ≡ lanes_of l (λ (j : ℕ). cond (is_set set j) (index_at is j) (length ps)) → (f : Particle → ℤ) → f no_particle ≡ pos 0
      → (g : ℕ → ℤ) → ((k : ℕ) → g k ≡ f (row at before weight held k))
      → lanes_of l (λ (j : ℕ). g (index_at rows j)) ≡ gathered l f ps is set
  gathered_is l is set rows er f z g eg = lanes_alike l (λ (j : ℕ). g (index_at rows j))
      (λ (j : ℕ). cond (is_set set j) (f (particle_at ps (index_at is j))) (pos 0)) (λ j p.
      let at_row : index_at rows j ≡ cond (is_set set j) (index_at is j) (length ps) =
      lane_is l (λ (k : ℕ). cond (is_set set k) (index_at is k) (length ps)) 0 er j p in
      eg (index_at rows j) ∙ end_is f (index_at is j) (index_at rows j) (is_set set j) at_row
      ∙ ap (λ (d : ℤ). cond (is_set set j) (f (particle_at ps (index_at is j))) d) z)

  -- and these rows are rows of a column
  pub row_near : (l : ℕ) (is : List ℕ) (set : List Bool) (rows : List ℕ)
      → rows ≡ lanes_of l (λ (j : ℕ). cond (is_set set j) (index_at is j) (length ps))
      → ((j : ℕ) → j < l → IsTrue (is_set set j) → index_at is j < length ps) → (j : ℕ) → j < l → index_at rows j ≤ n
  row_near l is set rows er within j p =
      let at_row : index_at rows j ≡ cond (is_set set j) (index_at is j) (length ps) =
      lane_is l (λ (k : ℕ). cond (is_set set k) (index_at is k) (length ps)) 0 er j p in
      omega (arith, at_row, count_is, row_within (index_at is j) (length ps) (is_set set j) (within j p))

  -- another place
  module _ (at' : List Vec3) (i : ℕ) (v : Vec3) (within : i < length ps) (ea : at' ≡ slice_set at i v) where
    near : i < n
    near = omega (arith, count_is)

    place_long : length at' ≡ n + spare
    place_long = ap (λ (vs : List Vec3). length vs) ea ∙ length-set at i v ∙ h.places

    place_same : place_at at' i ≡ v
    place_same = ap (λ (vs : List Vec3). place_at vs i) ea ∙ get_or-set_same at i v zero_vector (omega (arith, near, h.places))

    place_other : (k : ℕ) → (k ≡ i → ⊥) → place_at at' k ≡ place_at at k
    place_other k d = ap (λ (vs : List Vec3). place_at vs k) ea ∙ get_or-set_other at i k v zero_vector d

    other_place : (k : ℕ) → (k ≡ i → ⊥) → row at' before weight held k ≡ row at before weight held k
    other_place k d = λ t. record { at = place_other k d t; before = place_at before k; weight = get_or weight k 0; held = is_set held k }

    pub place_padded : ArePadded n spare at' before weight held
    place_padded = padded_set h at' before weight held i near other_place place_long h.befores h.weights h.flags

    pub place_listed : listed n at' before weight held ≡ placed ps i v
    place_listed =
        let now : row at' before weight held i ≡ record (particle_at ps i) { at = v } =
        (λ t. record { at = place_same t; before = place_at before i; weight = get_or weight i 0; held = is_set held i })
        ∙ ap (λ (q : Particle). record q { at = v }) (sym (row_is i)) in
        listed_set h at' before weight held i near other_place (record (particle_at ps i) { at = v }) now
        ∙ ap (λ (qs : List Particle). slice_set qs i (record (particle_at ps i) { at = v })) e

    -- the effective weights are those of the same particles
    pub place_kept : (light : List ℕ) → length light ≡ n + spare
        → ((k : ℕ) → get_or light k 0 ≡ effective_weight (row at before weight held k))
        → AreKept n spare at' before weight held light
    place_kept light long weighs = record { padded = place_padded; long = long; weighs = weighs }

    -- and another place before, weight and flag
    module _ (before' : List Vec3) (b : Vec3) (eb : before' ≡ slice_set before i b) where
      before_same : place_at before' i ≡ b
      before_same = ap (λ (vs : List Vec3). place_at vs i) eb ∙ get_or-set_same before i b zero_vector (omega (arith, near, h.befores))

      before_other : (k : ℕ) → (k ≡ i → ⊥) → place_at before' k ≡ place_at before k
      before_other k d = ap (λ (vs : List Vec3). place_at vs k) eb ∙ get_or-set_other before i k b zero_vector d

      module _ (weight' : List ℕ) (w : ℕ) (ew : weight' ≡ slice_set weight i w) (held' : List Bool) (f : Bool)
          (eh : held' ≡ slice_set held i f) where
        other_all : (k : ℕ) → (k ≡ i → ⊥) → row at' before' weight' held' k ≡ row at before weight held k
        other_all k d =
            let ws = ap (λ (xs : List ℕ). get_or xs k 0) ew ∙ get_or-set_other weight i k w 0 d in
            let hs = ap (λ (xs : List Bool). is_set xs k) eh ∙ get_or-set_other held i k f false d in
            λ t. record { at = place_other k d t; before = before_other k d t; weight = ws t; held = hs t }

        all_now : row at' before' weight' held' i ≡ record { at = v; before = b; weight = w; held = f }
        all_now =
            let ws = ap (λ (xs : List ℕ). get_or xs i 0) ew ∙ get_or-set_same weight i w 0 (omega (arith, near, h.weights)) in
            let hs = ap (λ (xs : List Bool). is_set xs i) eh ∙ get_or-set_same held i f false (omega (arith, near, h.flags)) in
            λ t. record { at = place_same t; before = before_same t; weight = ws t; held = hs t }

        pub all_padded : ArePadded n spare at' before' weight' held'
        all_padded = padded_set h at' before' weight' held' i near other_all place_long
            (ap (λ (vs : List Vec3). length vs) eb ∙ length-set before i b
            ∙ h.befores)
            (ap (λ (xs : List ℕ). length xs) ew ∙ length-set weight i w ∙ h.weights)
            (ap (λ (xs : List Bool). length xs) eh ∙ length-set held i f ∙ h.flags)

        pub all_kept : (light light' : List ℕ) → length light ≡ n + spare
            → ((k : ℕ) → get_or light k 0 ≡ effective_weight (row at before weight held k))
            → light' ≡ slice_set light i (effective_weight (record { at = v; before = b; weight = w; held = f }))
            → AreKept n spare at' before' weight' held' light'
        all_kept light light' long weighs el = record {
          padded = all_padded;
          long = ap (λ (xs : List ℕ). length xs) el ∙ length-set light i
              (effective_weight (record { at = v; before = b; weight = w; held = f })) ∙ long;
          weighs = λ k. ap (λ (xs : List ℕ). get_or xs k 0) el ∙ elim (cases_eq k i) [
            | inl e ↦ ap (λ (m : ℕ). get_or (slice_set light i (effective_weight (record { at = v; before = b; weight = w; held = f }))) m
                0) e
                ∙ get_or-set_same light i (effective_weight (record { at = v; before = b; weight = w; held = f })) 0
                (omega (arith, near, long))
                ∙ ap (λ (q : Particle). effective_weight q) (sym all_now)
                ∙ ap (λ (m : ℕ). effective_weight (row at' before' weight' held' m)) (sym e)
            | inr d ↦ get_or-set_other light i k (effective_weight (record { at = v; before = b; weight = w; held = f })) 0 d ∙ weighs k
                ∙ ap (λ (q : Particle). effective_weight q) (sym (other_all k d))
          ];
        }

        pub all_listed : listed n at' before' weight' held' ≡ slice_set ps i (record { at = v; before = b; weight = w; held = f })
        all_listed =
            listed_set h at' before' weight' held' i near other_all (record { at = v; before = b; weight = w; held = f }) all_now
            ∙ ap (λ (qs : List Particle). slice_set qs i (record { at = v; before = b; weight = w; held = f })) e

  -- other places of particles
  pub places_padded : {at' before' : List Vec3} → length at' ≡ length at → length before' ≡ length before
      → ((k : ℕ) → n ≤ k → row at' before' weight held k ≡ row at before weight held k) → ArePadded n spare at' before' weight held
  places_padded la lb past = record {
    size = h.size;
    places = la ∙ h.places;
    befores = lb ∙ h.befores;
    weights = h.weights;
    flags = h.flags;
    padding = λ k q. past k q ∙ h.padding k q;
  }

  -- other places in those of m lanes from `start` on that are set and have a particle
  module _ (m start : ℕ) (set own : List Bool) (eo : own ≡ lanes_of m (λ (j : ℕ). is_set set j && nat_lt (start + j) (length ps))) where
    own_at : (j : ℕ) → j < m → is_set own j ≡ (is_set set j && nat_lt (start + j) (length ps))
    own_at = lane_is m (λ (k : ℕ). is_set set k && nat_lt (start + k) (length ps)) false eo

    set_of : (j : ℕ) → j < m → IsTrue (is_set own j) → IsTrue (is_set set j)
    set_of j p s = (and_parts (is_set set j) (nat_lt (start + j) (length ps)) (sym (own_at j p) ∙ s)).0

    pub below : (j : ℕ) → j < m → IsTrue (is_set own j) → start + j < length ps
    below j p s = ltb-true (start + j) (length ps) (and_parts (is_set set j) (nat_lt (start + j) (length ps)) (sym (own_at j p) ∙ s)).1

    own_of : (j : ℕ) → j < m → IsTrue (is_set set j) → start + j < length ps → IsTrue (is_set own j)
    own_of j p s l = own_at j p ∙ and_from (is_set set j) (nat_lt (start + j) (length ps)) s (lt-ltb (start + j) (length ps) l)

    module _ (at' before' : List Vec3) (pa pb : ℕ → Vec3) (ea : WrittenWhere m start own pa at at')
        (eb : WrittenWhere m start own pb before before') where
      row_there : (j : ℕ) → j < m → IsTrue (is_set own j) → row at' before' weight held (start + j)
          ≡ record (row at before weight held (start + j))
          { at = pa j; before = pb j }
      row_there j p s = λ t. record {
        at = ea.lanes j p s t;
        before = eb.lanes j p s t;
        weight = get_or weight (start + j) 0;
        held = is_set held (start + j);
      }

      row_elsewhere : (i : ℕ) → ((j : ℕ) → j < m → IsTrue (is_set own j) → start + j ≡ i → ⊥)
          → row at' before' weight held i ≡ row at before weight held i
      row_elsewhere i f = λ t. record { at = ea.others i f t; before = eb.others i f t; weight = get_or weight i 0; held = is_set held i }

      pub moved_padded : ArePadded n spare at' before' weight held
      moved_padded = places_padded ea.whole eb.whole
          (λ k q. row_elsewhere k (λ j p s f. absurd (omega (arith, count_is, below j p s))))

      pub moved_saved : Saved m start set pa pb ps (listed n at' before' weight held)
      moved_saved = record {
        whole = listed_long moved_padded ∙ count_is;
        lanes = λ j p l s. shown moved_padded (start + j) ∙ row_there j p (own_of j p s l)
            ∙ ap (λ (q : Particle). record q { at = pa j; before = pb j }) (sym (row_is (start + j)));
        others = λ i f. shown moved_padded i ∙ row_elsewhere i (λ j p s g. f j p (set_of j p s) g) ∙ sym (row_is i);
      }

  -- the same columns once more
  module _ (n' : ℕ) (en : n' ≡ n) (at' before' : List Vec3) (weight' : List ℕ) (held' : List Bool) (ea : at' ≡ at) (eb : before' ≡ before)
      (ew : weight' ≡ weight) (eh : held' ≡ held) where
    same_row : (k : ℕ) → row at' before' weight' held' k ≡ row at before weight held k
    same_row k = λ t. row (ea t) (eb t) (ew t) (eh t) k

    long : {A : Type 0} {xs ys : List A} → xs ≡ ys → length ys ≡ n + spare → length xs ≡ n' + spare
    long {A} ex l = ap (λ (zs : List A). length zs) ex ∙ l ∙ ap (λ (m : ℕ). m + spare) (sym en)

    pub copied_padded : ArePadded n' spare at' before' weight' held'
    copied_padded = record {
      size = omega (arith, h.size);
      places = long ea h.places;
      befores = long eb h.befores;
      weights = long ew h.weights;
      flags = long eh h.flags;
      padding = λ k q. same_row k ∙ h.padding k (omega arith);
    }

    pub copied_kept : (light light' : List ℕ) → length light ≡ n + spare
        → ((k : ℕ) → get_or light k 0 ≡ effective_weight (row at before weight held k)) → light' ≡ light
        → AreKept n' spare at' before' weight' held' light'
    copied_kept light light' l weighs el = record {
      padded = copied_padded;
      long = long el l;
      weighs = λ k. ap (λ (xs : List ℕ). get_or xs k 0) el ∙ weighs k ∙ ap (λ (q : Particle). effective_weight q) (sym (same_row k));
    }

    pub copied_listed : listed n' at' before' weight' held' ≡ ps
    copied_listed = (λ t. lanes_of (en t) (λ (k : ℕ). same_row k t)) ∙ e

-- ---- the columns of a list

module _ (ps : List Particle) (spare : ℕ) (few : length ps ≤ 65536) (at before : List Vec3) (weight : List ℕ) (held : List Bool)
    (ea : at ≡ map (λ (p : Particle). p.at) ps ++ replicate spare zero_vector)
    (eb : before ≡ map (λ (p : Particle). p.before) ps ++ replicate spare zero_vector)
    (ew : weight ≡ map (λ (p : Particle). p.weight) ps ++ replicate spare 0)
    (eh : held ≡ map (λ (p : Particle). p.held) ps ++ replicate spare false) where
  from_row : (k : ℕ) → row at before weight held k ≡ particle_at ps k
  from_row k =
      let here = ap (λ (vs : List Vec3). place_at vs k) ea ∙ column_is (λ (p : Particle). p.at) ps spare k in
      let before = ap (λ (vs : List Vec3). place_at vs k) eb ∙ column_is (λ (p : Particle). p.before) ps spare k in
      let weighs = ap (λ (xs : List ℕ). get_or xs k 0) ew ∙ column_is (λ (p : Particle). p.weight) ps spare k in
      let holds = ap (λ (xs : List Bool). is_set xs k) eh ∙ column_is (λ (p : Particle). p.held) ps spare k in
      λ t. record { at = here t; before = before t; weight = weighs t; held = holds t }

  long_as : {A : Type 0} {xs : List A} (f : Particle → A) (d : A) → xs ≡ map f ps ++ replicate spare d → length xs ≡ length ps + spare
  long_as {A} f d ex = ap (λ (zs : List A). length zs) ex ∙ column_long f ps spare d

  pub from_padded : ArePadded (length ps) spare at before weight held
  from_padded = record {
    size = few;
    places = long_as (λ (p : Particle). p.at) zero_vector ea;
    befores = long_as (λ (p : Particle). p.before) zero_vector eb;
    weights = long_as (λ (p : Particle). p.weight) 0 ew;
    flags = long_as (λ (p : Particle). p.held) false eh;
    padding = λ k q. from_row k ∙ get_or_past ps k no_particle q;
  }

  pub from_kept : (light : List ℕ) → light ≡ map (λ (p : Particle). effective_weight p) ps ++ replicate spare 0
      → AreKept (length ps) spare at before weight held light
  from_kept light el = record {
    padded = from_padded;
    long = long_as (λ (p : Particle). effective_weight p) 0 el;
    weighs = λ k. ap (λ (xs : List ℕ). get_or xs k 0) el ∙ column_is (λ (p : Particle). effective_weight p) ps spare k
        ∙ ap (λ (q : Particle). effective_weight q) (sym (from_row k));
  }

  pub from_listed : listed (length ps) at before weight held ≡ ps
  from_listed = listed_from ps at before weight held from_row
