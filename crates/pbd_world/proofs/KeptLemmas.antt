-- What the passes of a step keep of each particle, and of the ledger.
use Rattle.std.proofs.Common.{◌≡◌, refl, sym, ap, ◌∙◌, ℕ, zero, suc, ◌+◌, ◌*◌, ◌<◌, ◌≤◌, ◌^◌, Bool, true, false, ◌&&◌, List, [], ◌∷◌}
use Rattle.std.proofs.Common.{length, get_or, arith, ℤ, pos, ◌+ℤ◌, ◌≤ℤ◌, neg_ℤ, unsigned_abs, inl, inr}
use Rattle.std.specs.Prelude.{IfOk, IsTrue, if◌then◌else◌, slice_set as set}
use Rattle.std.specs.List.{AllZip}
use Rattle.std.proofs.lemmas.Int.{ints}
use Rattle.std.proofs.lemmas.Bool.{cases_lt, and_parts}
use Rattle.pbd_num.specs.declared.Vec3.{Vec3}
use Rattle.pbd_num.specs.Vectors.{Within, is_within, zero_vector, plus, minus, opposite, length_of}
use Rattle.pbd_num.specs.PairMove.{corrections, pair_moves}
use Rattle.pbd_num.proofs.Ranges.{within_facts, wider}
use Rattle.pbd_num.proofs.Lengths.{pair_moves-none, pair_moves-some, pair_moves-equal}
use Rattle.pbd_world.specs.declared.parts.Particle.{Particle}
use Rattle.pbd_world.specs.declared.bond.Bond.{Bond}
use Rattle.pbd_world.specs.declared.bond.Shift.{Shift}
use Rattle.pbd_world.specs.declared.bond.Correction.TheVariants.{Slack, Leaves, Moves}
use Rattle.pbd_world.specs.declared.totals.Class.TheVariants as classes
use Rattle.pbd_world.specs.Ledger.{Sum, Ledger, sum_plus, booked}
use Rattle.pbd_world.specs.Particles.{Motion, no_particle, particle_at, placed, effective_weight}
use Rattle.pbd_world.specs.World.{HaveWeight, AreBounded}
use Rattle.pbd_world.specs.Bonds.{end_of, is_slack, shift_of, correction_of, entries_of, class_of, corrected, one}
use Rattle.pbd_world.proofs.MomentumLemmas.{same_sum}
use Rattle.pbd_world.proofs.StepBalance.{AreEnds}
use Rattle.pbd_world.proofs.BetweenLemmas.{move_size}
use Rattle.pbd_world.proofs.LedgerBounds.{AreSmall, bounded_weaker, booked_bounded}
use Rattle.pbd_num.proofs.Signs.{share_none}
use Rattle.pbd_num.proofs.VectorSizes.{plus_nothing}
use Rattle.pbd_num.proofs.Ends.{same_axes}

-- ---- two lists side by side

pub zip_at : {A B : Type 0} (R : A → B → Type 0) (xs : List A) (ys : List B) (k : ℕ) (d : A) (e : B) → AllZip R xs ys → k < length xs
    → R (get_or xs k d) (get_or ys k e)
zip_at R [] ys k d e h l = absurd (omega (arith, l))
zip_at R (x ∷ xs) [] k d e h l = absurd h
zip_at R (x ∷ xs) (y ∷ ys) zero d e h l = h.0
zip_at R (x ∷ xs) (y ∷ ys) (suc k) d e h l = zip_at R xs ys k d e h.1 (omega (arith, l))

pub zip_set : {A B : Type 0} (R : A → B → Type 0) (xs : List A) (ys : List B) (k : ℕ) (d : A) (y : B) → AllZip R xs ys
    → (k < length xs → R (get_or xs k d) y) → AllZip R xs (set ys k y)
zip_set R [] [] zero d y h f = tt
zip_set R [] [] (suc k) d y h f = tt
zip_set R [] (z ∷ zs) k d y h f = absurd h
zip_set R (x ∷ xs) [] k d y h f = absurd h
zip_set R (x ∷ xs) (z ∷ zs) zero d y h f = (f (omega arith), h.1)
zip_set R (x ∷ xs) (z ∷ zs) (suc k) d y h f = (h.0, zip_set R xs zs k d y h.1 (λ l. f (omega (arith, l))))

pub zip_join : {A B C : Type 0} (R : A → B → Type 0) (S : B → C → Type 0) (T : A → C → Type 0)
    → ((a : A) (b : B) (c : C) → R a b → S b c → T a c) → (xs : List A) (ys : List B) (zs : List C) → AllZip R xs ys → AllZip S ys zs
    → AllZip T xs zs
zip_join R S T f [] [] [] h k = tt
zip_join R S T f [] [] (z ∷ zs) h k = absurd k
zip_join R S T f [] (y ∷ ys) zs h k = absurd h
zip_join R S T f (x ∷ xs) [] zs h k = absurd h
zip_join R S T f (x ∷ xs) (y ∷ ys) [] h k = absurd k
zip_join R S T f (x ∷ xs) (y ∷ ys) (z ∷ zs) h k = (f x y z h.0 k.0, zip_join R S T f xs ys zs h.1 k.1)

-- ---- a particle in the passes of a step

-- the same weight, hold and place before, within the limit, and in place where it is held
pub record Kept (limit : ℤ) (p q : Particle) : Type 0 where
  pub weight : q.weight ≡ p.weight
  pub held : q.held ≡ p.held
  pub before : q.before ≡ p.before
  pub inside : IsTrue (is_within limit q.at)
  pub stays : p.held ≡ true → q.at ≡ p.at

pub kept_join : (limit : ℤ) (p q r : Particle) → Kept limit p q → Kept limit q r → Kept limit p r
kept_join limit p q r h k = record {
  weight = k.weight ∙ h.weight;
  held = k.held ∙ h.held;
  before = k.before ∙ h.before;
  inside = k.inside;
  stays = λ e. k.stays (h.held ∙ e) ∙ h.stays e;
}

kept_placed : (limit : ℤ) (ps qs : List Particle) (i : ℕ) (to : Vec3) → AllZip (Kept limit) ps qs → IsTrue (is_within limit to)
    → ((particle_at ps i).held ≡ true → to ≡ (particle_at ps i).at) → AllZip (Kept limit) ps (placed qs i to)
kept_placed limit ps qs i to z inside stays =
    zip_set (Kept limit) ps qs i no_particle (record (particle_at qs i) { at = to }) z
    (λ l. let k = zip_at (Kept limit) ps qs i no_particle no_particle z l in
    record { weight = k.weight; held = k.held; before = k.before; inside = inside; stays = stays })

-- ---- a held end doesn't move

pub held_first : (a b : Vec3) (rest k wb : ℤ) → (pair_moves a b rest k (pos 0) wb).0 ≡ zero_vector
held_first a b rest k wb = elim (cases_lt 0 (length_of (minus a b))) [
  | inl far ↦ elim (cases_lt 0 (unsigned_abs (pos 0) + unsigned_abs wb)) [
    | inl heavy ↦
        let total = unsigned_abs (pos 0) + unsigned_abs wb in
        let s = corrections (minus a b) rest in
        ap (λ (m : Vec3 × Vec3). m.0) (pair_moves-some a b rest k (pos 0) wb far heavy)
        ∙ same_axes _ zero_vector (ap neg_ℤ (share_none s.x k total heavy)) (ap neg_ℤ (share_none s.y k total heavy))
        (ap neg_ℤ (share_none s.z k total heavy))
    | inr light ↦ ap (λ (m : Vec3 × Vec3). m.0) (pair_moves-none a b rest k (pos 0) wb (inr (omega (arith, light))))
  ]
  | inr near ↦ ap (λ (m : Vec3 × Vec3). m.0) (pair_moves-none a b rest k (pos 0) wb (inl (omega (arith, near))))
]

pub held_second : (a b : Vec3) (rest k wa : ℤ) → (pair_moves a b rest k wa (pos 0)).1 ≡ zero_vector
held_second a b rest k wa = elim (cases_lt 0 (length_of (minus a b))) [
  | inl far ↦ elim (cases_lt 0 (unsigned_abs wa + unsigned_abs (pos 0))) [
    | inl heavy ↦
        let total = unsigned_abs wa + unsigned_abs (pos 0) in
        let s = corrections (minus a b) rest in
        ap (λ (m : Vec3 × Vec3). m.1) (pair_moves-some a b rest k wa (pos 0) far heavy)
        ∙ same_axes _ zero_vector (share_none s.x k total heavy) (share_none s.y k total heavy) (share_none s.z k total heavy)
    | inr light ↦ ap (λ (m : Vec3 × Vec3). m.1) (pair_moves-none a b rest k wa (pos 0) (inr (omega (arith, light))))
  ]
  | inr near ↦ ap (λ (m : Vec3 × Vec3). m.1) (pair_moves-none a b rest k wa (pos 0) (inl (omega (arith, near))))
]

-- the weight that a bond sees
weight_held : (p : Particle) (held : Bool) → p.held ≡ held → held ≡ true → effective_weight p ≡ 0
weight_held p held e t = ap (λ (b : Bool). if b then 0 else p.weight) (e ∙ t)

weight_free : (p : Particle) → p.held ≡ false → effective_weight p ≡ p.weight
weight_free p e = ap (λ (b : Bool). if b then 0 else p.weight) e

-- ---- the entries of a bond

entries_small : (p q : Bool) (bond : Bond) (s : Shift) (c : ℕ) → Within c s.first_move → Within c s.second_move
    → AreSmall c (entries_of p q (class_of bond) s)
entries_small false false bond s c h k = (h, (k, tt))
entries_small false true bond s c h k = (h, tt)
entries_small true false bond s c h k = (k, tt)
entries_small true true bond s c h k = tt

entries_few : (p q : Bool) (bond : Bond) (s : Shift) → length (entries_of p q (class_of bond) s) ≤ 2
entries_few false false bond s = omega arith
entries_few false true bond s = omega arith
entries_few true false bond s = omega arith
entries_few true true bond s = omega arith

entries_damping : (p q contact : Bool) (s : Shift) (t : Ledger)
    → (booked t (entries_of p q (if contact then classes.Contact else classes.Link) s)).damping ≡ t.damping
entries_damping false false true s t = refl
entries_damping false false false s t = refl
entries_damping false true contact s t = refl
entries_damping true false contact s t = refl
entries_damping true true contact s t = refl

pub back_again : (s v : ℤ) → (s +ℤ neg_ℤ v) +ℤ v ≡ s
back_again s v = omega (arith, ints)

cancelled : (s : Sum) (u v : Vec3) → u ≡ opposite v → sum_plus (sum_plus s u) v ≡ s
cancelled s u v e =
    ap (λ (x : Vec3). sum_plus (sum_plus s x) v) e
    ∙ same_sum (sum_plus (sum_plus s (opposite v)) v) s (back_again s.x v.x) (back_again s.y v.y) (back_again s.z v.z)

entries_even : (p q contact : Bool) (s : Shift) (t : Ledger) → (p ≡ false → q ≡ false → s.first_move ≡ opposite s.second_move)
    → ((booked t (entries_of p q (if contact then classes.Contact else classes.Link) s)).link ≡ t.link)
    × ((booked t (entries_of p q (if contact then classes.Contact else classes.Link) s)).contact ≡ t.contact)
entries_even false false true s t h = (refl, cancelled t.contact s.first_move s.second_move (h refl refl))
entries_even false false false s t h = (cancelled t.link s.first_move s.second_move (h refl refl), refl)
entries_even false true contact s t h = (refl, refl)
entries_even true false contact s t h = (refl, refl)
entries_even true true contact s t h = (refl, refl)

-- ---- a motion in the passes of a step

-- from particles ps and a ledger t on: the particles are kept, the totals are at most b, nothing is damped, and with one weight the bonds'
-- totals stay
pub record Goes (limit : ℤ) (ps : List Particle) (t : Ledger) (b : ℕ) (m : Motion) : Type 0 where
  pub kept : AllZip (Kept limit) ps m.particles
  pub bounded : AreBounded b m.totals
  pub damping : m.totals.damping ≡ t.damping
  pub even : (weight : ℕ) → HaveWeight weight ps → (m.totals.link ≡ t.link) × (m.totals.contact ≡ t.contact)

pub goes_weaker : (limit : ℤ) (ps : List Particle) (t : Ledger) (b c : ℕ) (m : Motion) → b ≤ c → Goes limit ps t b m → Goes limit ps t c m
goes_weaker limit ps t b c m l h = record {
  kept = h.kept;
  bounded = bounded_weaker m.totals b c l h.bounded;
  damping = h.damping;
  even = h.even;
}

-- a limit as it is in a world
pub record IsLimit (limit : ℤ) : Type 0 where
  pub low : pos 0 ≤ℤ limit
  pub high : unsigned_abs limit ≤ 2 ^ 29

moved_goes : (limit : ℤ) (ps : List Particle) (t : Ledger) (b : ℕ) (m : Motion) (bond : Bond) (s : Shift) → IsLimit limit
    → AreEnds (length ps) bond → Goes limit ps t b m
    → s ≡ shift_of (end_of (particle_at m.particles bond.a)) (end_of (particle_at m.particles bond.b)) bond
    → IsTrue (is_within limit s.first) → IsTrue (is_within limit s.second)
    → Goes limit ps t (b + 2 ^ 31) (record {
      particles = placed (placed m.particles bond.a s.first) bond.b s.second;
      totals = booked m.totals (entries_of (particle_at m.particles bond.a).held (particle_at m.particles bond.b).held
          (class_of bond) s);
    })
unfolding shift_of
moved_goes limit ps t b m bond s lim ends h is first second =
    let qs = m.particles in
    let pa = particle_at ps bond.a in
    let pb = particle_at ps bond.b in
    let qa = particle_at qs bond.a in
    let qb = particle_at qs bond.b in
    let ka : Kept limit pa qa = zip_at (Kept limit) ps qs bond.a no_particle no_particle h.kept ends.first in
    let kb : Kept limit pb qb = zip_at (Kept limit) ps qs bond.b no_particle no_particle h.kept ends.second in
    let moves : ℕ → ℕ → Vec3 × Vec3 = λ wa wb. pair_moves qa.at qb.at bond.rest bond.k (pos wa) (pos wb) in
    let wa = effective_weight qa in
    let wb = effective_weight qb in
    let m1 : s.first_move ≡ (moves wa wb).0 = ap (λ (x : Shift). x.first_move) is in
    let m2 : s.second_move ≡ (moves wa wb).1 = ap (λ (x : Shift). x.second_move) is in
    let f1 : s.first ≡ plus qa.at s.first_move = ap (λ (x : Shift). x.first) is ∙ ap (plus qa.at) (sym m1) in
    let f2 : s.second ≡ plus qb.at s.second_move = ap (λ (x : Shift). x.second) is ∙ ap (plus qb.at) (sym m2) in
    let stay1 : pa.held ≡ true → s.first ≡ pa.at = λ e.
    f1 ∙ ap (plus qa.at) (m1 ∙ ap (λ n. (moves n wb).0) (weight_held qa pa.held ka.held e)
    ∙ held_first qa.at qb.at bond.rest bond.k (pos wb)) ∙ plus_nothing qa.at ∙ ka.stays e in
    let stay2 : pb.held ≡ true → s.second ≡ pb.at = λ e.
    f2 ∙ ap (plus qb.at) (m2 ∙ ap (λ n. (moves wa n).1) (weight_held qb pb.held kb.held e)
    ∙ held_second qa.at qb.at bond.rest bond.k (pos wa)) ∙ plus_nothing qb.at ∙ kb.stays e in
    let l = unsigned_abs limit in
    let in1 : Within l (plus qa.at s.first_move) = rw (sym f1) ((within_facts limit s.first lim.low).0 first) in
    let in2 : Within l (plus qb.at s.second_move) = rw (sym f2) ((within_facts limit s.second lim.low).0 second) in
    let size1 = wider s.first_move (2 * l) (2 ^ 30) (omega (arith, lim.high))
    (move_size qa.at s.first_move l ((within_facts limit qa.at lim.low).0 ka.inside) in1) in
    let size2 = wider s.second_move (2 * l) (2 ^ 30) (omega (arith, lim.high))
    (move_size qb.at s.second_move l ((within_facts limit qb.at lim.low).0 kb.inside) in2) in
    let es = entries_of qa.held qb.held (class_of bond) s in
    record {
      kept = kept_placed limit ps (placed qs bond.a s.first) bond.b s.second
          (kept_placed limit ps qs bond.a s.first h.kept first stay1) second stay2;
      bounded = bounded_weaker (booked m.totals es) (b + length es * 2 ^ 30) (b + 2 ^ 31)
          (omega (arith, entries_few qa.held qb.held bond s)) (booked_bounded es m.totals b (2 ^ 30)
          (entries_small qa.held qb.held bond s (2 ^ 30) size1 size2) h.bounded);
      damping = entries_damping qa.held qb.held bond.contact s m.totals ∙ h.damping;
      even = λ weight all.
          let ea : qa.held ≡ false → wa ≡ weight = λ e. weight_free qa e ∙ ka.weight ∙ all bond.a no_particle ends.first in
          let eb : qb.held ≡ false → wb ≡ weight = λ e. weight_free qb e ∙ kb.weight ∙ all bond.b no_particle ends.second in
          let turn : qa.held ≡ false → qb.held ≡ false → s.first_move ≡ opposite s.second_move = λ e f.
          m1 ∙ ap (λ n. (moves n wb).0) (ea e) ∙ ap (λ n. (moves weight n).0) (eb f)
          ∙ pair_moves-equal qa.at qb.at bond.rest bond.k (pos weight)
          ∙ ap opposite (sym (m2 ∙ ap (λ n. (moves n wb).1) (ea e) ∙ ap (λ n. (moves weight n).1) (eb f))) in
          let kept = entries_even qa.held qb.held bond.contact s m.totals turn in
          let old = h.even weight all in
          (kept.0 ∙ old.0, kept.1 ∙ old.1);
    }

bond_by : (P : Motion → Type 0) (n : ℕ) (bond : Bond) (s : Shift) (m : Motion) (slack inside : Bool) → P m
    → (inside ≡ true → P (record {
      particles = placed (placed m.particles bond.a s.first) bond.b s.second;
      totals = booked m.totals (entries_of (particle_at m.particles bond.a).held (particle_at m.particles bond.b).held
          (class_of bond) s);
    }))
    → IfOk (corrected n bond (if slack then Slack else (if inside then Moves s else Leaves)) m) P
bond_by P n bond s m true inside h k = h
bond_by P n bond s m false true h k = k refl
bond_by P n bond s m false false h k = tt

-- one bond
pub one_goes : (limit : ℤ) (bond : ℕ → Bond) (n : ℕ) (ps : List Particle) (t : Ledger) (b : ℕ) (m : Motion) → IsLimit limit
    → AreEnds (length ps) (bond n) → Goes limit ps t b m → IfOk (one limit bond n m) (Goes limit ps t (b + 2 ^ 31))
unfolding one correction_of
one_goes limit bond n ps t b m lim ends h =
    let p = end_of (particle_at m.particles (bond n).a) in
    let q = end_of (particle_at m.particles (bond n).b) in
    let s = shift_of p q (bond n) in
    bond_by (Goes limit ps t (b + 2 ^ 31)) n (bond n) s m (is_slack p q (bond n)) (is_within limit s.first && is_within limit s.second)
    (goes_weaker limit ps t b (b + 2 ^ 31) m (omega arith) h)
    (λ e. let both = and_parts (is_within limit s.first) (is_within limit s.second) e in
    moved_goes limit ps t b m (bond n) s lim ends h refl both.0 both.1)
