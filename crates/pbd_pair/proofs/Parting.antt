-- Bonds without a common particle whose ends have moved side by side: that is what they come to one by one.
use Rattle.std.proofs.Common.{◌≡◌, ℕ, zero, suc, ◌<◌, ◌⊎◌, ℤ, pos, ◌≤ℤ◌, List, length, get_or, unsigned_abs, Bool, true, false, not, refl}
use Rattle.std.proofs.Common.{ap, sym, ◌∙◌, arith, inl, inr, subst, Ok, Err}
use Rattle.std.proofs.lemmas.Bool.{cases_eq, and_parts}
use Rattle.std.proofs.lemmas.List.{ext_get_or}
use Rattle.pbd_num.specs.declared.Vec3.{Vec3}
use Rattle.pbd_num.specs.Vectors.{Within, plus, is_within}
use Rattle.pbd_num.proofs.Ranges.{within_facts}
use Rattle.pbd_world.specs.declared.parts.Particle.{Particle}
use Rattle.pbd_world.specs.declared.bond.Bond.{Bond}
use Rattle.pbd_world.specs.Ledger.{Ledger, booked}
use Rattle.pbd_world.specs.Particles.{Motion, particle_at, no_particle}
use Rattle.pbd_world.specs.Bonds.{projected, correction_at, end_of}
use Rattle.pbd_store.specs.Gathering.{index_at}
use Rattle.pbd_store.specs.Moving.{fixed_parts, AreInside}
use Rattle.pbd_store.specs.Pairs.{Parted}
use Rattle.pbd_pair.specs.Bonds.{IsBond}
use Rattle.pbd_pair.specs.Projecting.{ShareNone}
use Rattle.pbd_pair.specs.Moves.{moves_at, stay_at, entries_at, settled}
use Rattle.pbd_pair.proofs.Correcting.{leaves_by}
use Rattle.pbd_pair.proofs.ByWay.{leaves_moving, first_moving, second_moving, books_moving}
use Rattle.pbd_pair.proofs.Reaching.{nth, books, reached, reached_leaves, reached_all}
use Rattle.pbd_num.proofs.Below.{split_below}

-- all bonds of a chunk are done
pub record AreDone (limit : ℤ) (bond : ℕ → Bond) (block : List ℕ) (m : Motion) (ps : List Particle) (t : Ledger) : Type 0 where
  pub outcome : projected limit bond block m ≡ Ok (record { particles = ps; totals = t })
  pub inside : AreInside limit ps
  pub fixed : fixed_parts ps ≡ fixed_parts m.particles

-- whether one of the first n numbers is i
pub find_below : (f : ℕ → ℕ) (i n : ℕ) → ((k : ℕ) × (k < n) × (f k ≡ i)) ⊎ ((k : ℕ) → k < n → f k ≡ i → ⊥)
find_below f i zero = inr (λ k h e. absurd (omega arith))
find_below f i (suc n) = elim (cases_eq (f n) i) [
  | inl e ↦ inl (n, omega arith, e)
  | inr m ↦ elim (find_below f i n) [
    | inl w ↦ inl (w.0, omega (arith, w.1), w.2)
    | inr g ↦ inr (λ k h e. elim (split_below k n (omega arith)) [ inl q ↦ g k q e | inr q ↦ m (ap f (sym q) ∙ e) ])
  ]
]

module _ (limit : ℤ) (bond : ℕ → Bond) (block : List ℕ) (ps : List Particle) (bound : pos 0 ≤ℤ limit) (inside : AreInside limit ps)
    (bonds : (k : ℕ)
    → k < length block → IsBond limit (length ps) (nth bond block k))
    (apart : (i k : ℕ) → i < k → k < length block → ShareNone (nth bond block i)
    (nth bond block k)) where
  abbrev B : ℕ → Bond
  B k = nth bond block k

  starts_within : (i : ℕ) → i < length ps → is_within limit (particle_at ps i).at ≡ true
  starts_within i h = (within_facts limit (particle_at ps i).at bound).1 (inside.each i h)

  goes : (k : ℕ) → k < length block → (w : Bool) → stay_at limit ps (B k) ≡ w → leaves_by (correction_at limit ps (B k)) ≡ not w
  goes k h w e = leaves_moving limit (end_of (particle_at ps (B k).a)) (end_of (particle_at ps (B k).b)) (B k)
      (starts_within (B k).a (bonds k h).first)
      (starts_within (B k).b (bonds k h).second) ∙ ap not e

  adds : (u : Ledger) (k : ℕ) → k < length block → leaves_by (correction_at limit ps (B k)) ≡ false → (t : Ledger) → booked t (entries_at ps
      (B k)) ≡ books limit bond block (record { particles = ps; totals = u }) bonds apart k t
  adds u k h e t = books_moving limit (end_of (particle_at ps (B k).a)) (end_of (particle_at ps (B k).b)) (B k)
      (particle_at ps (B k).a).held
      (particle_at ps (B k).b).held _ t refl refl e

  -- the first that leaves
  pub chunk_leaves : (u : Ledger) (j : ℕ) → j < length block → ((k : ℕ) → k < j → stay_at limit ps (B k) ≡ true)
      → stay_at limit ps (B j) ≡ false
      → projected limit bond block (record { particles = ps; totals = u }) ≡ Err (get_or block j 0)
  chunk_leaves u j h stays leaves =
      reached_leaves limit bond block (record { particles = ps; totals = u }) bonds apart (λ k. entries_at ps (B k)) (adds u) j h
      (λ k p. goes k
      (omega arith) true (stays k p)) (goes j h false leaves)

  module _ (firsts seconds : List ℕ) (is_first : (k : ℕ) → k < length block → index_at firsts k ≡ (B k).a)
      (is_second : (k : ℕ) → k < length block
      → index_at seconds k ≡ (B k).b) (f s : ℕ → Vec3) (is_f : (k : ℕ) → k < length block → f k ≡ (moves_at ps (B k)).0) (is_s : (k : ℕ)
      → k < length block → s k ≡ (moves_at ps (B k)).1) (stays : (k : ℕ) → k < length block → stay_at limit ps (B k) ≡ true)
      (new : List Particle)
      (p : Parted (length block) firsts seconds f s ps new) where
    abbrev by : ℕ → Vec3 → Particle
    by i v = record (particle_at ps i) { at = plus (particle_at ps i).at v }

    new_first : (k : ℕ) → k < length block → particle_at new (B k).a ≡ by (B k).a (moves_at ps (B k)).0
    new_first k h = subst (λ (i : ℕ). particle_at new i ≡ by i (f k)) (is_first k h) (p.firsts k h) ∙ ap (by (B k).a) (is_f k h)

    new_second : (k : ℕ) → k < length block → particle_at new (B k).b ≡ by (B k).b (moves_at ps (B k)).1
    new_second k h = subst (λ (i : ℕ). particle_at new i ≡ by i (s k)) (is_second k h) (p.seconds k h) ∙ ap (by (B k).b) (is_s k h)

    new_other : (i : ℕ) → ((k : ℕ) → k < length block → (B k).a ≡ i → ⊥) → ((k : ℕ) → k < length block → (B k).b ≡ i → ⊥)
        → particle_at new i ≡ particle_at ps i
    new_other i not_first not_second = p.others i (λ k h e. not_first k h (sym (is_first k h) ∙ e))
        (λ k h e. not_second k h (sym (is_second k h) ∙ e))

    -- what holds of each particle, moved or not
    each_new : (P : ℕ → Particle → Type 0) → ((k : ℕ) → k < length block → P (B k).a (by (B k).a (moves_at ps (B k)).0))
        → ((k : ℕ) → k < length block
        → P (B k).b (by (B k).b (moves_at ps (B k)).1)) → ((i : ℕ) → ((k : ℕ) → k < length block → ((B k).a ≡ i → ⊥) × ((B k).b ≡ i → ⊥))
        → P i (particle_at ps i)) → (i : ℕ) → P i (particle_at new i)
    each_new P first second other i = elim (find_below (λ k. (B k).a) i (length block)) [
      | inl w ↦ subst (λ (x : ℕ). P x (particle_at new x)) w.2 (subst (P (B w.0).a) (sym (new_first w.0 w.1)) (first w.0 w.1))
      | inr g ↦ elim (find_below (λ k. (B k).b) i (length block)) [
        | inl w ↦ subst (λ (x : ℕ). P x (particle_at new x)) w.2 (subst (P (B w.0).b) (sym (new_second w.0 w.1)) (second w.0 w.1))
        | inr h ↦ subst (P i) (sym (new_other i g h)) (other i (λ k q. (g k q, h k q)))
      ]
    ]

    within_new : (k : ℕ) → k < length block → (Within (unsigned_abs limit) (plus (particle_at ps (B k).a).at (moves_at ps (B k)).0))
        × (Within
        (unsigned_abs limit) (plus (particle_at ps (B k).b).at (moves_at ps (B k)).1))
    within_new k h =
        let both = and_parts _ _ (stays k h) in (
          (within_facts limit (plus (particle_at ps (B k).a).at (moves_at ps (B k)).0) bound).0 both.0,
          (within_facts limit (plus (particle_at ps
              (B k).b).at (moves_at ps (B k)).1) bound).0 both.1,
        )

    pub inside_new : AreInside limit new
    inside_new = record {
      each = λ i h. each_new (λ i x. i < length ps → Within (unsigned_abs limit) x.at) (λ k q r. (within_new k q).0)
          (λ k q r. (within_new k q).1) (λ i f r. inside.each i r) i (omega (arith, p.whole));
    }

    pub chunk_done : (u t : Ledger) → t ≡ settled (λ k. entries_at ps (B k)) (length block) u → AreDone limit bond block (record {
      particles = ps;
      totals = u;
    }) new t
    chunk_done u t et =
        let m : Motion = record { particles = ps; totals = u } in
        let stay : (k : ℕ) → k < length block → leaves_by (correction_at limit ps (B k)) ≡ false = λ k h. goes k h true (stays k h) in
        let r = reached limit bond block m bonds apart (λ k. entries_at ps (B k)) (adds u) (length block) (omega arith) stay in
        let g = r.together in
        let same : new ≡ r.qs = ext_get_or no_particle new r.qs (p.whole ∙ sym g.whole) (λ i h. each_new (λ i x. x ≡ particle_at r.qs i)
        (λ k q. sym (g.firsts k q ∙ first_moving limit (end_of (particle_at ps (B k).a)) (end_of (particle_at ps (B k).b)) (B k)
        (particle_at ps (B k).a) refl (stay k q)))
        (λ k q. sym (g.seconds k q ∙ second_moving limit (end_of (particle_at ps (B k).a)) (end_of (particle_at ps (B k).b)) (B k)
        (particle_at ps (B k).b) refl (stay k q)))
        (λ i f. sym (g.others i f)) i) in
        record {
          outcome = reached_all limit bond block m bonds apart (settled (λ k. entries_at ps (B k)) (length block) u) r
              ∙ (λ i. Ok (record { particles = sym same i; totals = sym et i }));
          inside = inside_new;
          fixed = ap fixed_parts same ∙ r.fixed;
        }
