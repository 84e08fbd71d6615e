-- Bonds without a common particle: each is corrected as it is at the start.
use Rattle.std.proofs.Common.{◌≡◌, ◌≢◌, ℕ, ◌+◌, ◌<◌, ℤ, List, length, refl, ap, sym, ◌∙◌, arith, inl, inr, subst}
use Rattle.pbd_world.specs.declared.parts.Particle.{Particle}
use Rattle.pbd_world.specs.declared.bond.Bond.{Bond}
use Rattle.pbd_world.specs.declared.bond.Correction.{Correction}
use Rattle.pbd_world.specs.declared.bond.Correction.TheVariants.{Slack, Leaves, Moves}
use Rattle.pbd_world.specs.Ledger.{Ledger}
use Rattle.pbd_world.specs.Particles.{particle_at, placed}
use Rattle.pbd_world.specs.Bonds.{end_of, correction_of, correction_at}
use Rattle.pbd_store.proofs.Scattering.{placed_same, placed_other, length-placed}
use Rattle.pbd_pair.specs.Bonds.{IsBond}
use Rattle.pbd_pair.specs.Projecting.{ShareNone}
use Rattle.pbd_pair.proofs.Correcting.{placed_by, booked_by}
use Rattle.pbd_num.proofs.Below.{split_below}

-- what a correction makes of its two particles
abbrev pub first_by : Correction → Particle → Particle
first_by Slack p = p
first_by Leaves p = p
first_by (Moves s) p = record p { at = s.first }

abbrev pub second_by : Correction → Particle → Particle
second_by Slack p = p
second_by Leaves p = p
second_by (Moves s) p = record p { at = s.second }

pub length-placed_by : (ps : List Particle) (b : Bond) (c : Correction) → length (placed_by ps b c) ≡ length ps
length-placed_by ps b Slack = refl
length-placed_by ps b Leaves = refl
length-placed_by ps b (Moves s) = length-placed (placed ps b.a s.first) b.b s.second ∙ length-placed ps b.a s.first

pub placed_by_first : (ps : List Particle) (b : Bond) (c : Correction) → b.a < length ps → b.a ≢ b.b
    → particle_at (placed_by ps b c) b.a ≡ first_by c
    (particle_at ps b.a)
placed_by_first ps b Slack h n = refl
placed_by_first ps b Leaves h n = refl
placed_by_first ps b (Moves s) h n = placed_other (placed ps b.a s.first) b.b b.a s.second n ∙ placed_same ps b.a s.first h

pub placed_by_second : (ps : List Particle) (b : Bond) (c : Correction) → b.b < length ps → b.a ≢ b.b
    → particle_at (placed_by ps b c) b.b ≡ second_by c
    (particle_at ps b.b)
placed_by_second ps b Slack h n = refl
placed_by_second ps b Leaves h n = refl
placed_by_second ps b (Moves s) h n =
    placed_same (placed ps b.a s.first) b.b s.second (omega (arith, length-placed ps b.a s.first))
    ∙ ap (λ (p : Particle). record p { at = s.second }) (placed_other ps b.a b.b s.first (λ e. n (sym e)))

pub placed_by_other : (ps : List Particle) (b : Bond) (c : Correction) (i : ℕ) → (b.a ≡ i → ⊥) → (b.b ≡ i → ⊥)
    → particle_at (placed_by ps b c) i ≡ particle_at ps i
placed_by_other ps b Slack i m n = refl
placed_by_other ps b Leaves i m n = refl
placed_by_other ps b (Moves s) i m n = placed_other (placed ps b.a s.first) b.b i s.second (λ e. n (sym e))
    ∙ placed_other ps b.a i s.first (λ e. m (sym e))

-- qs is ps after the first j of the bonds B, each of them corrected as ps is
pub record Together (limit : ℤ) (B : ℕ → Bond) (j : ℕ) (ps qs : List Particle) : Type 0 where
  pub whole : length qs ≡ length ps
  pub firsts : (k : ℕ) → k < j → particle_at qs (B k).a ≡ first_by (correction_at limit ps (B k)) (particle_at ps (B k).a)
  pub seconds : (k : ℕ) → k < j → particle_at qs (B k).b ≡ second_by (correction_at limit ps (B k)) (particle_at ps (B k).b)
  pub others : (i : ℕ) → ((k : ℕ) → k < j → ((B k).a ≡ i → ⊥) × ((B k).b ≡ i → ⊥)) → particle_at qs i ≡ particle_at ps i

pub together_none : (limit : ℤ) (B : ℕ → Bond) (ps : List Particle) → Together limit B 0 ps ps
together_none limit B ps = record {
  whole = refl;
  firsts = λ k h. absurd (omega arith);
  seconds = λ k h. absurd (omega arith);
  others = λ i h. refl;
}

module _ (limit : ℤ) (B : ℕ → Bond) (n : ℕ) (ps : List Particle) (bonds : (k : ℕ) → k < n → IsBond limit (length ps) (B k))
    (apart : (i k : ℕ) → i < k
    → k < n → ShareNone (B i) (B k)) where
  pub first_same : (j : ℕ) (qs : List Particle) → j < n → Together limit B j ps qs → particle_at qs (B j).a ≡ particle_at ps (B j).a
  first_same j qs h t = t.others (B j).a (λ k p. ((apart k j p h).aa, (apart k j p h).ba))

  pub second_same : (j : ℕ) (qs : List Particle) → j < n → Together limit B j ps qs → particle_at qs (B j).b ≡ particle_at ps (B j).b
  second_same j qs h t = t.others (B j).b (λ k p. ((apart k j p h).ab, (apart k j p h).bb))

  -- the next bond is corrected as it is at the start
  pub correction_same : (j : ℕ) (qs : List Particle) → j < n → Together limit B j ps qs
      → correction_at limit qs (B j) ≡ correction_at limit ps (B j)
  correction_same j qs h t = λ i. correction_of limit (end_of (first_same j qs h t i)) (end_of (second_same j qs h t i)) (B j)

  pub held_same : (j : ℕ) (qs : List Particle) (t : Ledger) → j < n → Together limit B j ps qs
      → booked_by (particle_at qs (B j).a).held (particle_at qs
      (B j).b).held (B j) (correction_at limit qs (B j)) t ≡ booked_by (particle_at ps (B j).a).held (particle_at ps (B j).b).held (B j)
      (correction_at limit ps (B j)) t
  held_same j qs t h g = λ i. booked_by (first_same j qs h g i).held (second_same j qs h g i).held (B j) (correction_same j qs h g i) t

  pub together_more : (j : ℕ) (qs : List Particle) → j < n → Together limit B j ps qs → Together limit B (j + 1) ps (placed_by qs (B j)
      (correction_at limit ps (B j)))
  together_more j qs h t =
      let c = correction_at limit ps (B j) in
      let b = bonds j h in
      record {
        whole = length-placed_by qs (B j) c ∙ t.whole;
        firsts = λ k p. elim (split_below k j p) [
          | inl q ↦ placed_by_other qs (B j) c (B k).a (λ e. (apart k j q h).aa (sym e)) (λ e. (apart k j q h).ab (sym e)) ∙ t.firsts k q
          | inr e ↦ subst (λ (m : ℕ). particle_at (placed_by qs (B j) c) (B m).a
              ≡ first_by (correction_at limit ps (B m)) (particle_at ps (B m).a)) (sym e)
              (placed_by_first qs (B j) c (omega (arith, b.first, t.whole)) b.different ∙ ap (first_by c) (first_same j qs h t))
        ];
        seconds = λ k p. elim (split_below k j p) [
          | inl q ↦ placed_by_other qs (B j) c (B k).b (λ e. (apart k j q h).ba (sym e)) (λ e. (apart k j q h).bb (sym e)) ∙ t.seconds k q
          | inr e ↦ subst (λ (m : ℕ). particle_at (placed_by qs (B j) c) (B m).b
              ≡ second_by (correction_at limit ps (B m)) (particle_at ps (B m).b)) (sym e)
              (placed_by_second qs (B j) c (omega (arith, b.second, t.whole)) b.different ∙ ap (second_by c) (second_same j qs h t))
        ];
        others = λ i f. placed_by_other qs (B j) c i (f j (omega arith)).0 (f j (omega arith)).1 ∙ t.others i (λ k p. f k (omega arith));
      }
