-- How far the bonds of a chunk have come.
use Rattle.std.proofs.Common.{◌≡◌, ℕ, zero, suc, ◌+◌, ◌<◌, ◌≤◌, ℤ, List, length, get_or, drop, Bool, true, false, refl, ap, sym, ◌∙◌, arith}
use Rattle.std.proofs.Common.{subst, Ok, Err}
use Rattle.std.proofs.lemmas.List.{drop_all}
use Rattle.pbd_world.specs.declared.parts.Particle.{Particle}
use Rattle.pbd_world.specs.declared.bond.Bond.{Bond}
use Rattle.pbd_world.specs.Ledger.{Ledger, Entry, booked}
use Rattle.pbd_world.specs.Particles.{Motion, particle_at}
use Rattle.pbd_world.specs.Bonds.{projected, corrected, correction_at}
use Rattle.pbd_store.specs.Moving.{fixed_parts}
use Rattle.pbd_pair.specs.Bonds.{IsBond}
use Rattle.pbd_pair.specs.Projecting.{ShareNone}
use Rattle.pbd_pair.specs.Moves.{settled}
use Rattle.pbd_pair.proofs.Correcting.{leaves_by, placed_by, booked_by, corrected_stays, corrected_leaves, fixed-placed_by}
use Rattle.pbd_pair.proofs.OneByOne.{turn_on, turn_out}
use Rattle.pbd_pair.proofs.Together.{Together, together_none, together_more, correction_same, held_same}

-- bond k of a chunk
abbrev pub nth : (ℕ → Bond) → List ℕ → ℕ → Bond
nth bond block k = bond (get_or block k 0)

-- the first j bonds of a chunk are done, and leave the ledger t
pub record Reached (limit : ℤ) (bond : ℕ → Bond) (block : List ℕ) (j : ℕ) (m : Motion) (t : Ledger) : Type 0 where
  pub qs : List Particle
  pub together : Together limit (nth bond block) j m.particles qs
  pub same : projected limit bond (drop j block) (record { particles = qs; totals = t }) ≡ projected limit bond block m
  pub fixed : fixed_parts qs ≡ fixed_parts m.particles

module _ (limit : ℤ) (bond : ℕ → Bond) (block : List ℕ) (m : Motion) (bonds : (k : ℕ) → k < length block → IsBond limit (length m.particles)
    (nth bond block k)) (apart : (i k : ℕ) → i < k → k < length block → ShareNone (nth bond block i) (nth bond block k)) where
  -- whether bond k leads an end out of the limit
  abbrev pub leaving : ℕ → Bool
  leaving k = leaves_by (correction_at limit m.particles (nth bond block k))

  -- what bond k adds to a ledger
  abbrev pub books : ℕ → Ledger → Ledger
  books k u = booked_by (particle_at m.particles (nth bond block k).a).held (particle_at m.particles (nth bond block k).b).held
      (nth bond block k)
      (correction_at limit m.particles (nth bond block k)) u

  reached_more : (j : ℕ) (t t' : Ledger) → j < length block → Reached limit bond block j m t → leaving j ≡ false → t' ≡ books j t
      → Reached limit bond block (suc j) m t'
  reached_more j t t' h r stays et =
      let b = nth bond block j in
      let c = correction_at limit m.particles b in
      let now : Motion = record { particles = r.qs; totals = t } in
      let same_c : correction_at limit r.qs b ≡ c = correction_same limit (nth bond block)
      (length block) m.particles bonds apart j r.qs h r.together in
      let goes : leaves_by (correction_at limit r.qs b) ≡ false = ap leaves_by same_c ∙ stays in
      let ledger : booked_by (particle_at r.qs b.a).held (particle_at r.qs b.b).held b (correction_at limit r.qs b) t ≡ t' = held_same limit
      (nth bond block) (length block) m.particles bonds apart j r.qs t h r.together ∙ sym et in
      let then : Motion = record { particles = placed_by r.qs b c; totals = t' } in
      let did : corrected (get_or block j 0) b (correction_at limit r.qs b) now ≡ Ok then
      = corrected_stays (get_or block j 0) b (correction_at limit r.qs b) now goes
      ∙ (λ i. Ok (record { particles = placed_by r.qs b (same_c i); totals = ledger i })) in
      let next : j + 1 ≡ suc j = omega arith in
      record {
        qs = placed_by r.qs b c;
        together = subst (λ (k : ℕ). Together limit (nth bond block) k m.particles (placed_by r.qs b c)) next
            (together_more limit (nth bond block)
            (length block) m.particles bonds apart j r.qs h r.together);
        same = subst (λ (k : ℕ). projected limit bond (drop k block) then ≡ projected limit bond (drop j block) now) next
            (turn_on limit bond block j h b now then refl refl did) ∙ r.same;
        fixed = fixed-placed_by r.qs b c ∙ r.fixed;
      }

  -- as far as none leaves, with entries that are what the bonds add
  pub reached : (entries : ℕ → List Entry) → ((k : ℕ) → k < length block → leaving k ≡ false → (u : Ledger)
      → booked u (entries k) ≡ books k u) → (j : ℕ)
      → j ≤ length block → ((k : ℕ) → k < j → leaving k ≡ false) → Reached limit bond block j m (settled entries j m.totals)
  reached entries adds zero h stays = record {
    qs = m.particles;
    together = together_none limit (nth bond block) m.particles;
    same = refl;
    fixed = refl;
  }
  reached entries adds (suc j) h stays = reached_more j (settled entries j m.totals) (settled entries (suc j) m.totals) (omega arith)
      (reached entries adds j (omega arith) (λ k p. stays k (omega arith))) (stays j (omega arith))
      (adds j (omega arith) (stays j (omega arith))
      (settled entries j m.totals))

  -- the first that leaves
  pub reached_leaves : (entries : ℕ → List Entry) → ((k : ℕ) → k < length block → leaving k ≡ false → (u : Ledger)
      → booked u (entries k) ≡ books k u)
      → (j : ℕ) → j < length block → ((k : ℕ) → k < j → leaving k ≡ false) → leaving j ≡ true
      → projected limit bond block m ≡ Err (get_or block j 0)
  reached_leaves entries adds j h stays goes =
      let r = reached entries adds j (omega arith) stays in
      let b = nth bond block j in
      let now : Motion = record { particles = r.qs; totals = settled entries j m.totals } in
      let same_c : correction_at limit r.qs b ≡ correction_at limit m.particles b = correction_same limit (nth bond block)
      (length block) m.particles bonds apart j r.qs h r.together in
      sym r.same ∙ turn_out limit bond block j h b now (get_or block j 0) refl refl
      (corrected_leaves (get_or block j 0) b (correction_at limit r.qs b) now (ap leaves_by same_c ∙ goes))

  -- all of them
  pub reached_all : (t : Ledger) (r : Reached limit bond block (length block) m t)
      → projected limit bond block m ≡ Ok (record { particles = r.qs; totals = t })
  reached_all t r = sym r.same ∙ ap (λ (rest : List ℕ). projected limit bond rest (record { particles = r.qs; totals = t }))
      (drop_all (length block) block (omega arith))
