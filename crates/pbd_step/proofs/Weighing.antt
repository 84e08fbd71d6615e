-- The effective weights of particles, as a state lists them.
use Rattle.std.proofs.Common.{◌≡◌, ℕ, suc, ◌<◌, List, [], ◌∷◌, length, map, slice_set, refl, ap, sym, ◌∙◌, arith}
use Rattle.std.proofs.Math.Seq.{map-set_same}
use Rattle.std.proofs.lemmas.List.{map-set}
use Rattle.pbd_world.specs.declared.parts.Particle.{Particle}
use Rattle.pbd_world.specs.declared.parts.Track.{Track}
use Rattle.pbd_world.specs.Particles.{effective_weight, no_particle, particle_at}
use Rattle.pbd_shape.specs.Rubbing.{settled_parts}
use Rattle.pbd_track.specs.Tracking.{Attached}

-- one particle has changed, and its weight
pub weights_set : {weights : List ℕ} {qs : List Particle} (ps : List Particle) (n w : ℕ) (p : Particle)
    → weights ≡ map effective_weight ps → w ≡ effective_weight p → qs ≡ slice_set ps n p → slice_set weights n w ≡ map effective_weight qs
weights_set {weights} {qs} ps n w p are is set =
    (λ i. slice_set (are i) n (is i)) ∙ sym (map-set effective_weight ps n p)
    ∙ ap (λ (xs : List Particle). map effective_weight xs) (sym set)

-- one particle has changed, but for its weight
pub weights_stay : {weights : List ℕ} {qs : List Particle} (ps : List Particle) (n : ℕ) (p : Particle)
    → weights ≡ map effective_weight ps → effective_weight p ≡ effective_weight (particle_at ps n) → qs ≡ slice_set ps n p
    → weights ≡ map effective_weight qs
weights_stay {weights} {qs} ps n p are is set =
    are ∙ sym (map-set_same effective_weight ps n p no_particle is) ∙ ap (λ (xs : List Particle). map effective_weight xs) (sym set)

-- particles whose weights are the same one by one
pub same_weights : (ps qs : List Particle) → length qs ≡ length ps → ((i : ℕ) → i < length ps
    → effective_weight (particle_at qs i) ≡ effective_weight (particle_at ps i)) → map effective_weight qs ≡ map effective_weight ps
same_weights [] [] e each = refl
same_weights [] (q ∷ qs) e each = absurd (omega (arith, e))
same_weights (p ∷ ps) [] e each = absurd (omega (arith, e))
same_weights (p ∷ ps) (q ∷ qs) e each =
    (λ i. each 0 (omega arith) i ∷ same_weights ps qs (omega (arith, e)) (λ k l. each (suc k) (omega (arith, l))) i)

-- tracks change places alone
pub attached_weights : {tracks : List Track} {t : ℕ} (ps qs : List Particle) → Attached tracks t ps qs
    → map effective_weight qs ≡ map effective_weight ps
attached_weights ps qs h = same_weights ps qs h.whole (λ i l. ap effective_weight (h.each i l))

-- friction changes places alone
settled_weighs : (ps : List Particle) → map effective_weight (settled_parts ps) ≡ map effective_weight ps
settled_weighs [] = refl
settled_weighs (p ∷ ps) = ap (λ (ws : List ℕ). effective_weight p ∷ ws) (settled_weighs ps)

pub settled_weights : (ps qs : List Particle) → settled_parts qs ≡ settled_parts ps → map effective_weight qs ≡ map effective_weight ps
settled_weights ps qs e = sym (settled_weighs qs) ∙ ap (λ (l : List Particle). map effective_weight l) e ∙ settled_weighs ps
