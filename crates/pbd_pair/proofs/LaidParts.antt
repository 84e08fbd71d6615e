-- Columns of a list in parts, by weights that stand in a list of their own.
use Rattle.std.proofs.Common.{◌≡◌, ℕ, zero, suc, pos, List, [], ◌∷◌, ◌++◌, length, get_or, map, refl, ap, sym, ◌∙◌}
use Rattle.std.proofs.Common.{arith}
use Rattle.std.proofs.Math.Seq.{take-append_seam, drop-append_seam, take-length}
use Rattle.std.proofs.lemmas.List.{length-append, length-take, length-drop}
use Rattle.pbd_world.specs.declared.parts.Particle.{Particle}
use Rattle.pbd_world.specs.declared.bond.Bond.{Bond}
use Rattle.pbd_world.specs.Particles.{effective_weight}
use Rattle.pbd_store.specs.Gathering.{index_at}
use Rattle.pbd_store.specs.Moving.{fixed_parts}
use Rattle.pbd_pair.specs.declared.laid.Laid.{Laid}
use Rattle.pbd_pair.specs.Laid.{back_of, front_of, laid_bond, lists_of, weight_in, AreLaid, AreOfBatch, Lists}
use Rattle.pbd_pair.proofs.Laying.{batch_of, laid_back, laid_front}

-- ---- the effective weights of particles

weights_of_fixed : (ps : List Particle) → map effective_weight (fixed_parts ps) ≡ map effective_weight ps
weights_of_fixed [] = refl
weights_of_fixed (p ∷ ps) = ap (λ (ws : List ℕ). effective_weight p ∷ ws) (weights_of_fixed ps)

pub weights_kept : (ps qs : List Particle) → fixed_parts qs ≡ fixed_parts ps → map effective_weight qs ≡ map effective_weight ps
weights_kept ps qs e = sym (weights_of_fixed qs) ∙ ap (λ (l : List Particle). map effective_weight l) e ∙ weights_of_fixed ps

weight_of_map : (ps : List Particle) (i : ℕ) → index_at (map effective_weight ps) i ≡ weight_in ps i
weight_of_map [] i = refl
weight_of_map (p ∷ ps) zero = refl
weight_of_map (p ∷ ps) (suc i) = weight_of_map ps i

pub laid_by_weights : {bond : ℕ → Bond} {weights numbers : List ℕ} {ls : Lists} (ps : List Particle) → weights ≡ map effective_weight ps
    → AreLaid bond (index_at weights) numbers ls → AreLaid bond (weight_in ps) numbers ls
laid_by_weights {bond} {weights} {numbers} {ls} ps e laid = record {
  even = laid.even;
  long = laid.long;
  each = λ j p.
      let b = bond (get_or numbers j 0) in
      laid.each j p ∙ (λ t. laid_bond b (pos (is b.a t)) (pos (is b.b t)));
} where
  is : (i : ℕ) → index_at weights i ≡ weight_in ps i
  is i = ap (λ (ws : List ℕ). index_at ws i) e ∙ weight_of_map ps i

-- ---- parts

-- the first rows, as many as there are numbers
pub first_laid : {bond : ℕ → Bond} {numbers : List ℕ} {ls : Lists} {ps : List Particle} (l : Laid)
    → lists_of l ≡ front_of (length numbers) ls
    → AreLaid bond (weight_in ps) numbers ls → AreOfBatch bond numbers ps l
first_laid {bond} {numbers} {ls} {ps} l e laid = batch_of l e (length-take (length numbers) ls.first ∙ omega (arith, laid.long))
    (laid_front (length numbers) laid) (take-length numbers)

module _ (bond : ℕ → Bond) (ps : List Particle) (xs ys : List ℕ) (l : Laid) (rows : AreOfBatch bond (xs ++ ys) ps l) where
  -- the rows of the first part
  pub front_part : (front : Laid) → lists_of front ≡ front_of (length xs) (lists_of l) → AreOfBatch bond xs ps front
  front_part front e =
      batch_of front e (length-take (length xs) l.first.now ∙ omega (arith, rows.exact, length-append xs ys))
      (laid_front (length xs) rows.laid) (take-append_seam xs ys)

  -- and of the second
  pub back_part : (back : Laid) → lists_of back ≡ back_of (length xs) (lists_of l) → AreOfBatch bond ys ps back
  back_part back e = batch_of back e (length-drop (length xs) l.first.now ∙ omega (arith, rows.exact, length-append xs ys))
      (laid_back (length xs) rows.laid) (drop-append_seam xs ys)
