-- What putting a held particle at a place is refused for, and what it does.
use Rattle.std.proofs.Common.{◌≡◌, ℕ, ℤ, ◌<◌, ◌≤◌, true, false, not, List, [], ◌∷◌, length, slice_set, sym, ◌∙◌, arith, nat_le, Ok, Err}
use Rattle.std.proofs.lemmas.Bool.{le-leb, not-false}
use Rattle.std.proofs.lemmas.Bool.Decides.{nat_tests}
use Rattle.pbd_num.specs.declared.Vec3.{Vec3}
use Rattle.pbd_num.specs.Vectors.{is_within}
use Rattle.pbd_world.specs.declared.command.Refusal.TheVariants as refusals
use Rattle.pbd_world.specs.declared.parts.Particle.{Particle}
use Rattle.pbd_world.specs.declared.command.Command.TheVariants.{Move}
use Rattle.pbd_world.specs.Meaning.{placing, edited, outcome, is_outside, is_free_already, is_on_track}
use Rattle.pbd_world.specs.Outcomes.{unless}
use Rattle.pbd_world.specs.Particles.{particle_at}
use Rattle.pbd_world.specs.World.{World, is_tracked}

module _ (w : World) (i : ℕ) (to : Vec3) where
  pub place_missing : length w.particles ≤ i → outcome w (Move i to) ≡ Err refusals.NoParticle
  place_missing le =
      let none : nat_le (length w.particles) i ≡ true = le-leb (length w.particles) i le in
      λ k. unless ((none k, refusals.NoParticle) ∷ is_outside w to ∷ is_free_already w i ∷ is_on_track w i ∷ [])
      (edited w (placing i to))

  some : i < length w.particles → nat_le (length w.particles) i ≡ false
  some lt = grind (arith, nat_tests)

  pub place_outside : i < length w.particles → is_within w.limit to ≡ false → outcome w (Move i to) ≡ Err refusals.OutOfRange
  place_outside lt within =
      λ k. unless ((some lt k, refusals.NoParticle) ∷ (not (within k), refusals.OutOfRange) ∷ is_free_already w i ∷ is_on_track w i ∷ [])
      (edited w (placing i to))

  pub place_free : i < length w.particles → is_within w.limit to ≡ true → not (particle_at w.particles i).held ≡ true
      → outcome w (Move i to) ≡ Err refusals.NotHeld
  place_free lt within free =
      λ k. unless ((some lt k, refusals.NoParticle) ∷ (not (within k), refusals.OutOfRange) ∷ (free k, refusals.NotHeld) ∷ is_on_track w i
      ∷ []) (edited w (placing i to))

  pub place_led : i < length w.particles → is_within w.limit to ≡ true → not (particle_at w.particles i).held ≡ false
      → is_tracked w.tracks i ≡ true → outcome w (Move i to) ≡ Err refusals.Tracked
  place_led lt within free led =
      λ k. unless ((some lt k, refusals.NoParticle) ∷ (not (within k), refusals.OutOfRange) ∷ (free k, refusals.NotHeld)
      ∷ (led k, refusals.Tracked) ∷ []) (edited w (placing i to))

  -- particle i at rest at the place, and held
  abbrev pub set_down : Particle
  set_down = record { at = to; before = to; weight = (particle_at w.particles i).weight; held = true }

  pub place_done : (limit : ℤ) (ps : List Particle) → i < length w.particles → is_within w.limit to ≡ true
      → not (particle_at w.particles i).held ≡ false → is_tracked w.tracks i ≡ false → limit ≡ w.limit
      → ps ≡ slice_set w.particles i set_down
      → outcome w (Move i to) ≡ Ok (record w { limit = limit; particles = ps })
  place_done limit ps lt within free led same set =
      let held = not-false (particle_at w.particles i).held free in
      let done : outcome w (Move i to) ≡ Ok (record w { limit = w.limit; particles = slice_set w.particles i set_down }) =
      λ k. unless ((some lt k, refusals.NoParticle) ∷ (not (within k), refusals.OutOfRange) ∷ (free k, refusals.NotHeld)
      ∷ (led k, refusals.Tracked) ∷ []) (record w { particles = slice_set w.particles i (record set_down { held = held k }) }) in
      done ∙ (λ k. Ok (record w { limit = sym same k; particles = sym set k }))
