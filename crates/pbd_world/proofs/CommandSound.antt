-- A command leads from a sound world to a sound one of the same scene.
use Rattle.std.proofs.Common.{◌≡◌, refl, sym, ◌∙◌, ℕ, zero, suc, ◌+◌, ◌≤◌, List, arith}
use Rattle.std.specs.Prelude.{Result, Ok, Err, IfOk, IsTrue, Option, Some, None}
use Rattle.pbd_num.specs.declared.Vec3.{Vec3}
use Rattle.pbd_num.specs.Vectors.{is_within}
use Rattle.pbd_world.specs.declared.parts.Link.{Link}
use Rattle.pbd_world.specs.declared.command.Command.{Command}
use Rattle.pbd_world.specs.declared.command.Refusal.{Refusal}
use Rattle.pbd_world.specs.Ledger.{Ledger}
use Rattle.pbd_world.specs.Particles.{particle_at}
use Rattle.pbd_world.specs.Momentum.{IsBalanced}
use Rattle.pbd_world.specs.World.{World, parts_of, IsSound, unchanging, AreOfOneScene}
use Rattle.pbd_world.specs.Outcomes.{repeated}
use Rattle.pbd_world.specs.Meaning.{Edit, Deed, deed, pinned_by, edited, without_link, steps_of, after}
use Rattle.pbd_world.specs.Meaning.Edit.{OnParticle, OnLink, OnGravity}
use Rattle.pbd_world.specs.Meaning.Deed.{Steps, Edits, Answers}
use Rattle.pbd_world.specs.Step.{step}
use Rattle.pbd_world.proofs.KeepingOn.{bind-keeps}
use Rattle.pbd_world.proofs.CountingOn.{ok_weaker}
use Rattle.pbd_world.proofs.CommandBalance.{sound-balanced}
use Rattle.pbd_world.proofs.SameShape.{all_unlive, still_formed, cut_same}
use Rattle.pbd_world.proofs.WorldParts.{formed}
use Rattle.pbd_world.proofs.StepSound.{step_sound}
use Rattle.pbd_world.proofs.OtherParticle.{AgreeButPin, agree_with_itself, set_sound, set_scene}
use Rattle.pbd_world.proofs.Deeds.{Leads, command-leads}
use Rattle.pbd_world.proofs.Allowed.{IsAllowed, IsSafe, particles_fit, allowed}

-- ---- the edits, where the balance is known

abbrev Keeps : World → World → Type 0
Keeps w v = (IsBalanced v.opening v.totals v.particles → IsSound v) × AreOfOneScene w v

-- with other links alive, and with another gravity
reset_sound : (w : World) (ls : List Link) (g : Vec3) → IsSound w → all_unlive ls ≡ all_unlive w.links → IsTrue (is_within w.limit g)
    → IsSound (record w { links = ls; gravity = g })
reset_sound w ls g sound same near = record {
  well_formed = still_formed (parts_of w) w.particles ls g (formed (parts_of w) sound.well_formed) refl (particles_fit w sound) same near;
  tracked = sound.tracked;
  at_rest = sound.at_rest;
  steps = sound.steps;
  contacts = sound.contacts;
  bounded = sound.bounded;
  opening = sound.opening;
  balanced = sound.balanced;
  undamped = sound.undamped;
  one_weight = sound.one_weight;
}

pins_agree : (t : Ledger) (lost : Option Vec3) → AgreeButPin t (pinned_by t lost)
pins_agree t None = agree_with_itself t
pins_agree t (Some v) = record { gravity = refl; damping = refl; link = refl; contact = refl; shape = refl }

edit_keeps : (w : World) (edit : Edit) → IsSound w → IsSafe w edit → Keeps w (edited w edit)
edit_keeps w (OnParticle i change lost) sound safe =
    let p = particle_at w.particles i in
    let t = pinned_by w.totals (lost p) in (
      set_sound w i (change p) t sound safe.there safe.fits (pins_agree w.totals (lost p)),
      set_scene w i (change p) t safe.there safe.fits.weight,
    )
edit_keeps w (OnLink n) sound safe =
    let ls = (without_link w n).links in
    let same : all_unlive ls ≡ all_unlive w.links = cut_same w.links n in
    let back : all_unlive w.links ≡ all_unlive ls = sym same in (
      (λ balance. reset_sound w ls w.gravity sound same (formed (parts_of w) sound.well_formed).gravity),
      (λ i. record (unchanging w) { links = back i }),
    )
edit_keeps w (OnGravity g) sound safe = ((λ balance. reset_sound w w.links g sound refl safe), refl)

-- ---- the commands

steps_sound : (n : ℕ) (w : World) → IsSound w → w.steps + n ≤ 1000000 → IfOk (repeated n step w) (λ v. IsSound v × AreOfOneScene w v)
steps_sound zero w sound l = (sound, refl)
steps_sound (suc n) w sound l =
    bind-keeps (λ v. IsSound v × (v.steps ≡ w.steps + 1) × AreOfOneScene w v) (λ v. IsSound v × AreOfOneScene w v) (step w)
    (repeated n step)
    (step_sound w sound (omega (arith, l)))
    (λ v h. weaker v h.2 (repeated n step v) (steps_sound n v h.0 (omega (arith, l, h.1))))
  where
    weaker : (v : World) → AreOfOneScene w v → (r : Result World Refusal) → IfOk r (λ u. IsSound u × AreOfOneScene v u)
        → IfOk r (λ u. IsSound u × AreOfOneScene w u)
    weaker v e (Ok u) h = (h.0, e ∙ h.1)
    weaker v e (Err f) h = tt

deed_keeps : (w : World) (d : Deed) → IsSound w → IsAllowed w d → Leads (Keeps w) w d
deed_keeps w (Steps n) sound allows =
    ok_weaker (λ v. IsSound v × AreOfOneScene w v) (Keeps w) (steps_of n w) (λ v h. ((λ balance. h.0), h.1)) (steps_sound n w sound allows.1)
deed_keeps w (Edits edit) sound allows = edit_keeps w edit sound allows
deed_keeps w (Answers reply) sound allows = tt

command_keeps : (w : World) (c : Command) → IsSound w → Keeps w (after w c)
command_keeps w c s =
    command-leads (Keeps w) w c ((λ balance. s), refl) (λ es. deed_keeps w (deed c) s (allowed w c s es))

pub command-sound : (w : World) (c : Command) → IsSound w → IsSound (after w c)
command-sound w c s = (command_keeps w c s).0 (sound-balanced w c s)

pub command-scene : (w : World) (c : Command) → IsSound w → AreOfOneScene w (after w c)
command-scene w c s = (command_keeps w c s).1
