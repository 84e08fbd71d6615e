-- A link that is gone stays gone.
use Rattle.std.proofs.Common.{◌≡◌, refl, ap, ℕ, zero, suc, false, not, ◌&&◌, List, [], ◌∷◌}
use Rattle.std.specs.Prelude.{slice_set as set}
use Rattle.pbd_world.specs.declared.parts.Particle.{Particle}
use Rattle.pbd_world.specs.declared.parts.Link.{Link}
use Rattle.pbd_world.specs.declared.command.Command.{Command}
use Rattle.pbd_world.specs.World.{World}
use Rattle.pbd_world.specs.Bonds.{link_at}
use Rattle.pbd_world.specs.Step.{is_torn, tear, step}
use Rattle.pbd_world.specs.Meaning.{Deed, deed, after}
use Rattle.pbd_world.specs.Meaning.Edit.{OnLink}
use Rattle.pbd_world.specs.Meaning.Deed.{Steps, Edits, Answers}
use Rattle.pbd_world.specs.Session.{last_world}
use Rattle.pbd_world.proofs.KeepingOn.{repeat-keeps}
use Rattle.pbd_world.proofs.StepsLead.{step-leads}
use Rattle.pbd_world.proofs.Deeds.{Leads, command-leads}

abbrev IsGone : ℕ → World → Type 0
IsGone n w = (link_at w.links n).live ≡ false

torn_gone : (ps : List Particle) (ls : List Link) (n : ℕ) → (link_at ls n).live ≡ false → (link_at (tear ps ls) n).live ≡ false
unfolding tear
torn_gone ps [] n h = refl
torn_gone ps (l ∷ ls) zero h = ap (λ b. b && not (is_torn ps l)) h
torn_gone ps (l ∷ ls) (suc n) h = torn_gone ps ls n h

cut_gone : (ls : List Link) (k n : ℕ) → (link_at ls n).live ≡ false
    → (link_at (set ls k (record (link_at ls k) { live = false })) n).live ≡ false
cut_gone [] zero n h = refl
cut_gone [] (suc k) n h = refl
cut_gone (l ∷ ls) zero zero h = refl
cut_gone (l ∷ ls) zero (suc n) h = h
cut_gone (l ∷ ls) (suc k) zero h = h
cut_gone (l ∷ ls) (suc k) (suc n) h = cut_gone ls k n h

deed_gone : (n : ℕ) (w : World) (d : Deed) → IsGone n w → Leads (IsGone n) w d
deed_gone n w (Steps k) h =
    repeat-keeps (IsGone n) step (λ u i. step-leads (IsGone n) u (λ pairs m. torn_gone m.particles u.links n i)) k w h
deed_gone n w (Edits (OnLink k)) h = cut_gone w.links k n h
deed_gone n w (Edits edit) h = h
deed_gone n w (Answers reply) h = tt

command_gone : (n : ℕ) (w : World) (c : Command) → IsGone n w → IsGone n (after w c)
command_gone n w c h = command-leads (IsGone n) w c h (λ es. deed_gone n w (deed c) h)

pub session-gone : (w : World) (n : ℕ) (cs : List Command) → (link_at w.links n).live ≡ false
    → (link_at (last_world w cs).links n).live ≡ false
session-gone w n [] h = h
session-gone w n (c ∷ cs) h = session-gone (after w c) n cs (command_gone n w c h)
