-- A step, part by part.
use Rattle.std.proofs.Common.{◌≡◌, refl, sym, ap, ◌∙◌, ℕ, zero, suc, ◌+◌, ◌<◌, ◌≤◌, Bool, true, false, List, [], ◌∷◌, length, map}
use Rattle.std.proofs.Common.{replicate, arith, subst, MatchResult, Result, Ok, Err}
use Rattle.std.specs.Prelude.{nat_lt, if◌then◌else◌}
use Rattle.std.proofs.lemmas.Bool.{ltb-true, ltb-false}
use Rattle.pbd_world.specs.declared.parts.Particle.{Particle}
use Rattle.pbd_world.specs.declared.parts.Link.{Link}
use Rattle.pbd_world.specs.declared.command.Refusal.{Refusal}
use Rattle.pbd_world.specs.declared.command.Refusal.TheVariants as refusals
use Rattle.pbd_world.specs.declared.command.Phase.TheVariants as phases
use Rattle.pbd_world.specs.Ledger.{Ledger}
use Rattle.pbd_world.specs.Outcomes.{◌>>=◌, repeated, with_fault}
use Rattle.pbd_world.specs.Particles.{Motion}
use Rattle.pbd_world.specs.World.{World}
use Rattle.pbd_world.specs.Contacts.{contacts_of}
use Rattle.pbd_world.specs.Step.{Passing, untouched, pass, rub, settled, step, predict, leaves, after_contacts}
use Rattle.pbd_step.specs.Stepping.{finished}
use Rattle.pbd_step.proofs.Passes.{same_pass}

-- ---- the end of a step

no_flags : (n : ℕ) (ps : List Particle) → n ≡ length ps → replicate n false ≡ map {A = Particle} {B = Bool} (λ p. false) ps
no_flags zero [] e = refl
no_flags zero (p ∷ ps) e = absurd (omega (arith, e))
no_flags (suc n) [] e = absurd (omega (arith, e))
no_flags (suc n) (p ∷ ps) e = ap (λ (fs : List Bool). false ∷ fs) (no_flags n ps (omega (arith, e)))

go_on : (w : World) (pairs : List (ℕ × ℕ)) (r s : Result Passing Refusal) → r ≡ s
    → (r >>= λ (p : Passing). Ok (settled w pairs (rub w.friction p))) ≡ (s >>= λ (p : Passing). Ok (settled w pairs (rub w.friction p)))
go_on w pairs r s e = ap (λ (x : Result Passing Refusal). x >>= λ (p : Passing). Ok (settled w pairs (rub w.friction p))) e

pub finished_is : (w : World) (pairs : List (ℕ × ℕ)) (m : Motion) (flags : List Bool) (r : Result Passing Refusal) {n : ℕ}
    → n ≡ length m.particles → flags ≡ replicate n false
    → repeated w.passes (pass w pairs) (record { motion = m; touched = flags }) ≡ r
    → finished w pairs m ≡ (r >>= λ (p : Passing). Ok (settled w pairs (rub w.friction p)))
finished_is w pairs m flags r {n} many e h = go_on w pairs (repeated w.passes (pass w pairs) (untouched m)) r
    (ap (λ (fs : List Bool). repeated w.passes (pass w pairs) (record { motion = m; touched = fs })) (sym (e ∙ no_flags n m.particles many)) ∙ h)

-- ---- the whole step

passes_same : (w : World) (ps : List Particle) (t : Ledger) (pairs : List (ℕ × ℕ)) (n : ℕ) (s : Passing)
    → repeated n (pass (record w { particles = ps; totals = t }) pairs) s ≡ repeated n (pass w pairs) s
passes_same w ps t pairs zero s = refl
passes_same w ps t pairs (suc n) s = ap (λ (r : Result Passing Refusal).
    r >>= repeated n (pass (record w { particles = ps; totals = t }) pairs))
    (same_pass w (record w { particles = ps; totals = t }) ps t pairs s refl) ∙ later_passes_same (pass w pairs s) (λ p. passes_same w ps t pairs n p)
  where
    later_passes_same : (r : Result Passing Refusal) → ((p : Passing) → repeated n (pass (record w { particles = ps; totals = t }) pairs) p
        ≡ repeated n (pass w pairs) p) → (r >>= repeated n (pass (record w { particles = ps; totals = t }) pairs))
        ≡ (r >>= repeated n (pass w pairs))
    later_passes_same (Ok p) f = f p
    later_passes_same (Err e) f = refl

-- it ends alike wherever the particles are at its start
pub finished_same : (w : World) (ps : List Particle) (t : Ledger) (pairs : List (ℕ × ℕ)) (m : Motion)
    → finished (record w { particles = ps; totals = t }) pairs m ≡ finished w pairs m
finished_same w ps t pairs m = go_on w pairs (repeated w.passes (pass (record w { particles = ps; totals = t }) pairs) (untouched m))
    (repeated w.passes (pass w pairs) (untouched m)) (passes_same w ps t pairs w.passes (untouched m))

few_contacts : (w : World) (pairs : List (ℕ × ℕ)) (m : Motion) → length pairs ≤ 262144 → after_contacts w m pairs ≡ finished w pairs m
few_contacts w pairs m few = finished_by_count (nat_lt 262144 (length pairs)) refl
  where
    finished_by_count : (b : Bool) → nat_lt 262144 (length pairs) ≡ b → (if b then Err (refusals.TooManyContacts (w.steps + 1)) else finished w pairs m)
        ≡ finished w pairs m
    finished_by_count true e = absurd (omega (arith, few, ltb-true 262144 (length pairs) e))
    finished_by_count false e = refl

many_contacts : (w : World) (pairs : List (ℕ × ℕ)) (m : Motion) → 262144 < length pairs
    → after_contacts w m pairs ≡ Err (refusals.TooManyContacts (w.steps + 1))
many_contacts w pairs m many = refused_by_count (nat_lt 262144 (length pairs)) refl
  where
    refused_by_count : (b : Bool) → nat_lt 262144 (length pairs) ≡ b → (if b then Err (refusals.TooManyContacts (w.steps + 1)) else finished w pairs m)
        ≡ Err (refusals.TooManyContacts (w.steps + 1))
    refused_by_count true e = refl
    refused_by_count false e = absurd (omega (arith, many, ltb-false 262144 (length pairs) e))

predicted : (w : World) (r : Result Motion Refusal) → with_fault (leaves w phases.Predict) (predict w) ≡ r
    → step w ≡ (r >>= λ (m : Motion). after_contacts w m (contacts_of w.thickness w.links m.particles))
unfolding step
predicted w r e = ap (λ (x : Result Motion Refusal). x >>= λ (m : Motion). after_contacts w m (contacts_of w.thickness w.links m.particles))
    e

pub step_leaves : (w : World) (refusal : Refusal) → with_fault (leaves w phases.Predict) (predict w) ≡ Err refusal → step w ≡ Err refusal
step_leaves w refusal e = predicted w (Err refusal) e

-- with the contacts of the places to which predicting has led
contacts_same : (w : World) (m : Motion) (links : List Link) → links ≡ w.links
    → contacts_of w.thickness links m.particles ≡ contacts_of w.thickness w.links m.particles
contacts_same w m links e = ap (λ (ls : List Link). contacts_of w.thickness ls m.particles) e

pub step_crowds : (w : World) (m : Motion) (links : List Link) (refusal : Refusal) (n : ℕ)
    → with_fault (leaves w phases.Predict) (predict w) ≡ Ok m → links ≡ w.links → n ≡ w.steps
    → (262144 < length (contacts_of w.thickness links m.particles)) × (refusal ≡ refusals.TooManyContacts (n + 1)) → step w ≡ Err refusal
step_crowds w m links refusal n e same steps (many, is) =
    predicted w (Ok m) e ∙ many_contacts w (contacts_of w.thickness w.links m.particles) m
    (subst (λ (pairs : List (ℕ × ℕ)). 262144 < length pairs) (contacts_same w m links same) many)
    ∙ ap (λ (k : ℕ). Err (refusals.TooManyContacts (k + 1))) (sym steps) ∙ ap (λ (r : Refusal). Err r) (sym is)

pub step_finishes : (w v : World) (m : Motion) (links : List Link) (pairs : List (ℕ × ℕ))
    → with_fault (leaves w phases.Predict) (predict w) ≡ Ok m → links ≡ w.links
    → length (contacts_of w.thickness links m.particles) ≤ 262144
    → pairs ≡ contacts_of w.thickness links m.particles → v ≡ record w { particles = m.particles; totals = m.totals }
    → step w ≡ finished v pairs m
step_finishes w v m links pairs e same few is moved =
    let all = contacts_of w.thickness w.links m.particles in
    predicted w (Ok m) e ∙ few_contacts w all m (subst (λ (xs : List (ℕ × ℕ)). length xs ≤ 262144) (contacts_same w m links same) few)
    ∙ sym (finished_same w m.particles m.totals all m)
    ∙ ap (λ (u : World). finished u all m) (sym moved) ∙ ap (λ (xs : List (ℕ × ℕ)). finished v xs m)
    (sym (is ∙ contacts_same w m links same))

-- what a call answers as one definition it answers as another that is the same
pub answers_so : {T : Type 0} (r : Result T Refusal) (b : Result World Refusal) (good : World) (a : Result World Refusal) → b ≡ a
    → MatchResult r (λ x. a ≡ Ok good) (λ refusal. a ≡ Err refusal) → MatchResult r (λ x. b ≡ Ok good) (λ refusal. b ≡ Err refusal)
answers_so {T} r b good a e h = subst (λ (s : Result World Refusal). MatchResult r (λ x. s ≡ Ok good) (λ refusal. s ≡ Err refusal))
    (sym e) h
