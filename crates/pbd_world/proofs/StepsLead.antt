-- What holds of the world that a step comes to.
use Rattle.std.proofs.Common.{ℕ, ◌+◌, Bool, true, false, List, length, ◌≡◌, refl}
use Rattle.std.specs.Prelude.{Result, Ok, Err, IfOk, if◌then◌else◌, nat_lt}
use Rattle.pbd_world.specs.declared.command.Phase.TheVariants as phases
use Rattle.pbd_world.specs.declared.command.Refusal.TheVariants.{TooManyContacts}
use Rattle.pbd_world.specs.World.{World}
use Rattle.pbd_world.specs.Outcomes.{◌>>=◌, with_fault, repeated}
use Rattle.pbd_world.specs.Particles.{Motion}
use Rattle.pbd_world.specs.Contacts.{contacts_of}
use Rattle.pbd_world.specs.Step.{predict, leaves, Passing, pass, untouched, rub, settled, after_contacts, step}
use Rattle.pbd_world.proofs.KeepingOn.{bind-keeps, fault-keeps, repeat-keeps}

unless_many : {A E : Type 0} (P : A → Type 0) (many : Bool) (e : E) (r : Result A E) → IfOk r P → IfOk (if many then Err e else r) P
unless_many P true e r h = tt
unless_many P false e r h = h

-- what each pass keeps, from the start of a step to the motion that friction is rubbed into
pub step-keeps : (w : World) (P : Motion → Type 0) (Q : Passing → Type 0) (R : World → Type 0)
    → IfOk (predict w) P
    → ((m : Motion) → P m → Q (untouched m))
    → ((pairs : List (ℕ × ℕ)) (s : Passing) → Q s → IfOk (pass w pairs s) Q)
    → ((pairs : List (ℕ × ℕ)) (s : Passing) → Q s → R (settled w pairs (rub w.friction s)))
    → IfOk (step w) R
unfolding step
step-keeps w P Q R first begins goes ends =
    bind-keeps P R (with_fault (leaves w phases.Predict) (predict w))
    (λ m. after_contacts w m (contacts_of w.thickness w.links m.particles))
    (fault-keeps P (leaves w phases.Predict) (predict w) first)
    (λ m h.
    let pairs = contacts_of w.thickness w.links m.particles in
    unless_many R (nat_lt 262144 (length pairs)) (TooManyContacts (w.steps + 1))
    (repeated w.passes (pass w pairs) (untouched m) >>= λ s. Ok (settled w pairs (rub w.friction s)))
    (bind-keeps Q R (repeated w.passes (pass w pairs) (untouched m)) (λ s. Ok (settled w pairs (rub w.friction s)))
    (repeat-keeps Q (pass w pairs) (λ s k. goes pairs s k) w.passes (untouched m) (begins m h))
    (λ s k. ends pairs s k)))

anything : {A E : Type 0} (r : Result A E) → IfOk r (λ x. Unit {0})
anything (Ok x) = tt
anything (Err e) = tt

-- what holds of each end of a step, whatever the passes did
pub step-leads : (R : World → Type 0) (w : World) → ((pairs : List (ℕ × ℕ)) (m : Motion) → R (settled w pairs m)) → IfOk (step w) R
step-leads R w ends =
    step-keeps w (λ m. Unit {0}) (λ s. Unit {0}) R (anything (predict w)) (λ m h. tt) (λ pairs s h. anything (pass w pairs s))
    (λ pairs s h. ends pairs (rub w.friction s))

-- each step counts once
pub step_counts : (w : World) → IfOk (step w) (λ v. v.steps ≡ w.steps + 1)
step_counts w = step-leads (λ v. v.steps ≡ w.steps + 1) w (λ pairs m. refl)
