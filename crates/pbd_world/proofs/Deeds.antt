-- What holds of the world that a command comes to, by what it does.
use Rattle.std.proofs.Common.{◌≡◌, refl, ap, Bool, true, false, List, [], ◌∷◌}
use Rattle.std.specs.Prelude.{Result, Ok, Err, IfOk, if◌then◌else◌}
use Rattle.std.specs.List.{AllByRecursion}
use Rattle.pbd_world.specs.declared.command.Command.{Command}
use Rattle.pbd_world.specs.declared.command.Refusal.{Refusal}
use Rattle.pbd_world.specs.declared.command.Reply.{Reply}
use Rattle.pbd_world.specs.declared.command.Reply.TheVariants as replies
use Rattle.pbd_world.specs.World.{World}
use Rattle.pbd_world.specs.Outcomes.{◌>>=◌, unless}
use Rattle.pbd_world.specs.Meaning.{Deed, deed, edited, refusals, steps_of, unless_refused, outcome, answer, done_or_refused, meaning, after}
use Rattle.pbd_world.specs.Meaning.{reply}
use Rattle.pbd_world.specs.Meaning.Deed.{Steps, Edits, Answers}

-- ---- where no test refuses

abbrev pub NoneHolds : {E : Type 0} → List (Bool × E) → Type 0
NoneHolds {E} tests = AllByRecursion {X = Bool × E} (λ t. t.0 ≡ false) tests

refused_by : {A E : Type 0} (P : A → Type 0) (b : Bool) (e : E) (r : Result A E) → (b ≡ false → IfOk r P) → IfOk (if b then Err e else r) P
refused_by P true e r h = tt
refused_by P false e r h = h refl

pub unless-keeps : {A E : Type 0} (P : A → Type 0) (tests : List (Bool × E)) (x : A) → (NoneHolds tests → P x) → IfOk (unless tests x) P
unless-keeps P [] x h = h tt
unless-keeps P (t ∷ tests) x h = refused_by P t.0 t.1 (unless tests x) (λ e. unless-keeps P tests x (λ es. h (e, es)))

then_by : {A B E : Type 0} (P : B → Type 0) (b : Bool) (e : E) (r : Result A E) (f : A → Result B E) → (b ≡ false → IfOk (r >>= f) P)
    → IfOk ((if b then Err e else r) >>= f) P
then_by P true e r f h = tt
then_by P false e r f h = h refl

pub unless-goes_on : {A B E : Type 0} (P : B → Type 0) (tests : List (Bool × E)) (x : A) (f : A → Result B E)
    → (NoneHolds tests → IfOk (f x) P) → IfOk (unless tests x >>= f) P
unless-goes_on P [] x f h = h tt
unless-goes_on P (t ∷ tests) x f h =
    then_by P t.0 t.1 (unless tests x) f (λ e. unless-goes_on P tests x f (λ es. h (e, es)))

-- ---- what a world and what its steps and edits keep, a command keeps

-- what is to be shown of a deed
abbrev pub Leads : (World → Type 0) → World → Deed → Type 0
Leads P w (Steps n) = IfOk (steps_of n w) P
Leads P w (Edits edit) = P (edited w edit)
Leads P w (Answers reply) = Unit {0}

deed-leads : (P : World → Type 0) (w : World) (tests : List (Bool × Refusal)) (d : Deed) → P w → (NoneHolds tests → Leads P w d)
    → IfOk (unless_refused w tests d) P
deed-leads P w tests (Steps n) h leads = unless-goes_on P tests w (steps_of n) leads
deed-leads P w tests (Edits edit) h leads = unless-keeps P tests (edited w edit) leads
deed-leads P w tests (Answers reply) h leads = unless-keeps P tests w (λ es. h)

pub outcome-leads : (P : World → Type 0) (w : World) (c : Command) → P w → (NoneHolds (refusals w c) → Leads P w (deed c))
    → IfOk (outcome w c) P
outcome-leads P w c = deed-leads P w (refusals w c) (deed c)

pub done-leads : (P : World → Type 0) (w : World) (c : Command) → P w → IfOk (outcome w c) P → P (after w c)
unfolding meaning
done-leads P w c h k = leads_by_outcome (outcome w c) k
  where
    leads_by_outcome : (r : Result World Refusal) → IfOk r P → P (done_or_refused w (answer (deed c)) r).0
    leads_by_outcome (Ok v) j = j
    leads_by_outcome (Err e) j = h

pub command-leads : (P : World → Type 0) (w : World) (c : Command) → P w → (NoneHolds (refusals w c) → Leads P w (deed c)) → P (after w c)
command-leads P w c h leads = done-leads P w c h (outcome-leads P w c h leads)

-- ---- the world and the reply, where it is known how a command ends

pub done-world : (w v : World) (c : Command) → outcome w c ≡ Ok v → after w c ≡ v
unfolding meaning
done-world w v c is = ap (λ (r : Result World Refusal). (done_or_refused w (answer (deed c)) r).0) is

pub done-reply : (w v : World) (c : Command) → outcome w c ≡ Ok v → reply w c ≡ answer (deed c)
unfolding meaning
done-reply w v c is = ap (λ (r : Result World Refusal). (done_or_refused w (answer (deed c)) r).1) is

pub refused-world : (w : World) (c : Command) (refusal : Refusal) → outcome w c ≡ Err refusal → after w c ≡ w
unfolding meaning
refused-world w c refusal is = ap (λ (r : Result World Refusal). (done_or_refused w (answer (deed c)) r).0) is

pub refused-reply : (w : World) (c : Command) (refusal : Refusal) → outcome w c ≡ Err refusal → reply w c ≡ replies.Refused refusal
unfolding meaning
refused-reply w c refusal is = ap (λ (r : Result World Refusal). (done_or_refused w (answer (deed c)) r).1) is

-- ---- a refused command keeps the world

stays_by : (w : World) (a : Reply) (b : Bool) (e : Refusal) (r : Result World Refusal) → (done_or_refused w a r).0 ≡ w
    → (done_or_refused w a (if b then Err e else r)).0 ≡ w
stays_by w a true e r h = refl
stays_by w a false e r h = h

answered-stays : (w : World) (a : Reply) (tests : List (Bool × Refusal)) → (done_or_refused w a (unless tests w)).0 ≡ w
answered-stays w a [] = refl
answered-stays w a (t ∷ tests) = stays_by w a t.0 t.1 (unless tests w) (answered-stays w a tests)

kept_by : (w : World) (r : Result World Refusal) (refusal : Refusal) → (done_or_refused w replies.Done r).1 ≡ replies.Refused refusal
    → (done_or_refused w replies.Done r).0 ≡ w
kept_by w (Ok v) refusal h = absurd (cc)
kept_by w (Err e) refusal h = refl

refused_stays : (w : World) (tests : List (Bool × Refusal)) (d : Deed) (refusal : Refusal)
    → (done_or_refused w (answer d) (unless_refused w tests d)).1 ≡ replies.Refused refusal
    → (done_or_refused w (answer d) (unless_refused w tests d)).0 ≡ w
refused_stays w tests (Steps n) refusal h = kept_by w (unless tests w >>= steps_of n) refusal h
refused_stays w tests (Edits edit) refusal h = kept_by w (unless tests (edited w edit)) refusal h
refused_stays w tests (Answers reply) refusal h = answered-stays w reply tests

pub refused-keeps : (w : World) (command : Command) (refusal : Refusal) → reply w command ≡ replies.Refused refusal → after w command ≡ w
unfolding meaning
refused-keeps w command refusal h = refused_stays w (refusals w command) (deed command) refusal h
