-- What a refusal tells of a step fits its types.
use Rattle.std.proofs.Common.{◌≡◌, ◌∙◌, refl, ℕ, zero, suc, ◌+◌, ◌<◌, ◌≤◌, ◌^◌, Bool, true, false, cond, List, [], ◌∷◌, length, map, Option}
use Rattle.std.proofs.Common.{Some, None, Result, Ok, Err, arith}
use Rattle.std.specs.Prelude.{IfOk, IfErr, IsTrue, MatchResult, nat_le, nat_lt}
use Rattle.std.specs.List.{AllByRecursion, list_all}
use Rattle.std.proofs.lemmas.List.{length-set}
use Rattle.std.proofs.lemmas.Bool.{ltb-false, leb-true, and_parts, false≢true}
use Rattle.pbd_world.specs.declared.parts.Particle.{Particle}
use Rattle.pbd_world.specs.declared.parts.Link.{Link}
use Rattle.pbd_world.specs.declared.bond.Bond.{Bond}
use Rattle.pbd_world.specs.declared.bond.Correction.{Correction}
use Rattle.pbd_world.specs.declared.bond.Correction.TheVariants.{Slack, Leaves, Moves}
use Rattle.pbd_world.specs.declared.command.Command.{Command}
use Rattle.pbd_world.specs.declared.command.Command.TheVariants as commands
use Rattle.pbd_world.specs.declared.command.Reply.{Reply}
use Rattle.pbd_world.specs.declared.command.Reply.TheVariants as replies
use Rattle.pbd_world.specs.declared.command.Phase.{Phase}
use Rattle.pbd_world.specs.declared.command.Phase.TheVariants as phases
use Rattle.pbd_world.specs.declared.command.Refusal.{Refusal}
use Rattle.pbd_world.specs.declared.command.Refusal.TheVariants.{LeavesRange, TooManyContacts}
use Rattle.pbd_world.specs.Outcomes.{◌>>=◌, with_fault, in_turn, repeated, one_more, each_from, unless}
use Rattle.pbd_world.specs.Particles.{Motion, Moved, all_moved}
use Rattle.pbd_world.specs.World.{World, AreOfOneScene, IsSound, parts_of}
use Rattle.pbd_world.specs.Bonds.{corrected, correction_at, link_bond, contact_bond, one, projected}
use Rattle.pbd_world.specs.Colours.{order}
use Rattle.pbd_world.specs.Contacts.{contacts_of, link_pairs, live_flags}
use Rattle.pbd_world.specs.Shapes.{Shaped, shaped, shapes_of}
use Rattle.pbd_world.specs.Step.{step, leaves, predict, predicted, after_contacts, link_part, contact_part, shape_part, all_shaped, pass}
use Rattle.pbd_world.specs.Step.{untouched, settled, rub, Passing}
use Rattle.pbd_world.specs.Meaning.{Deed, deed, edited, refusals, steps_of, unless_refused, outcome, answer, done_or_refused, meaning, reply}
use Rattle.pbd_world.specs.Meaning.Deed.{Steps, Edits, Answers}
use Rattle.pbd_world.proofs.KeepingOn.{length-mapped}
use Rattle.pbd_world.proofs.StepBalance.{all-order}
use Rattle.pbd_world.proofs.StepSound.{step_sound}
use Rattle.pbd_world.proofs.Deeds.{NoneHolds, unless-keeps}
use Rattle.pbd_world.proofs.Allowed.{IsAllowed, allowed}
use Rattle.pbd_world.proofs.CountingOn.{ok_weaker}
use Rattle.pbd_world.proofs.WorldParts.{formed}

-- its step and its element
abbrev pub RefusalFits : Refusal → Type 0
RefusalFits (LeavesRange step phase element) = (step < 2 ^ 64) × (element < 2 ^ 32)
RefusalFits (TooManyContacts step) = step < 2 ^ 64
RefusalFits refusal = Unit {0}

-- ---- what holds of a value or of a fault, one call after another

bind_ends : {A B E : Type 0} (P : A → Type 0) (R : B → Type 0) (Q : E → Type 0) (r : Result A E) (f : A → Result B E) → MatchResult r P Q
    → ((x : A) → P x → MatchResult (f x) R Q) → MatchResult (r >>= f) R Q
bind_ends P R Q (Ok x) f h k = k x h
bind_ends P R Q (Err e) f h k = h

fault_ends : {A E F : Type 0} (P : A → Type 0) (Q : E → Type 0) (R : F → Type 0) (g : E → F) (r : Result A E) → MatchResult r P Q
    → ((e : E) → Q e → R (g e)) → MatchResult (with_fault g r) P R
fault_ends P Q R g (Ok x) h k = h
fault_ends P Q R g (Err e) h k = k e h

turn_ends : {A S E : Type 0} (P : S → Type 0) (Q : E → Type 0) (T : A → Type 0) (f : A → S → Result S E)
    → ((x : A) (s : S) → T x → P s → MatchResult (f x s) P Q) → (xs : List A) → AllByRecursion T xs → (s : S) → P s
    → MatchResult (in_turn f xs s) P Q
turn_ends P Q T f k [] all s h = h
turn_ends P Q T f k (x ∷ xs) all s h = bind_ends P P Q (f x s) (in_turn f xs) (k x s all.0 h) (λ t u. turn_ends P Q T f k xs all.1 t u)

repeat_ends : {S E : Type 0} (P : S → Type 0) (Q : E → Type 0) (f : S → Result S E) → ((s : S) → P s → MatchResult (f s) P Q)
    → (n : ℕ) (s : S) → P s → MatchResult (repeated n f s) P Q
repeat_ends P Q f k zero s h = h
repeat_ends P Q f k (suc n) s h = bind_ends P P Q (f s) (repeated n f) (k s h) (λ t u. repeat_ends P Q f k n t u)

more_ends : {B : Type 0} (n k : ℕ) (o : Option B) (r : Result (List B) ℕ) → MatchResult r (λ ys. length ys ≡ k) (λ e. e < n + 1 + k)
    → MatchResult (one_more n o r) (λ ys. length ys ≡ suc k) (λ e. e < n + suc k)
more_ends n k None r h = omega arith
more_ends n k (Some y) (Ok ys) h = omega (arith, h)
more_ends n k (Some y) (Err e) h = omega (arith, h)

each_ends : {A B : Type 0} (f : ℕ → A → Option B) (n : ℕ) (xs : List A)
    → MatchResult (each_from n f xs) (λ ys. length ys ≡ length xs) (λ e. e < n + length xs)
each_ends f n [] = refl
each_ends f n (x ∷ xs) = more_ends n (length xs) (f n x) (each_from (n + 1) f xs) (each_ends f (n + 1) xs)

err_weaker : {A E : Type 0} (P : A → Type 0) (Q R : E → Type 0) (r : Result A E) → ((e : E) → Q e → R e) → MatchResult r P Q
    → MatchResult r P R
err_weaker P Q R (Ok x) k h = h
err_weaker P Q R (Err e) k h = k e h

all_end : {A B : Type 0} (f : ℕ → A → Option B) (xs : List A)
    → MatchResult (each_from 0 f xs) (λ ys. length ys ≡ length xs) (λ e. e < length xs)
all_end f xs = err_weaker (λ ys. length ys ≡ length xs) (λ e. e < 0 + length xs) (λ e. e < length xs) (each_from 0 f xs)
    (λ e below. omega (arith, below)) (each_ends f 0 xs)

both_ends : {A E : Type 0} (P : A → Type 0) (Q : E → Type 0) (r : Result A E) → IfOk r P → IfErr r Q → MatchResult r P Q
both_ends P Q (Ok x) h k = h
both_ends P Q (Err e) h k = k

only_err : {A E : Type 0} (P : A → Type 0) (Q : E → Type 0) (r : Result A E) → MatchResult r P Q → IfErr r Q
only_err P Q (Ok x) h = tt
only_err P Q (Err e) h = h

-- ---- the parts of a step: as many particles as before, or the number of one of the elements

abbrev HasMany : ℕ → Motion → Type 0
HasMany n m = length m.particles ≡ n

predict_ends : (w : World) → MatchResult (predict w) (HasMany (length w.particles)) (λ e. e < length w.particles)
unfolding predict
predict_ends w =
    bind_ends (λ ms. length ms ≡ length w.particles) (HasMany (length w.particles)) (λ e. e < length w.particles)
    (each_from 0 (predicted w) w.particles) (λ ms. Ok (all_moved w.totals ms))
    (all_end (predicted w) w.particles)
    (λ ms many. length-mapped {A = Moved} {B = Particle} (λ m. m.particle) ms ∙ many)

bond_ends : (k number most : ℕ) (bond : Bond) (c : Correction) (m : Motion) → number < most → HasMany k m
    → MatchResult (corrected number bond c m) (HasMany k) (λ e. e < most)
bond_ends k number most bond Slack m below many = many
bond_ends k number most bond Leaves m below many = below
bond_ends k number most bond (Moves s) m below many = length-set _ bond.b _ ∙ length-set m.particles bond.a _ ∙ many

one_ends : (limit : _) (bond : ℕ → Bond) (k number most : ℕ) (m : Motion) → number < most → HasMany k m
    → MatchResult (one limit bond number m) (HasMany k) (λ e. e < most)
unfolding one
one_ends limit bond k number most m below many = bond_ends k number most (bond number)
    (correction_at limit m.particles (bond number)) m below many

projected_ends : (limit : _) (bond : ℕ → Bond) (pairs : List (ℕ × ℕ)) (live : List Bool) (k : ℕ) (m : Motion) → HasMany k m
    → MatchResult (projected limit bond (order pairs live) m) (HasMany k) (λ e. e < length pairs)
projected_ends limit bond pairs live k m many =
    turn_ends (HasMany k) (λ e. e < length pairs) (λ e. e < length pairs) (one limit bond)
    (λ number s below has. one_ends limit bond k number (length pairs) s below has)
    (order pairs live) (all-order (λ e. e < length pairs) pairs live (λ e below. below)) m many

shape_ends : (w : World) (s : Passing) (k : ℕ) → HasMany k s.motion
    → MatchResult (shape_part w s) (λ t. HasMany k t.motion) (λ e. e < length s.motion.particles)
shape_ends w s k many =
    let ps : List Particle = s.motion.particles in
    bind_ends (λ ss. length ss ≡ length ps) (λ t. HasMany k t.motion) (λ e. e < length ps)
    (each_from 0 (λ i p. shaped w.limit (shapes_of w.shapes) p) ps) (λ ss. Ok (all_shaped s ss))
    (all_end (λ i p. shaped w.limit (shapes_of w.shapes) p) ps)
    (λ ss same. length-mapped {A = Moved} {B = Particle} (λ m. m.particle) (map {A = Shaped} {B = Moved} (λ x. x.moved) ss)
    ∙ length-mapped {A = Shaped} {B = Moved} (λ x. x.moved) ss ∙ same ∙ many)

-- ---- a step

-- a world whose parts are few enough to be numbered
pub record IsSmall (w : World) : Type 0 where
  pub steps : w.steps ≤ 1000000
  pub particles : length w.particles ≤ 65536
  pub links : length w.links ≤ 524288

leaves_fits : (w : World) (phase : Phase) (element most : ℕ) → IsSmall w → most ≤ 524288 → element < most
    → RefusalFits (leaves w phase element)
leaves_fits w phase element most small few below = (omega (arith, small.steps), omega (arith, few, below))

pass_ends : (w : World) (pairs : List (ℕ × ℕ)) (s : Passing) → IsSmall w → length pairs ≤ 262144 → HasMany (length w.particles) s.motion
    → MatchResult (pass w pairs s) (λ t. HasMany (length w.particles) t.motion) RefusalFits
unfolding pass
pass_ends w pairs s small few many =
    let n = length w.particles in
    let lines : length (link_pairs w.links) ≤ 524288 = omega
    (arith, small.links, length-mapped {A = Link} {B = ℕ × ℕ} (λ l. (l.a, l.b)) w.links) in
    bind_ends (HasMany n) (λ t. HasMany n t.motion) RefusalFits (with_fault (leaves w phases.Link) (link_part w s.motion)) _
    (fault_ends (HasMany n) (λ e. e < length (link_pairs w.links)) RefusalFits (leaves w phases.Link) (link_part w s.motion)
    (projected_ends w.limit (link_bond w.links) (link_pairs w.links) (live_flags w.links) n s.motion many)
    (λ e below. leaves_fits w phases.Link e (length (link_pairs w.links)) small lines below))
    (λ m more. bind_ends (HasMany n) (λ t. HasMany n t.motion) RefusalFits (with_fault (leaves w phases.Contact) (contact_part w pairs m)) _
    (fault_ends (HasMany n) (λ e. e < length pairs) RefusalFits (leaves w phases.Contact) (contact_part w pairs m)
    (projected_ends w.limit (contact_bond w.thickness pairs) pairs (map (λ pair. true) pairs) n m more)
    (λ e below. leaves_fits w phases.Contact e (length pairs) small (omega (arith, few)) below))
    (λ l last. fault_ends (λ t. HasMany n t.motion) (λ e. e < length l.particles) RefusalFits (leaves w phases.Shape)
    (shape_part w (record s { motion = l }))
    (shape_ends w (record s { motion = l }) n last)
    (λ e below. leaves_fits w phases.Shape e (length l.particles) small (omega (arith, last, small.particles)) below)))

few_ends : (w : World) (pairs : List (ℕ × ℕ)) (many : Bool) (m : Motion) → IsSmall w → nat_lt 262144 (length pairs) ≡ many
    → HasMany (length w.particles) m
    → MatchResult (cond many (Err (TooManyContacts (w.steps + 1)))
    (repeated w.passes (pass w pairs) (untouched m) >>= λ s. Ok (settled w pairs (rub w.friction s)))) (λ v. Unit {0}) RefusalFits
few_ends w pairs true m small is all = omega (arith, small.steps)
few_ends w pairs false m small is all =
    let few : length pairs ≤ 262144 = ltb-false 262144 (length pairs) is in
    bind_ends (λ t. HasMany (length w.particles) t.motion) (λ v. Unit {0}) RefusalFits (repeated w.passes (pass w pairs) (untouched m))
    (λ s. Ok (settled w pairs (rub w.friction s)))
    (repeat_ends (λ t. HasMany (length w.particles) t.motion) RefusalFits (pass w pairs)
    (λ s has. pass_ends w pairs s small few has) w.passes (untouched m) all)
    (λ s has. tt)

step_ends : (w : World) → IsSmall w → IfErr (step w) RefusalFits
unfolding step
step_ends w small =
    only_err (λ v. Unit {0}) RefusalFits (with_fault (leaves w phases.Predict) (predict w) >>= λ m.
    after_contacts w m (contacts_of w.thickness w.links m.particles))
    (bind_ends (HasMany (length w.particles)) (λ v. Unit {0}) RefusalFits (with_fault (leaves w phases.Predict) (predict w))
    (λ m. after_contacts w m (contacts_of w.thickness w.links m.particles))
    (fault_ends (HasMany (length w.particles)) (λ e. e < length w.particles) RefusalFits (leaves w phases.Predict) (predict w)
    (predict_ends w)
    (λ e below. leaves_fits w phases.Predict e (length w.particles) small (omega (arith, small.particles)) below))
    (λ m many. few_ends w (contacts_of w.thickness w.links m.particles)
    (nat_lt 262144 (length (contacts_of w.thickness w.links m.particles))) m small refl many))

-- ---- the steps of a command

pub small : (w : World) → IsSound w → IsSmall w
small w sound =
    let form = formed (parts_of w) sound.well_formed in
    let ps = and_parts (nat_le (length w.particles) 65536) _ form.particles in
    let ls = and_parts (nat_le (length w.links) 524288) _ (and_parts _ _ (and_parts _ _ form.links).0).0 in
    record { steps = sound.steps; particles = leb-true (length w.particles) 65536 ps.0; links = leb-true (length w.links) 524288 ls.0 }

steps_end : (n : ℕ) (w : World) → IsSound w → w.steps + n ≤ 1000000 → MatchResult (repeated n step w) (λ v. Unit {0}) RefusalFits
steps_end zero w sound within = tt
steps_end (suc n) w sound within =
    bind_ends (λ v. IsSound v × (v.steps + n ≤ 1000000)) (λ v. Unit {0}) RefusalFits (step w) (repeated n step)
    (both_ends (λ v. IsSound v × (v.steps + n ≤ 1000000)) RefusalFits (step w)
    (ok_weaker (λ v. IsSound v × (v.steps ≡ w.steps + 1) × AreOfOneScene w v) (λ v. IsSound v × (v.steps + n ≤ 1000000)) (step w)
    (λ v on. (on.0, omega (arith, within, on.1))) (step_sound w sound (omega (arith, within))))
    (step_ends w (small w sound)))
    (λ v so_far. steps_end n v so_far.0 so_far.1)

-- ---- what refuses a command before its steps

-- it tells of no step
abbrev pub is_plain : Refusal → Bool
is_plain (LeavesRange step phase element) = false
is_plain (TooManyContacts step) = false
is_plain refusal = true

pub tests_plain : (w : World) (c : Command) → IsTrue (list_all (λ (t : Bool × Refusal). is_plain t.1) (refusals w c))
tests_plain w commands.Bad = refl
tests_plain w c = refl

-- what holds of every plain refusal holds of those of plain tests
pub all_plain : (P : Refusal → Type 0) → ((refusal : Refusal) → IsTrue (is_plain refusal) → P refusal) → (tests : List (Bool × Refusal))
    → IsTrue (list_all (λ (t : Bool × Refusal). is_plain t.1) tests) → AllByRecursion (λ (t : Bool × Refusal). P t.1) tests
all_plain P h [] plain = tt
all_plain P h (test ∷ tests) plain =
    let both = and_parts (is_plain test.1) (list_all (λ (t : Bool × Refusal). is_plain t.1) tests) plain in
    (h test.1 both.0, all_plain P h tests both.1)

plain_fits : (refusal : Refusal) → IsTrue (is_plain refusal) → RefusalFits refusal
plain_fits (LeavesRange step phase element) plain = absurd (false≢true plain)
plain_fits (TooManyContacts step) plain = absurd (false≢true plain)
plain_fits refusal plain = tt

pub tests_end : {A : Type 0} (P : Refusal → Type 0) (tests : List (Bool × Refusal)) (x : A)
    → AllByRecursion (λ (t : Bool × Refusal). P t.1) tests → IfErr (unless tests x) P
tests_end P [] x all = tt
tests_end P (test ∷ tests) x all = end_by_test test.0 (tests_end P tests x all.1)
  where
    end_by_test : (b : Bool) → IfErr (unless tests x) P → IfErr (cond b (Err test.1) (unless tests x)) P
    end_by_test true rest = all.0
    end_by_test false rest = rest

-- ---- every reply

abbrev pub ReplyFits : Reply → Type 0
ReplyFits (replies.Refused refusal) = RefusalFits refusal
ReplyFits reply = Unit {0}

deed_ends : (w : World) (tests : List (Bool × Refusal)) (d : Deed) → IsSound w
    → AllByRecursion (λ (t : Bool × Refusal). RefusalFits t.1) tests → (NoneHolds tests → IsAllowed w d)
    → IfErr (unless_refused w tests d) RefusalFits
deed_ends w tests (Steps n) sound fit can =
    only_err (λ v. Unit {0}) RefusalFits (unless tests w >>= steps_of n)
    (bind_ends (λ v. IsSound v × (v.steps + n ≤ 1000000)) (λ v. Unit {0}) RefusalFits (unless tests w) (steps_of n)
    (both_ends (λ v. IsSound v × (v.steps + n ≤ 1000000)) RefusalFits (unless tests w)
    (unless-keeps (λ v. IsSound v × (v.steps + n ≤ 1000000)) tests w (λ es. (sound, (can es).1)))
    (tests_end RefusalFits tests w fit))
    (λ v so_far. steps_end n v so_far.0 so_far.1))
deed_ends w tests (Edits edit) sound fit can = tests_end RefusalFits tests (edited w edit) fit
deed_ends w tests (Answers told) sound fit can = tests_end RefusalFits tests w fit

answer_fits : (c : Command) → ReplyFits (answer (deed c))
answer_fits commands.Bad = tt
answer_fits c = tt

done_fits : (w : World) (a : Reply) (r : Result World Refusal) → ReplyFits a → IfErr r RefusalFits → ReplyFits (done_or_refused w a r).1
done_fits w a (Ok v) answered fits = answered
done_fits w a (Err refusal) answered fits = fits

pub reply_fits : (w : World) (c : Command) → IsSound w → ReplyFits (reply w c)
unfolding meaning
reply_fits w c sound =
    done_fits w (answer (deed c)) (outcome w c) (answer_fits c)
    (deed_ends w (refusals w c) (deed c) sound (all_plain RefusalFits plain_fits (refusals w c) (tests_plain w c)) (allowed w c sound))
