-- Steps add up.
use Rattle.std.proofs.Common.{◌≡◌, refl, sym, ap, ◌∙◌, ℕ, zero, suc, ◌+◌, ◌<◌, ◌≤◌, ◌⊎◌, inl, inr, Bool, true, false, not, ◌&&◌, List, []}
use Rattle.std.proofs.Common.{◌∷◌, map, arith}
use Rattle.std.specs.Prelude.{Result, Ok, Err, IfOk, if◌then◌else◌, nat_le, nat_lt, sum}
use Rattle.std.proofs.lemmas.Bool.{le-leb, lt-ltb, ltb-true, ltb-false, leb-true, and_parts, and_from, cases_lt, not_from_true, not-false}
use Rattle.std.proofs.lemmas.List.Sums.{sum_by-cons}
use Rattle.pbd_world.specs.declared.command.Command.{Command}
use Rattle.pbd_world.specs.declared.command.Command.TheVariants.{Step}
use Rattle.pbd_world.specs.declared.command.Refusal.{Refusal}
use Rattle.pbd_world.specs.declared.command.Refusal.TheVariants.{BadCount, StepLimit}
use Rattle.pbd_world.specs.declared.command.Reply.TheVariants as replies
use Rattle.pbd_world.specs.World.{World}
use Rattle.pbd_world.specs.Outcomes.{◌>>=◌, unless, repeated}
use Rattle.pbd_world.specs.Step.{step}
use Rattle.pbd_world.specs.Meaning.{steps_of, outcome, done_or_refused, meaning, after, reply}
use Rattle.pbd_world.specs.Session.{last_world, is_refused, refused_count}
use Rattle.pbd_world.proofs.KeepingOn.{bind-keeps}
use Rattle.pbd_world.proofs.StepsLead.{step_counts}

-- ---- steps, without commands

bind_later : {A B E : Type 0} (r : Result A E) (f g : A → Result B E) (h : B → Result B E) → ((x : A) → f x ≡ (g x >>= h))
    → (r >>= f) ≡ ((r >>= g) >>= h)
bind_later (Ok x) f g h k = k x
bind_later (Err e) f g h k = refl

pub repeated-add : {S E : Type 0} (m n : ℕ) (f : S → Result S E) (s : S) → repeated (m + n) f s ≡ (repeated m f s >>= repeated n f)
repeated-add zero n f s = let e : 0 + n ≡ n = omega arith in rw e refl
repeated-add (suc m) n f s =
    let e : suc m + n ≡ suc (m + n) = omega arith in
    rw e (bind_later (f s) (repeated (m + n) f) (repeated m f) (repeated n f) (λ t. repeated-add m n f t))

steps-add : (m n : ℕ) (w : World) → steps_of (m + n) w ≡ (steps_of m w >>= steps_of n)
steps-add m n w = repeated-add m n step w

pub go-on : (m n : ℕ) (w v : World) → steps_of m w ≡ Ok v → steps_of (m + n) w ≡ steps_of n v
go-on m n w v h = steps-add m n w ∙ ap (λ (r : Result World Refusal). r >>= steps_of n) h

pub stop-there : (m n : ℕ) (w : World) (refusal : Refusal) → steps_of m w ≡ Err refusal → steps_of (m + n) w ≡ Err refusal
stop-there m n w refusal h = steps-add m n w ∙ ap (λ (r : Result World Refusal). r >>= steps_of n) h

steps_count : (n : ℕ) (w : World) → IfOk (steps_of n w) (λ v. v.steps ≡ w.steps + n)
steps_count zero w = omega arith
steps_count (suc n) w =
    bind-keeps (λ v. v.steps ≡ w.steps + 1) (λ v. v.steps ≡ w.steps + suc n) (step w) (repeated n step) (step_counts w)
    (λ v e. further (repeated n step v) (v.steps + n) (omega (arith, e)) (steps_count n v))
  where
    further : (r : Result World Refusal) (k : ℕ) → k ≡ w.steps + suc n → IfOk r (λ u. u.steps ≡ k) → IfOk r (λ u. u.steps ≡ w.steps + suc n)
    further (Ok u) k e h = h ∙ e
    further (Err f) k e h = tt

-- ---- the command

passes : {A E : Type 0} (b c : Bool) (e f : E) (x : A) → b ≡ false → c ≡ false → unless ((b, e) ∷ (c, f) ∷ []) x ≡ Ok x
passes true c e f x h k = absurd (cc)
passes false true e f x h k = absurd (cc)
passes false false e f x h k = refl

stopped_second : {A E : Type 0} (b c : Bool) (e f : E) (x : A) → b ≡ false → c ≡ true → unless ((b, e) ∷ (c, f) ∷ []) x ≡ Err f
stopped_second true c e f x h k = absurd (cc)
stopped_second false true e f x h k = refl
stopped_second false false e f x h k = absurd (cc)

counts : (n : ℕ) → 1 ≤ n → n ≤ 100000 → not (nat_le 1 n && nat_le n 100000) ≡ false
counts n low high = not_from_true (nat_le 1 n && nat_le n 100000)
    (and_from (nat_le 1 n) (nat_le n 100000) (le-leb 1 n low) (le-leb n 100000 high))

not_above : (a b : ℕ) → b ≤ a → nat_lt a b ≡ false
not_above a b h = never_above (nat_lt a b) refl
  where
    never_above : (t : Bool) → nat_lt a b ≡ t → t ≡ false
    never_above true e = absurd (omega (arith, h, ltb-true a b e))
    never_above false e = refl

pub run_is : (w : World) (n : ℕ) → 1 ≤ n → n ≤ 100000 → w.steps + n ≤ 1000000 → outcome w (Step n) ≡ steps_of n w
run_is w n low high room =
    let few = not (nat_le 1 n && nat_le n 100000) in
    let late = nat_lt 1000000 (w.steps + n) in
    ap (λ (r : Result World Refusal). r >>= steps_of n) (passes few late BadCount StepLimit w (counts n low high)
    (not_above 1000000 (w.steps + n) room))

run_stops : (w : World) (n : ℕ) → 1 ≤ n → n ≤ 100000 → 1000000 < w.steps + n → outcome w (Step n) ≡ Err StepLimit
run_stops w n low high none =
    let few = not (nat_le 1 n && nat_le n 100000) in
    let late = nat_lt 1000000 (w.steps + n) in
    ap (λ (r : Result World Refusal). r >>= steps_of n) (stopped_second few late BadCount StepLimit w (counts n low high)
    (lt-ltb 1000000 (w.steps + n) none))

-- what a command of steps that comes to a world says
pub record Ran (w : World) (n : ℕ) (v : World) : Type 0 where
  pub low : 1 ≤ n
  pub high : n ≤ 100000
  pub room : w.steps + n ≤ 1000000
  pub is : steps_of n w ≡ Ok v

ran : (w : World) (n : ℕ) (v : World) → outcome w (Step n) ≡ Ok v → Ran w n v
ran w n v h = ran_by_tests (not (nat_le 1 n && nat_le n 100000)) (nat_lt 1000000 (w.steps + n)) refl refl h
  where
    ran_by_tests : (b c : Bool) → not (nat_le 1 n && nat_le n 100000) ≡ b → nat_lt 1000000 (w.steps + n) ≡ c
        → (unless ((b, BadCount) ∷ (c, StepLimit) ∷ []) w >>= steps_of n) ≡ Ok v → Ran w n v
    ran_by_tests true c e f h = absurd (cc)
    ran_by_tests false true e f h = absurd (cc)
    ran_by_tests false false e f h =
        let both = and_parts (nat_le 1 n) (nat_le n 100000) (not-false (nat_le 1 n && nat_le n 100000) e) in
        record { low = leb-true 1 n both.0; high = leb-true n 100000 both.1; room = ltb-false 1000000 (w.steps + n) f; is = h }

-- ---- what was answered

is_done : (w : World) (r : Result World Refusal) → (done_or_refused w replies.Done r).1 ≡ replies.Done → r ≡ Ok (done_or_refused w replies.Done r).0
is_done w (Ok v) h = refl
is_done w (Err e) h = absurd (cc)

is_stopped : (w : World) (r : Result World Refusal) (e : Refusal) → (done_or_refused w replies.Done r).1 ≡ replies.Refused e → r ≡ Err e
is_stopped w (Ok v) e h = absurd (cc)
is_stopped w (Err f) e h = ap (λ (x : Refusal). Err x) (told f e h)
  where
    told : (f e : Refusal) → replies.Refused f ≡ replies.Refused e → f ≡ e
    told f e h = cc

same_answer : (w v : World) (r : Result World Refusal) → (done_or_refused w replies.Done r).1 ≡ (done_or_refused v replies.Done r).1
same_answer w v (Ok u) = refl
same_answer w v (Err e) = refl

same_world : (w v : World) (r : Result World Refusal) → (done_or_refused v replies.Done r).1 ≡ replies.Done
    → (done_or_refused w replies.Done r).0 ≡ (done_or_refused v replies.Done r).0
same_world w v (Ok u) h = refl
same_world w v (Err e) h = absurd (cc)

done-ran : (w : World) (n : ℕ) → reply w (Step n) ≡ replies.Done → outcome w (Step n) ≡ Ok (after w (Step n))
unfolding meaning
done-ran w n h = is_done w (outcome w (Step n)) h

same_ok : (u v : World) → (let r : Result World Refusal = Ok u in r) ≡ Ok v → u ≡ v
same_ok u v e = cc

-- after its first part, the whole goes on as the second part
run_on : (w v : World) (m n : ℕ) → 1 ≤ n → m + n ≤ 100000 → outcome w (Step m) ≡ Ok v → outcome w (Step (m + n)) ≡ outcome v (Step n)
run_on w v m n low high h =
    let first = ran w m v h in
    let counted : v.steps ≡ w.steps + m = counted_by (steps_of m w) first.is (steps_count m w) in
    elim (cases_lt 1000000 (w.steps + (m + n))) [
      | inl none ↦ run_stops w (m + n) (omega (arith, low)) high none
          ∙ sym (run_stops v n low (omega (arith, high)) (omega (arith, none, counted)))
      | inr room ↦
          run_is w (m + n) (omega (arith, low)) high room ∙ go-on m n w v first.is
          ∙ sym (run_is v n low (omega (arith, high)) (omega (arith, room, counted)))
    ]
  where
    counted_by : (r : Result World Refusal) → r ≡ Ok v → IfOk r (λ u. u.steps ≡ w.steps + m) → v.steps ≡ w.steps + m
    counted_by (Ok u) e h = ap (λ (x : World). x.steps) (sym (same_ok u v e)) ∙ h
    counted_by (Err f) e h = absurd (cc)

pub second-answers : (w : World) (m n : ℕ) → 1 ≤ m → 1 ≤ n → m + n ≤ 100000 → reply w (Step m) ≡ replies.Done
    → reply w (Step (m + n)) ≡ reply (after w (Step m)) (Step n)
unfolding meaning
second-answers w m n low_m low high h =
    let v = after w (Step m) in
    ap (λ (r : Result World Refusal). (done_or_refused w replies.Done r).1) (run_on w v m n low high (done-ran w m h)) ∙ same_answer w v (outcome v (Step n))

pub both-lead : (w : World) (m n : ℕ) → 1 ≤ m → 1 ≤ n → m + n ≤ 100000 → reply w (Step m) ≡ replies.Done
    → reply (after w (Step m)) (Step n) ≡ replies.Done
    → after w (Step (m + n)) ≡ after (after w (Step m)) (Step n)
unfolding meaning
both-lead w m n low_m low high h k =
    let v = after w (Step m) in
    ap (λ (r : Result World Refusal). (done_or_refused w replies.Done r).0) (run_on w v m n low high (done-ran w m h)) ∙ same_world w v (outcome v (Step n)) k

pub first-stops : (w : World) (m n : ℕ) (refusal : Refusal) → 1 ≤ m → m + n ≤ 100000 → w.steps + (m + n) ≤ 1000000
    → reply w (Step m) ≡ replies.Refused refusal → reply w (Step (m + n)) ≡ replies.Refused refusal
unfolding meaning
first-stops w m n refusal low high room h =
    let first : steps_of m w ≡ Err refusal = sym (run_is w m low (omega (arith, high)) (omega (arith, room)))
    ∙ is_stopped w (outcome w (Step m)) refusal h in
    let whole : outcome w (Step (m + n)) ≡ Err refusal = run_is w (m + n) (omega (arith, low)) high room ∙ stop-there m n w refusal first in
    ap (λ (r : Result World Refusal). (done_or_refused w replies.Done r).1) whole

-- ---- the whole from its parts

answers : (w : World) (n : ℕ) → (reply w (Step n) ≡ replies.Done) ⊎ ((e : Refusal) × (reply w (Step n) ≡ replies.Refused e))
unfolding meaning
answers w n = answer_of (outcome w (Step n))
  where
    answer_of : (r : Result World Refusal) → ((done_or_refused w replies.Done r).1 ≡ replies.Done)
        ⊎ ((e : Refusal) × ((done_or_refused w replies.Done r).1 ≡ replies.Refused e))
    answer_of (Ok v) = inl refl
    answer_of (Err e) = inr (e, refl)

pub whole-done : (w : World) (m n : ℕ) → 1 ≤ m → 1 ≤ n → reply w (Step (m + n)) ≡ replies.Done
    → (reply w (Step m) ≡ replies.Done) × (reply (after w (Step m)) (Step n) ≡ replies.Done)
whole-done w m n low_m low h =
    let whole = ran w (m + n) (after w (Step (m + n))) (done-ran w (m + n) h) in
    elim (answers w m) [
      | inl done ↦ (done, sym (second-answers w m n low_m low whole.high done) ∙ h)
      | inr stop ↦ absurd (differ stop.0 (sym (first-stops w m n stop.0 low_m whole.high whole.room stop.1) ∙ h))
    ]
  where
    differ : (e : Refusal) → replies.Refused e ≡ replies.Done → ⊥
    differ e h = cc

pub whole-refused : (w : World) (m n : ℕ) (refusal : Refusal) → 1 ≤ m → 1 ≤ n → m + n ≤ 100000 → w.steps + (m + n) ≤ 1000000
    → reply w (Step (m + n)) ≡ replies.Refused refusal
    → (reply w (Step m) ≡ replies.Refused refusal) ⊎ ((reply w (Step m) ≡ replies.Done)
    × (reply (after w (Step m)) (Step n) ≡ replies.Refused refusal))
whole-refused w m n refusal low_m low high room h = elim (answers w m) [
  | inl done ↦ inr (done, sym (second-answers w m n low_m low high done) ∙ h)
  | inr stop ↦ inl (stop.1 ∙ sym (first-stops w m n stop.0 low_m high room stop.1) ∙ h)
]

-- ---- many commands of steps

abbrev pub step_commands : List ℕ → List Command
step_commands ns = map (λ n. Step n) ns

none_refused : (b : Bool) (k : ℕ) → (if b then 1 else 0) + k ≡ 0 → (b ≡ false) × (k ≡ 0)
none_refused true k h = absurd (omega (arith, h))
none_refused false k h = (refl, omega (arith, h))

pub grouped-are : (w : World) (ns : List ℕ) → refused_count w (step_commands ns) ≡ 0
    → steps_of (sum ns) w ≡ Ok (last_world w (step_commands ns))
unfolding refused_count
grouped-are w [] h = refl
grouped-are w (n ∷ ns) h =
    let v = after w (Step n) in
    let parts = none_refused (is_refused (reply w (Step n))) (refused_count v (step_commands ns)) h in
    let first = ran w n v (done-ran w n (not_refused (answers w n) parts.0)) in
    ap (λ k. steps_of k w) (sum_by-cons (λ x. x) n ns) ∙ go-on n (sum ns) w v first.is ∙ grouped-are v ns parts.1
  where
    true_not_false : true ≡ false → ⊥
    true_not_false e = cc

    not_refused : (reply w (Step n) ≡ replies.Done) ⊎ ((e : Refusal) × (reply w (Step n) ≡ replies.Refused e))
        → is_refused (reply w (Step n)) ≡ false
        → reply w (Step n) ≡ replies.Done
    not_refused (inl done) e = done
    not_refused (inr stop) e = absurd (true_not_false (ap is_refused (sym stop.1) ∙ e))

pub grouped-alike : (w : World) (ms ns : List ℕ) → sum ms ≡ sum ns → refused_count w (step_commands ms) ≡ 0
    → refused_count w (step_commands ns) ≡ 0
    → last_world w (step_commands ms) ≡ last_world w (step_commands ns)
grouped-alike w ms ns e h k =
    same_ok (last_world w (step_commands ms)) (last_world w (step_commands ns))
    (sym (grouped-are w ms h) ∙ ap (λ n. steps_of n w) e ∙ grouped-are w ns k)
