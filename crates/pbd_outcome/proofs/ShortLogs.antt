-- The entries of a session take at most as many bytes as their commands allow, and the sums of each step besides.
use Rattle.std.proofs.Common.{◌≡◌, ◌≢◌, refl, sym, subst, ℕ, zero, suc, ◌+◌, ◌*◌, ◌≤◌, Bool, true, false, cond, List, [], ◌∷◌, ◌++◌, length}
use Rattle.std.proofs.Common.{Some, None, Result, Ok, Err, ℤ, arith}
use Rattle.std.specs.Prelude.{IfOk, IfErr, IsTrue, ◌==◌, ◌&&◌, nat_le, unsigned_abs}
use Rattle.std.specs.List.{flat_map, AllByRecursion}
use Rattle.std.proofs.lemmas.List.{length-append}
use Rattle.std.proofs.lemmas.Bool.{ltb-false, leb-true, and_parts, false≢true, not-false}
use Rattle.pbd_world.specs.declared.command.Command.{Command}
use Rattle.pbd_world.specs.declared.command.Command.TheVariants.{Step, Bad}
use Rattle.pbd_world.specs.declared.command.Operands.{Operands}
use Rattle.pbd_world.specs.declared.command.Operands.TheVariants.{Nothing, Number, Vector, NumberAndVector}
use Rattle.pbd_world.specs.declared.command.Refusal.{Refusal}
use Rattle.pbd_world.specs.declared.command.Refusal.TheVariants.{LeavesRange, TooManyContacts}
use Rattle.pbd_world.specs.declared.command.Reply.{Reply}
use Rattle.pbd_world.specs.declared.command.Reply.TheVariants as replies
use Rattle.pbd_world.specs.Verbs.{verb_and_operands}
use Rattle.pbd_world.specs.Outcomes.{repeated}
use Rattle.pbd_world.specs.World.{World}
use Rattle.pbd_world.specs.Step.{step}
use Rattle.pbd_world.specs.Meaning.{Deed, deed, edited, refusals, steps_of, unless_refused, outcome, answer, done_or_refused}
use Rattle.pbd_world.specs.Meaning.{meaning, after, reply}
use Rattle.pbd_world.specs.Meaning.Edit.{OnParticle}
use Rattle.pbd_world.specs.Meaning.Deed.{Steps, Edits, Answers}
use Rattle.pbd_world.specs.Replay.{entry, kept_sums, frame_sums}
use Rattle.pbd_log.specs.declared.entry.Answer.{Answer}
use Rattle.pbd_log.specs.declared.entry.Entry.{Entry}
use Rattle.pbd_log.specs.Entries.{number_bytes, signed_bytes, vector_bytes, operand_bytes, command_bytes, plain, refusal_answer, answer_of}
use Rattle.pbd_log.specs.Entries.{answer_bytes, axes_bytes, sums_bytes, optional_bytes, entry_bytes, entry_of}
use Rattle.pbd_log.specs.Logs.{opening_bytes, header_bytes, end_bytes}
use Rattle.pbd_world.proofs.KeepingOn.{bind-keeps}
use Rattle.pbd_world.proofs.CountingOn.{ok_weaker}
use Rattle.pbd_world.proofs.Deeds.{Leads, unless-goes_on, command-leads}
use Rattle.pbd_session.specs.Recording.{entries_of, log_bytes}
use Rattle.pbd_outcome.proofs.RefusalFits.{is_plain, tests_plain, all_plain, tests_end}
use Rattle.pbd_outcome.proofs.ShortLines.{bytes_with, most_bytes, all_bytes}
use Rattle.pbd_world.proofs.StepsLead.{step_counts}
use Rattle.pbd_log.proofs.Fields.{length-number, length-signed, length-vector}

-- ---- the fields of an entry

two : {X : Type 0} (xs ys : List X) (m n : ℕ) → length xs ≡ m → length ys ≡ n → length (xs ++ ys) ≡ m + n
two xs ys m n is was = omega (arith, length-append xs ys)

axes_length : (zs : List ℤ) → length (axes_bytes zs) ≡ length zs * 8
unfolding axes_bytes
axes_length [] = refl
axes_length (z ∷ zs) = let rest = axes_length zs in omega (arith, length-append (signed_bytes z) (axes_bytes zs), length-signed z, rest)

sums_length : (w : World) → length (sums_bytes (frame_sums w)) ≡ 64
unfolding sums_bytes
sums_length w =
    let s = frame_sums w in
    let counts : length (number_bytes 8 s.steps ++ number_bytes 4 s.live ++ number_bytes 4 s.contacts)
    ≡ 16 = two (number_bytes 8 s.steps ++ number_bytes 4 s.live) (number_bytes 4 s.contacts) 12 4
    (two (number_bytes 8 s.steps) (number_bytes 4 s.live) 8 4 (length-number 8 s.steps) (length-number 4 s.live))
    (length-number 4 s.contacts) in
    two (number_bytes 8 s.steps ++ number_bytes 4 s.live ++ number_bytes 4 s.contacts ++ axes_bytes s.at) (axes_bytes s.before) 40 24
    (two _ (axes_bytes s.at) 16 24 counts (axes_length s.at)) (axes_length s.before)

either_short : (leaves many : Bool) (step element : List ℕ) (phase number : ℕ) → length step ≡ 8 → length element ≡ 4
    → length (cond leaves (11 ∷ step ++ phase ∷ element) (cond many (12 ∷ step) (number ∷ []))) ≤ 14
either_short true many step element phase number is was = omega (arith, length-append step (phase ∷ element))
either_short false true step element phase number is was = omega arith
either_short false false step element phase number is was = omega arith

answer_short : (a : Answer) → length (answer_bytes a) ≤ 14
unfolding answer_bytes
answer_short a = either_short (a.number == 11) (a.number == 12) (number_bytes 8 a.step) (number_bytes 4 a.element) a.phase a.number
    (length-number 8 a.step) (length-number 4 a.element)

-- ---- an entry without sums

entry_length : (e : Entry) → length (entry_bytes e) ≡ length (command_bytes e.command) + length (answer_bytes e.answer) + length
    (optional_bytes e.sums)
unfolding entry_bytes
entry_length e = omega (
  arith,
  length-append (command_bytes e.command ++ answer_bytes e.answer) (optional_bytes e.sums),
  length-append (command_bytes e.command) (answer_bytes e.answer),
)

abbrev bare : Command → Answer → Entry
bare c a = record { command = c; answer = a; sums = None }

-- there is room for one byte more behind a command
operands_room : (o : Operands) → length (operand_bytes o) + 2 ≤ bytes_with o
operands_room Nothing = omega arith
operands_room (Number n) = omega (arith, length-number 8 n)
operands_room (Vector v) = omega (arith, length-vector v)
operands_room (NumberAndVector n v) =
    omega (arith, length-append (number_bytes 8 n) (vector_bytes v), length-number 8 n, length-vector v)

command_room : (c : Command) → length (command_bytes c) + 1 ≤ most_bytes c
unfolding command_bytes
command_room c = omega (arith, operands_room (verb_and_operands c).1)

step_length : (n : ℕ) → length (command_bytes (Step n)) ≡ 9
unfolding command_bytes
step_length n = omega (arith, length-number 8 n)

done_length : length (answer_bytes (plain 0)) ≡ 1
unfolding answer_bytes
done_length = refl

-- ---- the steps of a world rise by those that were done

steps_rise : (n : ℕ) (w : World) → IfOk (repeated n step w) (λ v. v.steps ≡ w.steps + n)
steps_rise zero w = omega arith
steps_rise (suc n) w =
    bind-keeps (λ v. v.steps ≡ w.steps + 1) (λ v. v.steps ≡ w.steps + suc n) (step w) (repeated n step) (step_counts w)
    (λ u one. ok_weaker (λ v. v.steps ≡ u.steps + n) (λ v. v.steps ≡ w.steps + suc n) (repeated n step u)
    (λ v rest. omega (arith, one, rest)) (steps_rise n u))

-- a world that steps have left
pub record Rises (w v : World) : Type 0 where
  pub rises : w.steps + 1 ≤ v.steps
  pub within : v.steps ≤ 1000000

run_rises : (w : World) (n : ℕ) → IfOk (outcome w (Step n)) (Rises w)
run_rises w n =
    unless-goes_on (Rises w) (refusals w (Step n)) w (steps_of n) (λ es.
    let both = and_parts (nat_le 1 n) (nat_le n 100000) (not-false (nat_le 1 n && nat_le n 100000) es.0) in
    let some = leb-true 1 n both.0 in
    let few = ltb-false 1000000 (w.steps + n) es.1.0 in
    ok_weaker (λ v. v.steps ≡ w.steps + n) (Rises w) (steps_of n w)
    (λ v rose. record { rises = omega (arith, some, rose); within = omega (arith, few, rose) }) (steps_rise n w))

-- ---- the entry of a command

-- An entry of a command from w to v is short but for its sums, which take no more than the steps from w to v have room for,
-- at 64 bytes each; and there are at most a million steps.
pub record FitsIn (w v : World) (c : Command) (e : Entry) : Type 0 where
  pub short : length (entry_bytes e) + 64 * w.steps ≤ most_bytes c + 64 * v.steps
  pub within : w.steps ≤ 1000000 → v.steps ≤ 1000000

step_fits : (w : World) (n : ℕ) (r : Result World Refusal) → IfOk r (Rises w)
    → (let d = done_or_refused w replies.Done r in FitsIn w d.0 (Step n)
    (entry_of (record { command = Step n; answer = d.1; sums = kept_sums d.0 (Step n) d.1 })))
step_fits w n (Ok v) rose = record {
  short = omega (
    arith,
    entry_length (record { command = Step n; answer = plain 0; sums = Some (frame_sums v) }),
    step_length n,
    done_length,
    sums_length v,
    rose.rises,
  );
  within = λ le. rose.within;
}
step_fits w n (Err refusal) rose = record {
  short = omega (arith, entry_length (bare (Step n) (refusal_answer refusal)), step_length n, answer_short (refusal_answer refusal));
  within = λ le. le;
}

steps_fit : (w : World) (n : ℕ) → FitsIn w (after w (Step n)) (Step n) (entry_of (entry w (Step n)))
unfolding meaning
steps_fit w n = step_fits w n (outcome w (Step n)) (run_rises w n)

-- ---- a command that takes no steps: nothing rises, no sums are kept, and the answer is one byte

abbrev IsStill : Deed → Type 0
IsStill d = (n : ℕ) → d ≢ Steps n

abbrev HasSteps : World → World → Type 0
HasSteps w v = v.steps ≡ w.steps

deed_stays : (w : World) (d : Deed) → IsStill d → Leads (HasSteps w) w d
deed_stays w (Steps n) still = absurd (still n refl)
deed_stays w (Edits (OnParticle i change lost)) still = refl
deed_stays w (Edits edit) still = refl
deed_stays w (Answers told) still = tt

no_sums : (w : World) (c : Command) (r : Reply) → IsStill (deed c) → kept_sums w c r ≡ None
no_sums w (Step n) r still = absurd (still n refl)
no_sums w c r still = refl

-- a reply with no step of a refusal
abbrev IsBrief : Reply → Type 0
IsBrief (replies.Refused refusal) = IsTrue (is_plain refusal)
IsBrief r = Unit {0}

refusal_byte : (r : Refusal) → IsTrue (is_plain r) → length (answer_bytes (refusal_answer r)) ≡ 1
unfolding answer_bytes
refusal_byte (LeavesRange step phase element) brief = absurd (false≢true brief)
refusal_byte (TooManyContacts step) brief = absurd (false≢true brief)
refusal_byte r brief = refl

answer_byte : (r : Reply) → IsBrief r → length (answer_bytes (answer_of r)) ≡ 1
answer_byte (replies.Refused refusal) brief = refusal_byte refusal brief
answer_byte r brief = done_length

deed_refuses : (w : World) (c : Command) (d : Deed) → IsStill d
    → IfErr (unless_refused w (refusals w c) d) (λ r. IsTrue (is_plain r))
deed_refuses w c d still = refuses_by_deed d still (all_plain (λ r. IsTrue (is_plain r)) (λ r is. is) (refusals w c) (tests_plain w c))
  where
    refuses_by_deed : (d : Deed) → IsStill d → AllByRecursion (λ (t : Bool × Refusal). IsTrue (is_plain t.1)) (refusals w c)
        → IfErr (unless_refused w (refusals w c) d) (λ r. IsTrue (is_plain r))
    refuses_by_deed (Steps n) still all = absurd (still n refl)
    refuses_by_deed (Edits edit) still all = tests_end (λ r. IsTrue (is_plain r)) (refusals w c) (edited w edit) all
    refuses_by_deed (Answers told) still all = tests_end (λ r. IsTrue (is_plain r)) (refusals w c) w all

answer_brief : (c : Command) → IsBrief (answer (deed c))
answer_brief Bad = refl
answer_brief c = tt

reply_brief : (w : World) (c : Command) → IsStill (deed c) → IsBrief (reply w c)
unfolding meaning
reply_brief w c still = brief_by_outcome (outcome w c) (deed_refuses w c (deed c) still)
  where
    brief_by_outcome : (r : Result World Refusal) → IfErr r (λ r. IsTrue (is_plain r)) → IsBrief (done_or_refused w (answer (deed c)) r).1
    brief_by_outcome (Ok v) brief = answer_brief c
    brief_by_outcome (Err refusal) brief = brief

still_fits : (w v : World) (c : Command) (r : Reply) → v.steps ≡ w.steps → IsBrief r → FitsIn w v c (bare c (answer_of r))
still_fits w v c r same brief = record {
  short = omega (arith, entry_length (bare c (answer_of r)), command_room c, answer_byte r brief, same);
  within = λ le. omega (arith, le, same);
}

bare_fits : (w : World) (c : Command) → IsStill (deed c) → FitsIn w (after w c) c (entry_of (entry w c))
bare_fits w c still = rw (no_sums (after w c) c (reply w c) still) (still_fits w (after w c) c (reply w c)
    (command-leads (HasSteps w) w c refl (λ es. deed_stays w (deed c) still))
    (reply_brief w c still))

-- ---- any command

-- only the command of steps takes steps
only_steps : (c : Command) (n : ℕ) → deed c ≡ Steps n → c ≡ Step n
only_steps (Step m) n is = cc
only_steps c n is = absurd (cc)

entry_fits : (w : World) (c : Command) → FitsIn w (after w c) c (entry_of (entry w c))
entry_fits w c = fits_by_deed (deed c) refl
  where
    fits_by_deed : (d : Deed) → deed c ≡ d → FitsIn w (after w c) c (entry_of (entry w c))
    fits_by_deed (Steps n) is = subst (λ d. FitsIn w (after w d) d (entry_of (entry w d))) (sym (only_steps c n is)) (steps_fit w n)
    fits_by_deed (Edits edit) is = bare_fits w c (λ n steps. absurd (cc))
    fits_by_deed (Answers told) is = bare_fits w c (λ n steps. absurd (cc))

-- ---- all entries

pub entries_fit : (w : World) (cs : List Command) → w.steps ≤ 1000000
    → length (flat_map entry_bytes (entries_of w cs)) + 64 * w.steps ≤ all_bytes cs + 64000000
entries_fit w [] within = omega (arith, within)
entries_fit w (c ∷ cs) within =
    let here = entry_fits w c in
    let rest = entries_fit (after w c) cs (here.within within) in
    omega (arith, here.short, rest, length-append (entry_bytes (entry_of (entry w c))) (flat_map entry_bytes (entries_of (after w c) cs)))

-- ---- the whole log

header_length : (limit : ℤ) (size : ℕ) → length (header_bytes 2 limit size) ≡ 20
unfolding header_bytes opening_bytes
header_length limit size = omega (
  arith,
  length-append (opening_bytes 2 limit) (number_bytes 4 size),
  length-number 4 size,
  length-number 8 (unsigned_abs limit),
)

end_length : (count : ℕ) → length (end_bytes count) ≡ 9
unfolding end_bytes
end_length count = omega (arith, length-number 8 count)

pub log_length : (limit : ℤ) (scene : List ℕ) (entries : List Entry)
    → length (log_bytes limit scene entries) ≡ 29 + length scene + length (flat_map entry_bytes entries)
unfolding log_bytes
log_length limit scene entries =
    let head : List ℕ = header_bytes 2 limit (length scene) in
    let body : List ℕ = flat_map entry_bytes entries in
    let front : length (head ++ scene) ≡ 20 + length scene = two head scene 20 (length scene) (header_length limit (length scene)) refl in
    omega (
      arith,
      front,
      length-append (head ++ scene) body,
      length-append (head ++ scene ++ body) (end_bytes (length entries)),
      end_length (length entries),
    )
