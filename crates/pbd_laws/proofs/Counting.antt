-- What steps and sessions may cost, by the sizes of the scene.
use Rattle.std.proofs.Common.{◌≡◌, refl, sym, ap, ◌∙◌, ℕ, zero, suc, ◌+◌, ◌-◌, ◌*◌, ◌/◌, ◌%◌, ◌<◌, ◌≤◌, min, Bool, true, false, not, ◌&&◌}
use Rattle.std.proofs.Common.{List, [], ◌∷◌, length, arith, pos, subst, inl, inr}
use Rattle.std.specs.Prelude.{Result, Ok, Err, IfOk, IsTrue, if◌then◌else◌, nat_le, nat_lt, ◌==◌, int_lt, unsigned_abs}
use Rattle.std.specs.List.{range_with_len}
use Rattle.std.proofs.lemmas.Bool.{ltb-false, cases_lt}
use Rattle.std.proofs.Math.Nat.{mul-le-mul, div-add-mod, min-le_right}
use Rattle.pbd_world.specs.declared.parts.Link.{Link}
use Rattle.pbd_world.specs.declared.parts.Parts.{Parts}
use Rattle.pbd_world.specs.declared.command.Command.{Command}
use Rattle.pbd_world.specs.declared.command.Command.TheVariants as commands
use Rattle.pbd_world.specs.declared.command.Refusal.{Refusal}
use Rattle.pbd_world.specs.declared.command.Refusal.TheVariants.{BadCount, StepLimit}
use Rattle.pbd_world.specs.declared.command.Reply.{Reply}
use Rattle.pbd_world.specs.declared.command.Reply.TheVariants as replies
use Rattle.pbd_world.specs.World.{World, IsSound, AreOfOneScene, live_count, opened}
use Rattle.pbd_world.specs.Valid.{is_valid}
use Rattle.pbd_world.specs.Outcomes.{unless}
use Rattle.pbd_world.specs.Contacts.{link_pairs, live_flags}
use Rattle.pbd_world.specs.Step.{step}
use Rattle.pbd_world.specs.Meaning.{after, reply}
use Rattle.pbd_world.specs.Work.{blocks_in, of_colour_count, tearable_count, colours_used, finding_work, step_work, found_in, work_from}
use Rattle.pbd_world.specs.Work.{work_over, steps_work, command_work, reply_work, session_work}
use Rattle.pbd_world.proofs.OpenedLemmas.{opened-is_sound}
use Rattle.pbd_world.proofs.StepSound.{step_sound}
use Rattle.pbd_world.proofs.CommandSound.{command-sound, command-scene}
use Rattle.pbd_world.proofs.WorkLemmas.{finding_is, step_few}
use Rattle.pbd_laws.specs.Costs.{most_of_step, steps_in, most_of_session}
use Rattle.std.proofs.lemmas.List.FromFn.{length-range_with_len}
use Rattle.pbd_world.proofs.CountingOn.{filter_length}
use Rattle.pbd_world.proofs.SameShape.{scene_particles, scene_links}

-- ---- a step

colours_few : (links : List Link) → colours_used links ≤ 63
unfolding colours_used
colours_few links =
    let few = filter_length (λ c. nat_lt 0 (of_colour_count (link_pairs links) (live_flags links) c)) (range_with_len 0 63) in
    omega (arith, few, length-range_with_len 0 63)

finding_few : (w : World) → finding_work w ≤ length w.particles
finding_few w = subst (λ n. n ≤ length w.particles) (sym (finding_is w)) (none_or_all (unsigned_abs w.thickness == 0))
  where
    none_or_all : (b : Bool) → (if b then 0 else length w.particles) ≤ length w.particles
    none_or_all true = omega arith
    none_or_all false = omega arith

less_parts : (m k n : ℕ) → 0 < n → m ≤ k → m / n ≤ k / n
less_parts m k n some h = elim (cases_lt (k / n) (m / n)) [
  | inr less ↦ less
  | inl more ↦
      let same : n ≤ n = omega arith in
      let next : k / n + 1 ≤ m / n = omega (arith, more) in
      let below : k % n < n = omega (arith, some) in
      absurd (omega (arith, mul-le-mul same next, div-add-mod k n, div-add-mod m n, below, h))
]

step_most : (width lanes : ℕ) (w : World) → 0 < lanes → IsSound w → step_work width lanes w (found_in w) ≤ most_of_step width lanes w
unfolding most_of_step
step_most width lanes w some sound =
    let live = filter_length {A = Link} (λ l. l.live) w.links in
    let parts : live_count w.links / lanes ≤ length w.links / lanes = less_parts (live_count w.links) (length w.links) lanes some live in
    let tears : tearable_count w.links ≤ length w.links = filter_length {A = Link} (λ l. l.live && int_lt (pos 0) l.tear) w.links in
    let inner : live_count w.links / lanes + colours_used w.links + min (length (found_in w)) 262144 + blocks_in width w
    ≤ length w.links / lanes + 63 + 262144 + blocks_in width w =
    omega (arith, parts, colours_few w.links, min-le_right (length (found_in w)) 262144) in
    let same : w.passes ≤ w.passes = omega arith in
    omega (arith, step_few width lanes w (found_in w) some sound, mul-le-mul same inner, tears, finding_few w)

-- the sizes are those of the scene
same_most : (width lanes : ℕ) (w v : World) → AreOfOneScene w v
    → (most_of_step width lanes v ≡ most_of_step width lanes w) × (length v.particles ≡ length w.particles)
unfolding most_of_step
same_most width lanes w v e =
    let particles : length v.particles ≡ length w.particles = sym (scene_particles w v e) in
    let links : length v.links ≡ length w.links = sym (scene_links w v e) in
    let passes : v.passes ≡ w.passes = sym (ap (λ (x : World). x.passes) e) in
    let tracks : length v.tracks ≡ length w.tracks = sym (ap (λ (x : World). length x.tracks) e) in
    let sum : ℕ → ℕ → ℕ → ℕ → ℕ = λ p l n t. 4 * ((p + width - 1) / width + n * (l / lanes + 63 + 262144 + (p + width - 1) / width)) + t + p
    + 2 * l in (
      ap (λ p. sum p (length v.links) v.passes (length v.tracks)) particles
          ∙ ap (λ l. sum (length w.particles) l v.passes (length v.tracks)) links
          ∙ ap (λ n. sum (length w.particles) (length w.links) n (length v.tracks)) passes
          ∙ ap (λ t. sum (length w.particles) (length w.links) w.passes t) tracks,
      particles,
    )

-- ---- steps

pub ok_at : {A E : Type 0} (P : A → Type 0) (r : Result A E) (x : A) → r ≡ Ok x → IfOk r P → P x
ok_at P r x e h = subst (λ r. IfOk r P) e h

over_most : (width lanes n : ℕ) (w : World) → 0 < lanes → IsSound w → w.steps + n ≤ 1000000
    → work_over width lanes n w ≤ n * most_of_step width lanes w
unfolding work_over
over_most width lanes zero w some sound room = omega arith
over_most width lanes (suc n) w some sound room = most_after (step w) refl (λ v s r. over_most width lanes n v some s r)
  where
    most_after : (r : Result World Refusal) → step w ≡ r
        → ((v : World) → IsSound v → v.steps + n ≤ 1000000 → work_over width lanes n v ≤ n * most_of_step width lanes v)
        → step_work width lanes w (found_in w) + work_from (work_over width lanes n) r ≤ suc n * most_of_step width lanes w
    most_after (Ok v) e later =
        let next = ok_at (λ u. IsSound u × (u.steps ≡ w.steps + 1) × AreOfOneScene w u) (step w) v e
        (step_sound w sound (omega (arith, room))) in
        let rest = later v next.0 (omega (arith, room, next.1)) in
        let same = ap (λ m. n * m) (same_most width lanes w v next.2).0 in
        omega (arith, rest, same, step_most width lanes w some sound)
    most_after (Err f) e later = omega (arith, step_most width lanes w some sound)

pub steps-most : (width lanes n : ℕ) (w : World) → 0 < lanes → IsSound w → steps_work width lanes n w ≤ n * most_of_step width lanes w
unfolding steps_work
steps-most width lanes n w some sound = most_by_tests (not (nat_le 1 n && nat_le n 100000)) (nat_lt 1000000 (w.steps + n)) refl
  where
    most_by_tests : (b c : Bool) → nat_lt 1000000 (w.steps + n) ≡ c
        → work_from (work_over width lanes n) (unless ((b, BadCount) ∷ (c, StepLimit) ∷ []) w) ≤ n * most_of_step width lanes w
    most_by_tests true c e = omega arith
    most_by_tests false true e = omega arith
    most_by_tests false false e = over_most width lanes n w some sound (ltb-false 1000000 (w.steps + n) e)

-- ---- sessions

command_most : (width lanes : ℕ) (w : World) (c : Command) → 0 < lanes → IsSound w
    → command_work width lanes w c ≤ steps_in (c ∷ []) * most_of_step width lanes w + 2
unfolding command_work
command_most width lanes w (commands.Step n) some sound = let few = steps-most width lanes n w some sound in omega (arith, few)
command_most width lanes w c some sound = omega arith

reply_most : (w : World) (r : Reply) → reply_work w r ≤ length w.particles
unfolding reply_work
reply_most w replies.Done = omega arith
reply_most w replies.Frame = omega arith
reply_most w replies.Ledger = omega arith
reply_most w (replies.Refused e) = omega arith

steps_next : (c : Command) (cs : List Command) → steps_in (c ∷ cs) ≡ steps_in (c ∷ []) + steps_in cs
steps_next (commands.Step n) cs = omega arith
steps_next c cs = omega arith

session_most : (width lanes : ℕ) (w : World) (cs : List Command) → 0 < lanes → IsSound w
    → session_work width lanes w cs ≤ most_of_session width lanes w cs
unfolding session_work
session_most width lanes w [] some sound = omega arith
session_most width lanes w (c ∷ cs) some sound =
    let v = after w c in
    let same = same_most width lanes w v (command-scene w c sound) in
    let most = most_of_step width lanes w in
    let rest = session_most width lanes v cs some (command-sound w c sound) in
    let steps = ap (λ m. steps_in cs * m) same.0 in
    let sizes = ap (λ p. length cs * (p + 2)) same.1 in
    let next = ap (λ n. n * most) (steps_next c cs) in
    omega (arith, command_most width lanes w c some sound, reply_most v (reply w c), same.1, rest, steps, sizes, next)

pub whole-session-most : (width lanes : ℕ) (parts : Parts) (cs : List Command) → 0 < lanes → IsTrue (is_valid parts)
    → session_work width lanes (opened parts) cs ≤ most_of_session width lanes (opened parts) cs
whole-session-most width lanes parts cs some valid = session_most width lanes (opened parts) cs some (opened-is_sound parts valid)
