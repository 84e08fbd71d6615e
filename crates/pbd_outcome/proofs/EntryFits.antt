-- What a session keeps of a script's commands can be written in a log.
use Rattle.std.proofs.Common.{sym, subst, inl, inr}
use Rattle.std.proofs.Common.{refl, ℕ, ◌+◌, ◌*◌, ◌<◌, ◌≤◌, ◌^◌, List, [], ◌∷◌, length, map, None, Result, Ok, Err}
use Rattle.std.proofs.Common.{arith, unsigned_abs}
use Rattle.std.specs.Prelude.{IsTrue, fold, nat_le}
use Rattle.std.specs.List.{AllByRecursion}
use Rattle.std.proofs.lemmas.Bool.{and_parts}
use Rattle.pbd_num.specs.declared.Vec3.{Vec3}
use Rattle.pbd_num.specs.Vectors.{Within, axes, is_within, plus, zero_vector}
use Rattle.pbd_num.proofs.Ranges.{within_facts, wider}
use Rattle.pbd_num.proofs.Sizes.{fits, size-add}
use Rattle.pbd_world.specs.declared.parts.Particle.{Particle}
use Rattle.pbd_world.specs.declared.command.Command.{Command}
use Rattle.pbd_world.specs.declared.command.Command.TheVariants.{Step}
use Rattle.pbd_world.specs.declared.command.Refusal.{Refusal}
use Rattle.pbd_world.specs.declared.command.Refusal.TheVariants as refusals
use Rattle.pbd_world.specs.declared.command.Reply.{Reply}
use Rattle.pbd_world.specs.declared.command.Reply.TheVariants as replies
use Rattle.pbd_world.specs.World.{World, IsSound, parts_of}
use Rattle.pbd_world.specs.Meaning.{after, done_or_refused, meaning, outcome, reply}
use Rattle.pbd_world.specs.Replay.{entry, frame_sums, kept_sums, logged, sum_over, LogEntry}
use Rattle.pbd_world.proofs.CommandSound.{command-sound}
use Rattle.pbd_world.proofs.KeptLemmas.{IsLimit}
use Rattle.pbd_world.proofs.WorldParts.{IsFit, all_fit, formed, limit_of}
use Rattle.pbd_log.specs.declared.entry.Entry.{Entry}
use Rattle.pbd_log.specs.Entries.{AreAxes, CommandFits, HasWidths, IsEntry, SumsFit, answer_of, entry_of, refusal_answer}
use Rattle.pbd_log.proofs.Kept.{kept_is, steps_or_not}
use Rattle.pbd_outcome.proofs.RefusalFits.{RefusalFits, ReplyFits, reply_fits, small}
use Rattle.pbd_world.proofs.WorkLemmas.{live_few}

-- ---- sums

sum_size : (f : Particle → Vec3) (ps : List Particle) (b : ℕ) (v : Vec3) → Within b v
    → AllByRecursion {X = Particle} (λ p. Within (2 ^ 29) (f p)) ps → Within (b + length ps * 2 ^ 29) (fold plus v (map f ps))
sum_size f [] b v size all = wider v b (b + 0 * 2 ^ 29) (omega arith) size
sum_size f (p ∷ ps) b v size all =
    let next : Vec3 = plus v (f p) in
    let here = all.0 in
    let one : Within (b + 2 ^ 29) next = record {
      x = omega (arith, size-add v.x (f p).x, size.x, here.x);
      y = omega (arith, size-add v.y (f p).y, size.y, here.y);
      z = omega (arith, size-add v.z (f p).z, size.z, here.z);
    } in
    wider (fold plus next (map f ps)) ((b + 2 ^ 29) + length ps * 2 ^ 29) (b + length (p ∷ ps) * 2 ^ 29) (omega arith)
    (sum_size f ps (b + 2 ^ 29) next one all.1)

axes_fit : (v : Vec3) → Within (65536 * 2 ^ 29) v → AreAxes (axes v)
axes_fit v size = (refl, (fits v.x (omega (arith, size.x)), (fits v.y (omega (arith, size.y)), (fits v.z (omega (arith, size.z)), tt))))

sums_of : (f : Particle → Vec3) (ps : List Particle) → length ps ≤ 65536 → AllByRecursion {X = Particle} (λ p. Within (2 ^ 29) (f p)) ps
    → AreAxes (axes (sum_over f ps))
sums_of f ps few all = axes_fit (sum_over f ps) (wider (sum_over f ps) (0 + length ps * 2 ^ 29) (65536 * 2 ^ 29) (omega (arith, few))
    (sum_size f ps 0 zero_vector (record { x = omega arith; y = omega arith; z = omega arith }) all))

inside : (w : World) → IsLimit w.limit → (v : Vec3) → IsTrue (is_within w.limit v) → Within (2 ^ 29) v
inside w limit v is = wider v (unsigned_abs w.limit) (2 ^ 29) limit.high ((within_facts w.limit v limit.low).0 is)

all_inside : (w : World) → IsLimit w.limit → (ps : List Particle) → AllByRecursion (IsFit w.limit) ps
    → AllByRecursion {X = Particle} (λ p. Within (2 ^ 29) p.at) ps × AllByRecursion {X = Particle} (λ p. Within (2 ^ 29) p.before) ps
all_inside w limit [] all = (tt, tt)
all_inside w limit (p ∷ ps) all =
    let rest = all_inside w limit ps all.1 in
    ((inside w limit p.at all.0.at, rest.0), (inside w limit p.before all.0.before, rest.1))

pub sums_fit : (w : World) → IsSound w → SumsFit (frame_sums w)
sums_fit w sound =
    let form = formed (parts_of w) sound.well_formed in
    let few = small w sound in
    let valid = and_parts (nat_le (length w.particles) 65536) _ form.particles in
    let places = all_inside w (limit_of w form) w.particles (all_fit w.limit w.particles valid.1) in
    record {
      steps = omega (arith, sound.steps);
      live = omega (arith, live_few w.links, few.links);
      contacts = omega (arith, sound.contacts);
      at = sums_of (λ p. p.at) w.particles few.particles places.0;
      before = sums_of (λ p. p.before) w.particles few.particles places.1;
    }

-- ---- answers

refusal_widths : (r : Refusal) → RefusalFits r → ((refusal_answer r).step < 2 ^ 64) × ((refusal_answer r).element < 2 ^ 32)
refusal_widths (refusals.LeavesRange step phase element) fit = fit
refusal_widths (refusals.TooManyContacts step) fit = (fit, omega arith)
refusal_widths refusal fit = (omega arith, omega arith)

answer_widths : (r : Reply) → ReplyFits r → ((answer_of r).step < 2 ^ 64) × ((answer_of r).element < 2 ^ 32)
answer_widths (replies.Refused refusal) fit = refusal_widths refusal fit
answer_widths r fit = (omega arith, omega arith)

-- ---- entries

bare_widths : (c : Command) (r : Reply) → CommandFits c → ReplyFits r
    → HasWidths (record { command = c; answer = answer_of r; sums = None })
bare_widths c r fit replied = let a = answer_widths r replied in record { command = fit; step = a.0; element = a.1; sums = tt }

step_widths : (w : World) (n : ℕ) (r : Result World Refusal)
    → (let d = done_or_refused w replies.Done r in CommandFits (Step n) → ReplyFits d.1 → SumsFit (frame_sums d.0)
    → HasWidths (entry_of (record { command = Step n; answer = d.1; sums = kept_sums d.0 (Step n) d.1 })))
step_widths w n (Ok v) fit replied sums = record { command = fit; step = omega arith; element = omega arith; sums = sums }
step_widths w n (Err refusal) fit replied sums = bare_widths (Step n) (replies.Refused refusal) fit replied

abbrev HaveWidths : World → Command → Type 0
HaveWidths w c = CommandFits c → ReplyFits (reply w c) → SumsFit (frame_sums (after w c)) → HasWidths (entry_of (entry w c))

steps_have_widths : (w : World) (n : ℕ) → HaveWidths w (Step n)
unfolding meaning
steps_have_widths w n = step_widths w n (outcome w (Step n))

entry_widths : (w : World) (c : Command) → HaveWidths w c
entry_widths w c = elim (steps_or_not c) [
  | inl steps ↦ subst (λ d. HaveWidths w d) (sym steps.1) (steps_have_widths w steps.0)
  | inr none ↦ λ fit replied sums. rw (none.kept (after w c) (reply w c)) (bare_widths c (reply w c) fit replied)
]

pub entries_are : (w : World) (cs : List Command) → IsSound w → AllByRecursion CommandFits cs
    → AllByRecursion IsEntry (map {A = LogEntry} {B = Entry} entry_of (logged w cs))
entries_are w [] sound fit = tt
entries_are w (c ∷ cs) sound fit =
    let next : IsSound (after w c) = command-sound w c sound in
    ((kept_is w c, entry_widths w c fit.0 (reply_fits w c sound) (sums_fit (after w c) next)), entries_are (after w c) cs next fit.1)
