-- The headline of a run, from what the run settles.
use Rattle.std.proofs.Common.{◌≡◌, ◌∙◌, sym, ap, ℕ, List, [], ◌∷◌, ◌++◌, Some, Ok, inr, pos, refl, append_assoc}
use Rattle.std.specs.Prelude.{IsTrue, map, false}
use Rattle.std.specs.List.{AllByRecursion}
use Rattle.std.proofs.lemmas.List.Elements.{All-from_recursion, recursion_from_All}
use Rattle.pbd_num.specs.Vectors.{zero_vector}
use Rattle.pbd_world.specs.declared.command.Command.{Command}
use Rattle.pbd_world.specs.declared.command.Refusal.{Refusal}
use Rattle.pbd_world.specs.declared.command.Reply.{Reply}
use Rattle.pbd_world.specs.declared.command.Reply.TheVariants as replies
use Rattle.pbd_world.specs.declared.command.Width.{Width}
use Rattle.pbd_world.specs.declared.parts.Particle.{Particle}
use Rattle.pbd_world.specs.declared.parts.Parts.{Parts}
use Rattle.pbd_world.specs.Ledger.{both_sums}
use Rattle.pbd_world.specs.Meaning.{after, reply}
use Rattle.pbd_world.specs.Momentum.{momentum}
use Rattle.pbd_world.specs.Session.{last_world, session_text}
use Rattle.pbd_world.specs.Text.{refusal_line, text}
use Rattle.pbd_world.specs.Valid.{is_valid}
use Rattle.pbd_world.specs.World.{HaveWeight, World, opened}
use Rattle.pbd_world.proofs.Deeds.{refused-keeps}
use Rattle.pbd_world.proofs.SessionSound.{session-sound, session-scene, undamped-balance}
use Rattle.pbd_script.specs.Commands.{commands}
use Rattle.pbd_outcome.specs.declared.job.Job.TheVariants as jobs
use Rattle.pbd_outcome.specs.Clauses.{Run, Settles}
use Rattle.pbd_outcome.specs.Headline.{Accepts, KeepsHeadline, KeepsMomentum, SaveForLine}
use Rattle.pbd_outcome.specs.Outcome.{IsOutcome, Outcome, parts_in, range, scene_in, session_outcome, simulated, tree_in}
use Rattle.pbd_scene.proofs.Validity.{scene_valid}
use Rattle.pbd_outcome.proofs.OneOutcome.{one_outcome}
use Rattle.pbd_outcome.proofs.OutcomeLaws.{simulated_halves, settled_ok, text_read}

every_width : (width : Width) (input script : List ℕ) (parts : Parts) → Accepts input parts script
    → IsOutcome (Some (jobs.Simulate width)) input (session_outcome (opened parts) (commands script))
every_width width input script parts has =
    let given : scene_in range has.scene ≡ Ok parts = text_read range has.scene has.is_text ∙ ap (tree_in range) has.is_tree
    ∙ ap parts_in has.accepted in
    let all : simulated input ≡ session_outcome (opened parts) (commands script) = simulated_halves input (has.scene, script) has.halves
    ∙ settled_ok (scene_in range has.scene) (λ p. session_outcome (opened p) (commands script)) parts given in
    inr (has.short, sym all)

pub refused_text : (w : World) (command : Command) (later : List Command) (refusal : Refusal) → reply w command ≡ replies.Refused refusal
    → session_text w (command ∷ later) ≡ refusal_line refusal ++ session_text w later
unfolding session_text text
refused_text w command later refusal is =
    ap (λ (v : World). text v (reply w command) ++ session_text v later) (refused-keeps w command refusal is)
    ∙ ap (λ (r : Reply). text w r ++ session_text w later) is

-- the text of some commands, and then of others
text_in_two : (w : World) (before later : List Command) → session_text w (before ++ later) ≡ session_text w before
    ++ session_text (last_world w before) later
unfolding session_text
text_in_two w [] later = refl
text_in_two w (c ∷ before) later =
    ap (λ (t : List ℕ). text (after w c) (reply w c) ++ t) (text_in_two (after w c) before later)
    ∙ sym (append_assoc (text (after w c) (reply w c)) (session_text (after w c) before)
    (session_text (last_world (after w c) before) later))

save_for_line : (w : World) (before : List Command) (command : Command) (refusal : Refusal) (later : List Command)
    → reply (last_world w before) command ≡ replies.Refused refusal → SaveForLine w before command refusal later
save_for_line w before command refusal later is =
    let v = last_world w before in
    record {
      with_it = text_in_two w before (command ∷ later) ∙ ap (λ (t : List ℕ). session_text w before ++ t)
          (refused_text v command later refusal is) ∙ sym (append_assoc (session_text w before) (refusal_line refusal)
          (session_text v later));
      without = text_in_two w before later;
    }

blank : Particle → Particle
blank p = record p { at = zero_vector; before = zero_vector; held = false }

first_weight : List Particle → ℕ
first_weight [] = 0
first_weight (p ∷ ps) = p.weight

others : List Particle → List Particle
others [] = []
others (p ∷ ps) = ps

weight_on : (weight : ℕ) (ps qs : List Particle) → map blank ps ≡ map blank qs → AllByRecursion {X = Particle} (λ p. p.weight ≡ weight) ps
    → AllByRecursion {X = Particle} (λ p. p.weight ≡ weight) qs
unfolding blank first_weight others
weight_on weight [] [] e h = tt
weight_on weight [] (q ∷ qs) e h = cc
weight_on weight (p ∷ ps) [] e h = cc
weight_on weight (p ∷ ps) (q ∷ qs) e h = (sym (ap first_weight e) ∙ h.0, weight_on weight ps qs (ap others e) h.1)

kept_momentum : (parts : Parts) (commands : List Command) (weight : ℕ) → IsTrue (is_valid parts) → parts.damping ≡ pos 0
    → HaveWeight weight parts.particles → KeepsMomentum (momentum parts.particles) (last_world (opened parts) commands)
unfolding blank
kept_momentum parts commands weight valid still alike =
    let w = last_world (opened parts) commands in
    let one = session-scene parts commands valid in
    let damping : w.damping ≡ pos 0 = sym (ap (λ (v : World). v.damping) one) ∙ still in
    let same : map blank parts.particles ≡ map blank w.particles = ap (λ (v : World). v.particles) one in
    let weights : HaveWeight weight w.particles = All-from_recursion (λ (p : Particle). p.weight ≡ weight) w.particles
    (weight_on weight parts.particles w.particles same (recursion_from_All (λ (p : Particle). p.weight ≡ weight) parts.particles alike))
    in
    let opening : w.opening ≡ momentum parts.particles = sym (ap (λ (v : World). v.opening) one) in
    undamped-balance w weight (session-sound parts commands valid) damping weights
    ∙ ap (λ s. both_sums s (both_sums w.totals.gravity (both_sums w.totals.pin w.totals.shape))) opening

pub headline_of : (run : Run) → Settles run → KeepsHeadline run
headline_of run settles width input script parts is told has nr nw nm =
    let o : Outcome = session_outcome (opened parts) (commands script) in
    let went = settles nr nw nm input (inr told) in
    let its : IsOutcome run.job input o = rw is (every_width width input script parts has) in
    let same : went.outcome ≡ o = one_outcome run.job input went.outcome o went.its its in
    let valid : IsTrue (is_valid parts) = scene_valid range has.tree parts refl has.accepted in
    record {
      bytes = rw same at went.text;
      ending = went.ends ∙ ap (λ (o : Outcome). o.status) same;
      sound = λ before later all. session-sound parts before valid;
      refused = λ before later command refusal all r. refused-keeps (last_world (opened parts) before) command refusal r;
      later_bytes = λ before later command refusal all r. save_for_line (opened parts) before command refusal later r;
      momentum = λ before later weight all still alike. kept_momentum parts before weight valid still alike;
    }
