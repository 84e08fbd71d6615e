-- Commands that change one thing, as edits of a world, and that edits of different things commute.
use Rattle.std.proofs.Common.{◌≡◌, ◌≢◌, refl, sym, ap, ◌∙◌, Bool, true, false, List, [], ◌∷◌, length, length-set}
use Rattle.std.specs.Prelude.{Option, Some, None, Result, Ok, Err, if◌then◌else◌, slice_set as set}
use Rattle.std.proofs.lemmas.List.{get_or-set_other, set_comm}
use Rattle.pbd_num.specs.declared.Vec3.{Vec3}
use Rattle.pbd_world.specs.declared.parts.Link.{Link}
use Rattle.pbd_world.specs.declared.command.Command.{Command}
use Rattle.pbd_world.specs.declared.command.Refusal.{Refusal}
use Rattle.pbd_world.specs.declared.command.Reply.{Reply}
use Rattle.pbd_world.specs.declared.command.Reply.TheVariants as replies
use Rattle.pbd_world.specs.Ledger.{Ledger, Sum}
use Rattle.pbd_world.specs.Particles.{no_particle, particle_at}
use Rattle.pbd_world.specs.World.{World}
use Rattle.pbd_world.specs.Outcomes.{unless}
use Rattle.pbd_world.specs.Bonds.{no_link, link_at}
use Rattle.pbd_world.specs.Meaning.{Edit, Deed, deed, edited, changed, pinned_by, refusals, unless_refused, answer, done_or_refused}
use Rattle.pbd_world.specs.Meaning.{meaning, after, reply}
use Rattle.pbd_world.specs.Meaning.Edit.{OnParticle, OnLink, OnGravity}
use Rattle.pbd_world.specs.Meaning.Deed.{Steps, Edits, Answers}
use Rattle.pbd_laws.specs.Targets.{Target, target, place_of, place_in}
use Rattle.pbd_laws.specs.Targets.Target.{OneParticle, OneLink, TheGravity}
use Rattle.pbd_world.proofs.MovedLemmas.{sum_in_turn}

-- ---- a command is its edit, where no test refuses it

abbrev pub Verdict : Type 0
Verdict = Result (Unit {0}) Refusal

abbrev pub verdict : World → Command → Verdict
verdict w c = unless (refusals w c) tt

abbrev pub either : Verdict → World → World → World
either (Ok u) w v = v
either (Err e) w v = w

abbrev pub told : Verdict → Reply
told (Ok u) = replies.Done
told (Err e) = replies.Refused e

done_world : (a : Reply) (tests : List (Bool × Refusal)) (w v : World)
    → (done_or_refused w a (unless tests v)).0 ≡ either (unless tests tt) w v
done_world a [] w v = refl
done_world a (t ∷ tests) w v = world_by_test t.0 (done_world a tests w v)
  where
    world_by_test : (b : Bool) → (done_or_refused w a (unless tests v)).0 ≡ either (unless tests tt) w v
        → (done_or_refused w a (if b then Err t.1 else unless tests v)).0 ≡ either (if b then Err t.1 else unless tests tt) w v
    world_by_test true h = refl
    world_by_test false h = h

done_reply : (tests : List (Bool × Refusal)) (w v : World) → (done_or_refused w replies.Done (unless tests v)).1 ≡ told (unless tests tt)
done_reply [] w v = refl
done_reply (t ∷ tests) w v = reply_by_test t.0 (done_reply tests w v)
  where
    reply_by_test : (b : Bool) → (done_or_refused w replies.Done (unless tests v)).1 ≡ told (unless tests tt)
        → (done_or_refused w replies.Done (if b then Err t.1 else unless tests v)).1 ≡ told (if b then Err t.1 else unless tests tt)
    reply_by_test true h = refl
    reply_by_test false h = h

-- a command that edits, and the thing that it names
pub record EditOf (c : Command) (t : Target) : Type 0 where
  pub edit : Edit
  pub is : deed c ≡ Edits edit
  pub at : place_of edit ≡ t

pub edit-of : (c : Command) (t : Target) → target c ≡ Some t → EditOf c t
edit-of c t h = edit_of_deed (deed c) refl h
  where
    targets_agree : (s : Target) → Some s ≡ Some t → s ≡ t
    targets_agree s e = cc

    edit_of_deed : (d : Deed) → deed c ≡ d → place_in d ≡ Some t → EditOf c t
    edit_of_deed (Steps n) e h = absurd (cc)
    edit_of_deed (Edits edit) e h = record { edit = edit; is = e; at = targets_agree (place_of edit) h }
    edit_of_deed (Answers reply) e h = absurd (cc)

pub after-is : (w : World) (c : Command) (t : Target) (e : EditOf c t) → after w c ≡ either (verdict w c) w (edited w e.edit)
unfolding meaning
after-is w c t e =
    ap (λ (d : Deed). (done_or_refused w (answer d) (unless_refused w (refusals w c) d)).0) e.is
    ∙ done_world replies.Done (refusals w c) w (edited w e.edit)

pub reply-is : (w : World) (c : Command) (t : Target) (e : EditOf c t) → reply w c ≡ told (verdict w c)
unfolding meaning
reply-is w c t e =
    ap (λ (d : Deed). (done_or_refused w (answer d) (unless_refused w (refusals w c) d)).1) e.is
    ∙ done_reply (refusals w c) w (edited w e.edit)

-- ---- what is not edited

-- what there is of a thing is the same in two worlds
abbrev pub IsAlike : Option Target → World → World → Type 0
IsAlike None w v = Unit {0}
IsAlike (Some (OneParticle i)) w v = particle_at v.particles i ≡ particle_at w.particles i
IsAlike (Some (OneLink n)) w v = link_at v.links n ≡ link_at w.links n
IsAlike (Some TheGravity) w v = v.gravity ≡ w.gravity

-- two worlds in which a command that names this thing has the same tests
pub record Agree (t : Option Target) (w v : World) : Type 0 where
  pub limit : v.limit ≡ w.limit
  pub steps : v.steps ≡ w.steps
  pub tracks : v.tracks ≡ w.tracks
  pub particles : length v.particles ≡ length w.particles
  pub links : length v.links ≡ length w.links
  pub named : IsAlike t w v

edited_alike : (w : World) (e : Edit) (t : Option Target) → Some (place_of e) ≢ t → IsAlike t w (edited w e)
edited_alike w e None h = tt
edited_alike w (OnParticle i change lost) (Some (OneParticle j)) h =
    get_or-set_other w.particles i j (change (particle_at w.particles i)) no_particle
    (λ e. h (ap (λ k. Some (OneParticle k)) (sym e)))
edited_alike w (OnLink n) (Some (OneLink k)) h =
    get_or-set_other w.links n k (record (link_at w.links n) { live = false }) no_link (λ e. h (ap (λ i. Some (OneLink i)) (sym e)))
edited_alike w (OnGravity g) (Some TheGravity) h = absurd (h refl)
edited_alike w e (Some (OneParticle j)) h = refl
edited_alike w e (Some (OneLink k)) h = refl
edited_alike w e (Some TheGravity) h = refl

pub edited-agrees : (w : World) (e : Edit) (t : Option Target) → Some (place_of e) ≢ t → Agree t w (edited w e)
edited-agrees w (OnParticle i change lost) t h =
    record {
      limit = refl;
      steps = refl;
      tracks = refl;
      particles = length-set w.particles i (change (particle_at w.particles i));
      links = refl;
      named = edited_alike w (OnParticle i change lost) t h;
    }
edited-agrees w (OnLink n) t h =
    record {
      limit = refl;
      steps = refl;
      tracks = refl;
      particles = refl;
      links = length-set w.links n (record (link_at w.links n) { live = false });
      named = edited_alike w (OnLink n) t h;
    }
edited-agrees w (OnGravity g) t h =
    record { limit = refl; steps = refl; tracks = refl; particles = refl; links = refl; named = edited_alike w (OnGravity g) t h }

-- ---- edits of different things commute

pins_swap : (t : Ledger) (u v : Option Vec3) → pinned_by (pinned_by t u) v ≡ pinned_by (pinned_by t v) u
pins_swap t None v = refl
pins_swap t (Some u) None = refl
pins_swap t (Some u) (Some v) = ap (λ (s : Sum). record t { pin = s }) (sum_in_turn t.pin u v)

pub edits-commute : (w : World) (e f : Edit) → place_of e ≢ place_of f → edited (edited w e) f ≡ edited (edited w f) e
edits-commute w (OnParticle i f m) (OnParticle j g k) h =
    let p = particle_at w.particles i in
    let q = particle_at w.particles j in
    let differ : i ≢ j = λ e. h (ap OneParticle e) in
    let first : particle_at (set w.particles i (f p)) j ≡ q = get_or-set_other w.particles i j (f p) no_particle (λ e. differ (sym e)) in
    let second : particle_at (set w.particles j (g q)) i ≡ p = get_or-set_other w.particles j i (g q) no_particle differ in
    let particles = set_comm w.particles i j (f p) (g q) differ in
    let totals = pins_swap w.totals (m p) (k q) in
    ap (changed (changed w i f m p) j g k) first
    ∙ (λ x. record w { particles = particles x; totals = totals x })
    ∙ sym (ap (changed (changed w j g k q) i f m) second)
edits-commute w (OnLink n) (OnLink k) h =
    let off : Link → Link = λ l. record l { live = false } in
    let differ : n ≢ k = λ e. h (ap OneLink e) in
    let first = get_or-set_other w.links n k (off (link_at w.links n)) no_link (λ e. differ (sym e)) in
    let second = get_or-set_other w.links k n (off (link_at w.links k)) no_link differ in
    let links =
    ap (λ (l : Link). set (set w.links n (off (link_at w.links n))) k (off l)) first
    ∙ set_comm w.links n k (off (link_at w.links n)) (off (link_at w.links k)) differ
    ∙ sym (ap (λ (l : Link). set (set w.links k (off (link_at w.links k))) n (off l)) second) in
    λ x. record w { links = links x }
edits-commute w (OnGravity g) (OnGravity k) h = absurd (h refl)
edits-commute w e f h = refl
