-- A held particle without a track keeps its place.
use Rattle.std.proofs.Common.{◌≡◌, ◌≢◌, refl, sym, ap, ◌∙◌, ℕ, zero, suc, ◌+◌, ◌<◌, Bool, true, false, not, ◌&&◌, ◌||◌, List, [], ◌∷◌}
use Rattle.std.proofs.Common.{length, map, get_or, All, arith, ℤ, pos, inl, inr, subst}
use Rattle.std.specs.Prelude.{Option, Some, None, IfSome, Result, Ok, Err, IfOk, if◌then◌else◌, option_map}
use Rattle.std.specs.List.{AllByRecursion, AllZip, zip}
use Rattle.std.proofs.lemmas.Bool.{cases_eq, false≢true}
use Rattle.std.proofs.lemmas.List.{get_or-set_same, get_or-set_other}
use Rattle.std.proofs.lemmas.List.Elements.{All-head, All-tail}
use Rattle.pbd_num.specs.declared.Vec3.{Vec3}
use Rattle.pbd_num.specs.Vectors.{plus, is_within}
use Rattle.pbd_num.specs.PairMove.{pair_moves}
use Rattle.pbd_num.proofs.VectorSizes.{plus_nothing}
use Rattle.pbd_world.specs.declared.parts.Particle.{Particle}
use Rattle.pbd_world.specs.declared.parts.Track.{Track}
use Rattle.pbd_world.specs.declared.bond.Bond.{Bond}
use Rattle.pbd_world.specs.declared.bond.Shift.{Shift}
use Rattle.pbd_world.specs.declared.bond.Correction.TheVariants.{Slack, Leaves, Moves}
use Rattle.pbd_world.specs.declared.command.Command.{Command}
use Rattle.pbd_world.specs.declared.command.Command.TheVariants as commands
use Rattle.pbd_world.specs.declared.command.Phase.TheVariants as phases
use Rattle.pbd_world.specs.Particles.{Motion, Moved, all_moved, no_particle, particle_at, placed, effective_weight}
use Rattle.pbd_world.specs.World.{World, is_tracked}
use Rattle.pbd_world.specs.Outcomes.{with_fault, one_more, each_from}
use Rattle.pbd_world.specs.Tracks.{held_place}
use Rattle.pbd_world.specs.Bonds.{link_bond, contact_bond, end_of, is_slack, shift_of, correction_of, corrected, one, projected}
use Rattle.pbd_world.specs.Shapes.{Shape, Way, Shaped, stays, still, shaped_by, way_through, shaped, shapes_of, rubbed, slowed}
use Rattle.pbd_world.specs.Step.{attached, flown, if_within, predicted, predict, Passing, link_order, contact_order, link_part}
use Rattle.pbd_world.specs.Step.{contact_part, all_shaped, shape_part, leaves, pass, step}
use Rattle.pbd_world.specs.Meaning.{Edit, Deed, deed, edited, steps_of, after}
use Rattle.pbd_world.specs.Meaning.Deed.{Steps, Edits, Answers}
use Rattle.pbd_world.specs.Session.{last_world}
use Rattle.pbd_world.proofs.KeepingOn.{bind-keeps, fault-keeps, turn-keeps, repeat-keeps, each-keeps, length-mapped, length-zipped, zip-map}
use Rattle.pbd_world.proofs.KeptLemmas.{zip_at, held_first, held_second}
use Rattle.pbd_laws.specs.Targets.{place_of, place_in, target}
use Rattle.pbd_laws.specs.Targets.Target.{OneParticle}
use Rattle.pbd_world.proofs.StepsLead.{step-keeps}
use Rattle.pbd_world.proofs.Deeds.{Leads, command-leads}
use Rattle.pbd_laws.proofs.Edits.{edited-agrees}
use Rattle.pbd_world.proofs.PredictGoes.{untracked}

-- ---- a bond doesn't move a held end

weighs_nothing : (p : Particle) → p.held ≡ true → effective_weight p ≡ 0
weighs_nothing p e = ap (λ (b : Bool). if b then 0 else p.weight) e

first_stays : (p q : Particle) (bond : Bond) → p.held ≡ true → (shift_of (end_of p) (end_of q) bond).first ≡ p.at
unfolding shift_of
first_stays p q bond e =
    ap (λ n. plus p.at (pair_moves p.at q.at bond.rest bond.k (pos n) (pos (effective_weight q))).0) (weighs_nothing p e)
    ∙ ap (plus p.at) (held_first p.at q.at bond.rest bond.k (pos (effective_weight q))) ∙ plus_nothing p.at

second_stays : (p q : Particle) (bond : Bond) → q.held ≡ true → (shift_of (end_of p) (end_of q) bond).second ≡ q.at
unfolding shift_of
second_stays p q bond e =
    ap (λ n. plus q.at (pair_moves p.at q.at bond.rest bond.k (pos (effective_weight p)) (pos n)).1) (weighs_nothing q e)
    ∙ ap (plus q.at) (held_second p.at q.at bond.rest bond.k (pos (effective_weight p))) ∙ plus_nothing q.at

-- ---- particle i is p, which is held

pub record Holds (i : ℕ) (p : Particle) (ps : List Particle) : Type 0 where
  pub is : particle_at ps i ≡ p
  pub held : p.held ≡ true

-- a particle that is held is one of the list
held_inside : (ps : List Particle) (i : ℕ) → (particle_at ps i).held ≡ true → i < length ps
held_inside [] i h = absurd (false≢true h)
held_inside (p ∷ ps) zero h = omega arith
held_inside (p ∷ ps) (suc i) h = let l = held_inside ps i h in omega (arith, l)

inside : (i : ℕ) (p : Particle) (ps : List Particle) → Holds i p ps → i < length ps
inside i p ps h = held_inside ps i (ap (λ (q : Particle). q.held) h.is ∙ h.held)

placed_holds : (i j : ℕ) (p : Particle) (ps : List Particle) (to : Vec3) → Holds i p ps → (i ≡ j → to ≡ p.at) → Holds i p (placed ps j to)
placed_holds i j p ps to h same = record {
  held = h.held;
  is = elim (cases_eq i j) [
    | inl e ↦
        ap (λ k. particle_at (placed ps k to) i) (sym e)
        ∙ get_or-set_same ps i (record (particle_at ps i) { at = to }) no_particle (inside i p ps h)
        ∙ ap (λ (q : Particle). record q { at = to }) h.is ∙ ap (λ (v : Vec3). record p { at = v }) (same e)
    | inr other ↦ get_or-set_other ps j i (record (particle_at ps j) { at = to }) no_particle other ∙ h.is
  ];
}

-- ---- bonds

bond_by : (P : List Particle → Type 0) (n : ℕ) (bond : Bond) (s : Shift) (m : Motion) (slack within : Bool) → P m.particles
    → P (placed (placed m.particles bond.a s.first) bond.b s.second)
    → IfOk (corrected n bond (if slack then Slack else (if within then Moves s else Leaves)) m) (λ r. P r.particles)
bond_by P n bond s m true within h k = h
bond_by P n bond s m false true h k = k
bond_by P n bond s m false false h k = tt

one_holds : (i : ℕ) (p : Particle) (limit : ℤ) (bond : ℕ → Bond) (n : ℕ) (m : Motion) → Holds i p m.particles
    → IfOk (one limit bond n m) (λ r. Holds i p r.particles)
unfolding one correction_of
one_holds i p limit bond n m h =
    let ps = m.particles in
    let a = (bond n).a in
    let b = (bond n).b in
    let s = shift_of (end_of (particle_at ps a)) (end_of (particle_at ps b)) (bond n) in
    let is : (j : ℕ) → i ≡ j → particle_at ps j ≡ p = λ j e. ap (particle_at ps) (sym e) ∙ h.is in
    let holds : (j : ℕ) → i ≡ j → (particle_at ps j).held ≡ true = λ j e. ap (λ (q : Particle). q.held) (is j e) ∙ h.held in
    let first : i ≡ a → s.first ≡ p.at =
    λ e. first_stays (particle_at ps a) (particle_at ps b) (bond n) (holds a e) ∙ ap (λ (q : Particle). q.at) (is a e) in
    let second : i ≡ b → s.second ≡ p.at =
    λ e. second_stays (particle_at ps a) (particle_at ps b) (bond n) (holds b e) ∙ ap (λ (q : Particle). q.at) (is b e) in
    bond_by (Holds i p) n (bond n) s m (is_slack (end_of (particle_at ps a)) (end_of (particle_at ps b)) (bond n))
    (is_within limit s.first && is_within limit s.second) h
    (placed_holds i b p (placed ps a s.first) s.second (placed_holds i a p ps s.first h first) second)

all_any : (ns : List ℕ) → AllByRecursion (λ n. Unit {0}) ns
all_any [] = tt
all_any (n ∷ ns) = (tt, all_any ns)

bonds_hold : (i : ℕ) (p : Particle) (limit : ℤ) (bond : ℕ → Bond) (ns : List ℕ) (m : Motion) → Holds i p m.particles
    → IfOk (projected limit bond ns m) (λ r. Holds i p r.particles)
bonds_hold i p limit bond ns m h =
    turn-keeps (λ r. Holds i p r.particles) (λ n. Unit {0}) (one limit bond) (λ n r u k. one_holds i p limit bond n r k) ns (all_any ns) m h

-- ---- shapes

shaped_stays : (limit : ℤ) (shapes : List Shape) (p : Particle) → IfSome (shaped limit shapes p) (λ s. p.held ≡ true → s.moved.particle ≡ p)
unfolding shaped
shaped_stays limit shapes p = stays_if_held p.held refl
  where
    free : (o : Option Way) → p.held ≡ false → IfSome (option_map (shaped_by p) o) (λ s. p.held ≡ true → s.moved.particle ≡ p)
    free None e = tt
    free (Some way) e = λ h. absurd (false≢true (sym e ∙ h))

    stays_if_held : (held : Bool) → p.held ≡ held
        → IfSome (if held then Some (still p) else option_map (shaped_by p)
        (way_through limit shapes (record { at = p.at; touched = false })))
        (λ s. p.held ≡ true → s.moved.particle ≡ p)
    stays_if_held true e = λ h. refl
    stays_if_held false e = free (way_through limit shapes (record { at = p.at; touched = false })) e

-- what holds of a pass: particle i is p, and it has a flag
pub record PassHolds (i : ℕ) (p : Particle) (s : Passing) : Type 0 where
  pub motion : Holds i p s.motion.particles
  pub flag : i < length s.touched

zip_inside : {A B C : Type 0} (f : A × B → C) (xs : List A) (ys : List B) (i : ℕ) → i < length xs → i < length ys
    → i < length (map f (zip xs ys))
zip_inside f [] ys i h k = absurd (omega (arith, h))
zip_inside f (x ∷ xs) [] i h k = absurd (omega (arith, k))
zip_inside f (x ∷ xs) (y ∷ ys) zero h k = omega arith
zip_inside f (x ∷ xs) (y ∷ ys) (suc i) h k = let l = zip_inside f xs ys i (omega (arith, h)) (omega (arith, k)) in omega (arith, l)

all_shaped_holds : (i : ℕ) (p : Particle) (s : Passing) (ss : List Shaped) → PassHolds i p s
    → AllZip (λ q x. q.held ≡ true → x.moved.particle ≡ q) s.motion.particles ss → PassHolds i p (all_shaped s ss)
all_shaped_holds i p s ss h z =
    let ps = s.motion.particles in
    let ms = map {A = Shaped} {B = Moved} (λ x. x.moved) ss in
    let there = inside i p ps h.motion in
    let moved : AllZip (λ q m. q.held ≡ true → m.particle ≡ q) ps ms =
    zip-map (λ q m. q.held ≡ true → m.particle ≡ q) (λ (x : Shaped). x.moved) ps ss z in
    let placed : AllZip (λ q r. q.held ≡ true → r ≡ q) ps (map {A = Moved} {B = Particle} (λ m. m.particle) ms) =
    zip-map (λ q r. q.held ≡ true → r ≡ q)
    (λ (m : Moved). m.particle) ps ms moved in
    let flags = map {A = Shaped} {B = Bool} (λ x. x.touched) ss in
    let many : length flags ≡ length ps = length-mapped (λ (x : Shaped). x.touched) ss ∙ length-zipped _ ps ss z in
    record {
      motion = record {
        is = zip_at (λ q r. q.held ≡ true → r ≡ q) ps _ i no_particle no_particle placed there
            (ap (λ (q : Particle). q.held) h.motion.is ∙ h.motion.held)
            ∙ h.motion.is;
        held = h.motion.held;
      };
      flag = zip_inside (λ pair. pair.0 || pair.1) s.touched flags i h.flag (omega (arith, many, there));
    }

shapes_hold : (i : ℕ) (p : Particle) (w : World) (s : Passing) → PassHolds i p s → IfOk (shape_part w s) (PassHolds i p)
shapes_hold i p w s h =
    bind-keeps (AllZip (λ q x. q.held ≡ true → x.moved.particle ≡ q) s.motion.particles) (PassHolds i p)
    (each_from 0 (λ j q. shaped w.limit (shapes_of w.shapes) q) s.motion.particles) (λ ss. Ok (all_shaped s ss))
    (each-keeps (λ q x. q.held ≡ true → x.moved.particle ≡ q) (λ j q. shaped w.limit (shapes_of w.shapes) q)
    (λ j q. shaped_stays w.limit (shapes_of w.shapes) q) 0 s.motion.particles)
    (λ ss z. all_shaped_holds i p s ss h z)

-- ---- a pass

pass_holds : (i : ℕ) (p : Particle) (w : World) (pairs : List (ℕ × ℕ)) (s : Passing) → PassHolds i p s
    → IfOk (pass w pairs s) (PassHolds i p)
unfolding pass
pass_holds i p w pairs s h =
    bind-keeps (λ m. Holds i p m.particles) (PassHolds i p) (with_fault (leaves w phases.Link) (link_part w s.motion)) _
    (fault-keeps (λ m. Holds i p m.particles) (leaves w phases.Link) (link_part w s.motion) (bonds_hold i p w.limit (link_bond w.links)
    (link_order w.links) s.motion h.motion))
    (λ m km. bind-keeps (λ m. Holds i p m.particles) (PassHolds i p) (with_fault (leaves w phases.Contact) (contact_part w pairs m)) _
    (fault-keeps (λ m. Holds i p m.particles) (leaves w phases.Contact) (contact_part w pairs m)
    (bonds_hold i p w.limit (contact_bond w.thickness pairs)
    (contact_order pairs) m km))
    (λ n kn. fault-keeps (PassHolds i p) (leaves w phases.Shape) (shape_part w (record s { motion = n }))
    (shapes_hold i p w (record s { motion = n }) (record { motion = kn; flag = h.flag }))))

-- ---- the start and the end of a step

-- what f gives of item i
more_at : {B : Type 0} (R : B → Type 0) (d : B) (n : ℕ) (o : Option B) (r : Result (List B) ℕ) → IfSome o R
    → IfOk (one_more n o r) (λ ys. R (get_or ys 0 d))
more_at R d n None r h = tt
more_at R d n (Some y) (Ok ys) h = h
more_at R d n (Some y) (Err k) h = tt

more_later : {B : Type 0} (R : B → Type 0) (d : B) (n i : ℕ) (o : Option B) (r : Result (List B) ℕ) → IfOk r (λ ys. R (get_or ys i d))
    → IfOk (one_more n o r) (λ ys. R (get_or ys (suc i) d))
more_later R d n i None r h = tt
more_later R d n i (Some y) (Ok ys) h = h
more_later R d n i (Some y) (Err k) h = tt

each_at : {A B : Type 0} (R : B → Type 0) (f : ℕ → A → Option B) (c : A) (d : B) (n i j : ℕ) (xs : List A) → j ≡ n + i → i < length xs
    → IfSome (f j (get_or xs i c)) R → IfOk (each_from n f xs) (λ ys. R (get_or ys i d))
each_at R f c d n i j [] e l h = absurd (omega (arith, l))
each_at R f c d n zero j (x ∷ xs) e l h =
    let is : j ≡ n = omega (arith, e) in
    more_at R d n (f n x) (each_from (n + 1) f xs) (subst (λ k. IfSome (f k x) R) is h)
each_at R f c d n (suc i) j (x ∷ xs) e l h =
    more_later R d n i (f n x) (each_from (n + 1) f xs) (each_at R f c d (n + 1) i j xs (omega (arith, e)) (omega (arith, l)) h)

-- where a held particle without a track is at the start of a step
abbrev attached_at : Particle → Particle
attached_at p = record p { before = p.at }

predicted_holds : (w : World) (i : ℕ) (p : Particle) → p.held ≡ true → is_tracked w.tracks i ≡ false
    → IfSome (predicted w i p) (λ m. m.particle ≡ attached_at p)
predicted_holds w i p held none =
    subst (λ b. IfSome (if b then Some (stays (attached w i p)) else if_within w.limit (flown w p)) (λ m. m.particle ≡ attached_at p))
    (sym held)
    (ap (λ (o : Option Track). record p { before = p.at; at = held_place o (w.steps + 1) p.at }) (untracked w.tracks i none))

moved_at : (ms : List Moved) (i : ℕ) → particle_at (map {A = Moved} {B = Particle} (λ m. m.particle) ms) i
    ≡ (get_or ms i (stays no_particle)).particle
moved_at [] i = refl
moved_at (m ∷ ms) zero = refl
moved_at (m ∷ ms) (suc i) = moved_at ms i

predict_holds : (w : World) (i : ℕ) → (particle_at w.particles i).held ≡ true → is_tracked w.tracks i ≡ false
    → IfOk (predict w) (λ m. Holds i (attached_at (particle_at w.particles i)) m.particles)
unfolding predict
predict_holds w i held none =
    let p = particle_at w.particles i in
    bind-keeps (λ ms. (get_or ms i (stays no_particle)).particle ≡ attached_at p) (λ m. Holds i (attached_at p) m.particles)
    (each_from 0 (predicted w) w.particles) (λ ms. Ok (all_moved w.totals ms))
    (each_at (λ m. m.particle ≡ attached_at p) (predicted w) no_particle (stays no_particle) 0 i i w.particles (omega arith)
    (held_inside w.particles i held) (predicted_holds w i p held none))
    (λ ms h. record { is = moved_at ms i ∙ h; held = held })

rubbed_stays : (friction : ℤ) (p : Particle) (touched : Bool) → p.held ≡ true → (rubbed friction p touched).particle ≡ p
unfolding rubbed
rubbed_stays friction p touched e = ap (λ (b : Bool). (if not b && touched then slowed friction p else stays p).particle) e

rub_at : (friction : ℤ) (ps : List Particle) (ts : List Bool) (i : ℕ) → (particle_at ps i).held ≡ true → i < length ts
    → particle_at (map {A = Moved} {B = Particle} (λ m. m.particle)
    (map {A = Particle × Bool} {B = Moved} (λ pair. rubbed friction pair.0 pair.1)
    (zip ps ts))) i ≡ particle_at ps i
rub_at friction [] ts i h l = absurd (false≢true h)
rub_at friction (p ∷ ps) [] i h l = absurd (omega (arith, l))
rub_at friction (p ∷ ps) (t ∷ ts) zero h l = rubbed_stays friction p t h
rub_at friction (p ∷ ps) (t ∷ ts) (suc i) h l = rub_at friction ps ts i h (omega (arith, l))

-- ---- steps and commands

-- particle i is held, stands at this place, and no track names it
pub record StandsAt (i : ℕ) (at : Vec3) (w : World) : Type 0 where
  pub held : (particle_at w.particles i).held ≡ true
  pub place : (particle_at w.particles i).at ≡ at
  pub alone : is_tracked w.tracks i ≡ false

step_stands : (i : ℕ) (at : Vec3) (w : World) → StandsAt i at w → IfOk (step w) (StandsAt i at)
step_stands i at w h =
    let p = particle_at w.particles i in
    step-keeps w (λ m. Holds i (attached_at p) m.particles) (PassHolds i (attached_at p)) (StandsAt i at)
    (predict_holds w i h.held h.alone)
    (λ m k. record {
      motion = k;
      flag = omega (
        arith,
        length-mapped (λ (q : Particle). false) m.particles,
        inside i (attached_at p) m.particles k,
      );
    })
    (λ pairs s k. pass_holds i (attached_at p) w pairs s k)
    (λ pairs s k.
    let is = rub_at w.friction s.motion.particles s.touched i (ap (λ (q : Particle). q.held) k.motion.is ∙ h.held) k.flag ∙ k.motion.is in
    record { held = ap (λ (q : Particle). q.held) is ∙ h.held; place = ap (λ (q : Particle). q.at) is ∙ h.place; alone = h.alone })

steps_stand : (i : ℕ) (at : Vec3) (w : World) (n : ℕ) → StandsAt i at w → IfOk (steps_of n w) (StandsAt i at)
steps_stand i at w n h = repeat-keeps (StandsAt i at) step (λ u k. step_stands i at u k) n w h

pub steps-stand : (w : World) (n i : ℕ) → (particle_at w.particles i).held ≡ true → is_tracked w.tracks i ≡ false
    → (particle_at (after w (commands.Step n)).particles i).at ≡ (particle_at w.particles i).at
steps-stand w n i held alone =
    let at = (particle_at w.particles i).at in
    let h : StandsAt i at w = record { held = held; place = refl; alone = alone } in
    (command-leads (StandsAt i at) w (commands.Step n) h (λ es. steps_stand i at w n h)).place

edited_stands : (i : ℕ) (at : Vec3) (w : World) (e : Edit) → Some (place_of e) ≢ Some (OneParticle i) → StandsAt i at w
    → StandsAt i at (edited w e)
edited_stands i at w e other h =
    let a = edited-agrees w e (Some (OneParticle i)) other in
    record {
      held = ap (λ (q : Particle). q.held) a.named ∙ h.held;
      place = ap (λ (q : Particle). q.at) a.named ∙ h.place;
      alone = ap (λ (ts : List Track). is_tracked ts i) a.tracks ∙ h.alone;
    }

deed_stands : (i : ℕ) (at : Vec3) (w : World) (d : Deed) → place_in d ≢ Some (OneParticle i) → StandsAt i at w
    → Leads (StandsAt i at) w d
deed_stands i at w (Steps n) other h = steps_stand i at w n h
deed_stands i at w (Edits edit) other h = edited_stands i at w edit other h
deed_stands i at w (Answers reply) other h = tt

command_stands : (i : ℕ) (at : Vec3) (w : World) (c : Command) → target c ≢ Some (OneParticle i) → StandsAt i at w
    → StandsAt i at (after w c)
command_stands i at w c other h = command-leads (StandsAt i at) w c h (λ es. deed_stands i at w (deed c) other h)

pub session-stands : (i : ℕ) (at : Vec3) (w : World) (cs : List Command) → All (λ c. target c ≢ Some (OneParticle i)) cs → StandsAt i at w
    → StandsAt i at (last_world w cs)
session-stands i at w [] all h = h
session-stands i at w (c ∷ cs) all h =
    session-stands i at (after w c) cs (All-tail (λ x. target x ≢ Some (OneParticle i)) c cs all)
    (command_stands i at w c (All-head (λ x. target x ≢ Some (OneParticle i)) c cs all) h)

pub held-stays : (w : World) (i : ℕ) (cs : List Command) → (particle_at w.particles i).held ≡ true → is_tracked w.tracks i ≡ false
    → All (λ c. target c ≢ Some (OneParticle i)) cs → StandsAt i (particle_at w.particles i).at (last_world w cs)
held-stays w i cs held alone all = session-stands i (particle_at w.particles i).at w cs all
    (record { held = held; place = refl; alone = alone })
