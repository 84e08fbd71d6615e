-- The parts of a pass, and friction: what they keep of the particles and the ledger.
use Rattle.std.proofs.Common.{◌≡◌, refl, sym, ◌∙◌, ℕ, ◌+◌, ◌*◌, ◌<◌, ◌≤◌, ◌^◌, Bool, true, false, List, [], ◌∷◌, length, map, arith, ℤ}
use Rattle.std.proofs.Common.{unsigned_abs}
use Rattle.std.specs.Prelude.{Ok, IfOk, IsTrue, Option, Some, None, IfSome, if◌then◌else◌, option_map}
use Rattle.std.specs.List.{AllByRecursion, AllZip, zip}
use Rattle.pbd_num.specs.declared.Vec3.{Vec3}
use Rattle.pbd_num.specs.Vectors.{is_within, minus}
use Rattle.std.proofs.lemmas.Bool.{false≢true}
use Rattle.pbd_num.proofs.Ranges.{within_facts, wider}
use Rattle.pbd_world.specs.declared.parts.Particle.{Particle}
use Rattle.pbd_world.specs.declared.parts.Link.{Link}
use Rattle.pbd_world.specs.declared.bond.Bond.{Bond}
use Rattle.pbd_world.specs.declared.command.Phase.TheVariants as phases
use Rattle.pbd_world.specs.Ledger.{Ledger}
use Rattle.pbd_world.specs.Particles.{Motion, Moved, all_moved}
use Rattle.pbd_world.specs.World.{World}
use Rattle.pbd_world.specs.Outcomes.{with_fault, each_from}
use Rattle.pbd_world.specs.Bonds.{link_bond, contact_bond, one, projected}
use Rattle.pbd_world.specs.Colours.{order}
use Rattle.pbd_world.specs.Contacts.{link_pairs, live_flags}
use Rattle.pbd_world.specs.Shapes.{Shape, Way, Shaped, past, way_through, stays, still, shaped_by, shaped, shapes_of}
use Rattle.pbd_world.specs.Step.{Passing, link_part, contact_part, all_shaped, shape_part, leaves, pass}
use Rattle.pbd_world.proofs.KeepingOn.{bind-keeps, fault-keeps, each-keeps, length-mapped, length-zip, length-zipped, zip-map, all-at}
use Rattle.pbd_world.proofs.StepBalance.{AreEnds, ArePair, all-order}
use Rattle.pbd_world.proofs.BetweenLemmas.{step_size}
use Rattle.pbd_world.proofs.LedgerBounds.{IsQuiet, all_booked, bounded_weaker, moved_bounded, moved_links, moved_contacts, moved_damping}
use Rattle.pbd_world.proofs.KeptLemmas.{Kept, kept_join, Goes, goes_weaker, IsLimit, one_goes}
use Rattle.pbd_world.proofs.CountingOn.{ok_weaker, turn-counts, order_length}

-- ---- bonds

projected_goes : (limit : ℤ) (bond : ℕ → Bond) (pairs : List (ℕ × ℕ)) (live : List Bool) (ps : List Particle) (t : Ledger) (b most : ℕ)
    (m : Motion) → IsLimit limit → ((k : ℕ) → k < length pairs → AreEnds (length ps) (bond k)) → length pairs ≤ most → Goes limit ps t b m
    → IfOk (projected limit bond (order pairs live) m) (Goes limit ps t (b + 64 * most * 2 ^ 31))
projected_goes limit bond pairs live ps t b most m lim ends few h =
    ok_weaker (Goes limit ps t (b + length (order pairs live) * 2 ^ 31)) (Goes limit ps t (b + 64 * most * 2 ^ 31))
    (projected limit bond (order pairs live) m)
    (λ n k. goes_weaker limit ps t (b + length (order pairs live) * 2 ^ 31) (b + 64 * most * 2 ^ 31) n
    (omega (arith, order_length pairs live, few)) k)
    (turn-counts (λ n s. Goes limit ps t n s) (λ k. AreEnds (length ps) (bond k)) (2 ^ 31) (one limit bond)
    (λ x y s l k. goes_weaker limit ps t x y s l k)
    (λ k n s q j. one_goes limit bond k ps t n s lim q j)
    (order pairs live) (all-order (λ k. AreEnds (length ps) (bond k)) pairs live ends) b m h)

pub links_go : (w : World) (ps : List Particle) (t : Ledger) (b : ℕ) (m : Motion) → IsLimit w.limit
    → ((k : ℕ) → k < length w.links → AreEnds (length ps) (link_bond w.links k)) → length w.links ≤ 524288 → Goes w.limit ps t b m
    → IfOk (link_part w m) (Goes w.limit ps t (b + 2 ^ 56))
links_go w ps t b m lim ends few h =
    ok_weaker (Goes w.limit ps t (b + 64 * 524288 * 2 ^ 31)) (Goes w.limit ps t (b + 2 ^ 56)) (link_part w m)
    (λ n k. goes_weaker w.limit ps t (b + 64 * 524288 * 2 ^ 31) (b + 2 ^ 56) n (omega arith) k)
    (projected_goes w.limit (link_bond w.links) (link_pairs w.links) (live_flags w.links) ps t b 524288 m lim
    (λ k l. ends k (omega (arith, l, length-mapped {B = ℕ × ℕ} (λ (x : Link). (x.a, x.b)) w.links)))
    (omega (arith, few, length-mapped {B = ℕ × ℕ} (λ (x : Link). (x.a, x.b)) w.links)) h)

pub contacts_go : (w : World) (pairs : List (ℕ × ℕ)) (ps : List Particle) (t : Ledger) (b : ℕ) (m : Motion) → IsLimit w.limit
    → AllByRecursion (ArePair (length ps)) pairs → length pairs ≤ 262144 → Goes w.limit ps t b m
    → IfOk (contact_part w pairs m) (Goes w.limit ps t (b + 2 ^ 55))
contacts_go w pairs ps t b m lim all few h =
    ok_weaker (Goes w.limit ps t (b + 64 * 262144 * 2 ^ 31)) (Goes w.limit ps t (b + 2 ^ 55)) (contact_part w pairs m)
    (λ n k. goes_weaker w.limit ps t (b + 64 * 262144 * 2 ^ 31) (b + 2 ^ 55) n (omega arith) k)
    (projected_goes w.limit (contact_bond w.thickness pairs) pairs (map (λ pair. true) pairs) ps t b 262144 m lim
    (λ k l. let pair = all-at (ArePair (length ps)) pairs k (0, 0) l all in
    record { first = pair.first; second = pair.second; apart = pair.apart }) few h)

-- ---- shapes

-- a particle that moves with its entries, as a shape or friction moves it
pub record MovesIn (limit : ℤ) (p : Particle) (x : Moved) : Type 0 where
  pub kept : Kept limit p x.particle
  pub quiet : IsQuiet (Unit {0}) x

abbrev onto : Vec3 → Way
onto to = record { at = to; touched = true }

past_by : (limit : ℤ) (to : Vec3) (b : Bool) → (b ≡ true → IsTrue (is_within limit to))
    → IfSome (if b then Some (onto to) else None) (λ v. IsTrue (is_within limit v.at))
past_by limit to true h = h refl
past_by limit to false h = tt

past_inside : (limit : ℤ) (way : Way) (o : Option Vec3) → IsTrue (is_within limit way.at)
    → IfSome (past limit way o) (λ v. IsTrue (is_within limit v.at))
past_inside limit way None h = h
past_inside limit way (Some to) h = past_by limit to (is_within limit to) (λ e. e)

go_on : (P : Way → Type 0) (o : Option Way) (f : Way → Option Way) → IfSome o P → ((v : Way) → P v → IfSome (f v) P)
    → IfSome (elim o [ None ↦ None | Some next ↦ f next ]) P
go_on P None f h k = tt
go_on P (Some v) f h k = k v h

way_inside : (limit : ℤ) (shapes : List Shape) (way : Way) → IsTrue (is_within limit way.at)
    → IfSome (way_through limit shapes way) (λ v. IsTrue (is_within limit v.at))
way_inside limit [] way h = h
way_inside limit (shape ∷ shapes) way h = go_on (λ v. IsTrue (is_within limit v.at)) (past limit way (shape way.at))
    (way_through limit shapes) (past_inside limit way (shape way.at) h) (λ v k. way_inside limit shapes v k)

stays_in : (limit : ℤ) (p : Particle) → IsTrue (is_within limit p.at) → MovesIn limit p (stays p)
stays_in limit p h = record {
  kept = record { weight = refl; held = refl; before = refl; inside = h; stays = λ e. refl };
  quiet = record { few = omega arith; small = tt; links = λ t. refl; contacts = λ t. refl; damping = λ s t. refl };
}

way_in : (limit : ℤ) (p : Particle) (way : Way) → IsLimit limit → p.held ≡ false → IsTrue (is_within limit p.at)
    → IsTrue (is_within limit way.at) → MovesIn limit p (shaped_by p way).moved
way_in limit p way lim free h k =
    let l = unsigned_abs limit in
    let size = wider (minus way.at p.at) (2 * l) (2 ^ 30) (omega (arith, lim.high))
    (step_size way.at p.at l ((within_facts limit way.at lim.low).0 k) ((within_facts limit p.at lim.low).0 h)) in
    record {
      kept = record { weight = refl; held = refl; before = refl; inside = k; stays = λ e. absurd (not_both p.held free e) };
      quiet = record { few = omega arith; small = (size, tt); links = λ t. refl; contacts = λ t. refl; damping = λ s t. refl };
    }
  where
    not_both : (b : Bool) → b ≡ false → b ≡ true → ⊥
    not_both b e f = false≢true (sym e ∙ f)

ways_in : (limit : ℤ) (p : Particle) (o : Option Way) → IsLimit limit → p.held ≡ false → IsTrue (is_within limit p.at)
    → IfSome o (λ v. IsTrue (is_within limit v.at)) → IfSome (option_map (shaped_by p) o) (λ s. MovesIn limit p s.moved)
ways_in limit p None lim free h k = tt
ways_in limit p (Some way) lim free h k = way_in limit p way lim free h k

shaped_if : (limit : ℤ) (shapes : List Shape) (p : Particle) (held : Bool) → IsLimit limit → p.held ≡ held → IsTrue (is_within limit p.at)
    → IfSome (if held then Some (still p) else option_map (shaped_by p) (way_through limit shapes (record { at = p.at; touched = false })))
    (λ s. MovesIn limit p s.moved)
shaped_if limit shapes p true lim e h = stays_in limit p h
shaped_if limit shapes p false lim e h = ways_in limit p (way_through limit shapes (record { at = p.at; touched = false })) lim e h
    (way_inside limit shapes (record { at = p.at; touched = false }) h)

shaped_in : (limit : ℤ) (shapes : List Shape) (p : Particle) → IsLimit limit
    → IfSome (shaped limit shapes p) (λ s. IsTrue (is_within limit p.at) → MovesIn limit p s.moved)
unfolding shaped
shaped_in limit shapes p lim = later (if p.held then Some (still p) else
    option_map (shaped_by p) (way_through limit shapes (record { at = p.at; touched = false })))
    (λ h. shaped_if limit shapes p p.held lim refl h)
  where
    later : (o : Option Shaped) → (IsTrue (is_within limit p.at) → IfSome o (λ s. MovesIn limit p s.moved))
        → IfSome o (λ s. IsTrue (is_within limit p.at) → MovesIn limit p s.moved)
    later None f = tt
    later (Some s) f = f

-- ---- many moved at once

-- those that move in, from particles that are kept
moved_on : (limit : ℤ) (ps qs : List Particle) (ms : List Moved) → AllZip (Kept limit) ps qs
    → AllZip (λ q x. IsTrue (is_within limit q.at) → MovesIn limit q x) qs ms
    → AllZip (Kept limit) ps (map {A = Moved} {B = Particle} (λ m. m.particle) ms) × AllByRecursion (IsQuiet (Unit {0})) ms
moved_on limit [] [] [] h k = (tt, tt)
moved_on limit [] [] (m ∷ ms) h k = absurd k
moved_on limit [] (q ∷ qs) ms h k = absurd h
moved_on limit (p ∷ ps) [] ms h k = absurd h
moved_on limit (p ∷ ps) (q ∷ qs) [] h k = absurd k
moved_on limit (p ∷ ps) (q ∷ qs) (m ∷ ms) h k =
    let here = k.0 h.0.inside in
    let rest = moved_on limit ps qs ms h.1 k.1 in
    ((kept_join limit p q m.particle h.0 here.kept, rest.0), (here.quiet, rest.1))

all_moved_goes : (limit : ℤ) (ps : List Particle) (t : Ledger) (b : ℕ) (m : Motion) (ms : List Moved) → length ps ≤ 65536
    → Goes limit ps t b m → AllZip (λ q x. IsTrue (is_within limit q.at) → MovesIn limit q x) m.particles ms
    → Goes limit ps t (b + 2 ^ 47) (all_moved m.totals ms)
all_moved_goes limit ps t b m ms few h z =
    let on = moved_on limit ps m.particles ms h.kept z in
    let many : length ms ≡ length ps = length-zipped _ m.particles ms z ∙ length-zipped (Kept limit) ps m.particles h.kept in
    record {
      kept = on.0;
      bounded = bounded_weaker (all_booked m.totals ms) (b + length ms * 2 ^ 31) (b + 2 ^ 47) (omega (arith, many, few))
          (moved_bounded (Unit {0}) ms m.totals b on.1 h.bounded);
      damping = moved_damping (Unit {0}) ms m.totals tt on.1 ∙ h.damping;
      even = λ weight all. (
        moved_links (Unit {0}) ms m.totals on.1 ∙ (h.even weight all).0,
        moved_contacts (Unit {0}) ms m.totals on.1
            ∙ (h.even weight all).1,
      );
    }

-- the motion of a pass, and a flag for each particle
pub record PassGoes (limit : ℤ) (ps : List Particle) (t : Ledger) (b : ℕ) (s : Passing) : Type 0 where
  pub motion : Goes limit ps t b s.motion
  pub touched : length s.touched ≡ length ps

pub pass_weaker : (limit : ℤ) (ps : List Particle) (t : Ledger) (b c : ℕ) (s : Passing) → b ≤ c → PassGoes limit ps t b s
    → PassGoes limit ps t c s
pass_weaker limit ps t b c s l h = record { motion = goes_weaker limit ps t b c s.motion l h.motion; touched = h.touched }

all_shaped_goes : (limit : ℤ) (ps : List Particle) (t : Ledger) (b : ℕ) (s : Passing) (ss : List Shaped) → length ps ≤ 65536
    → PassGoes limit ps t b s → AllZip (λ p x. IsTrue (is_within limit p.at) → MovesIn limit p x.moved) s.motion.particles ss
    → PassGoes limit ps t (b + 2 ^ 47) (all_shaped s ss)
all_shaped_goes limit ps t b s ss few h z =
    let ms = map {A = Shaped} {B = Moved} (λ x. x.moved) ss in
    let flags = map {A = Shaped} {B = Bool} (λ x. x.touched) ss in
    let count : length ss ≡ length s.motion.particles = length-zipped _ s.motion.particles ss z in
    let same : length s.motion.particles ≡ length ps = length-zipped (Kept limit) ps s.motion.particles h.motion.kept in
    let many : length flags ≡ length s.touched = length-mapped {A = Shaped} (λ x. x.touched) ss ∙ count ∙ same ∙ sym h.touched in
    record {
      motion = all_moved_goes limit ps t b s.motion ms few h.motion
          (zip-map (λ q x. IsTrue (is_within limit q.at) → MovesIn limit q x) (λ (x : Shaped). x.moved) s.motion.particles ss z);
      touched = length-mapped _ (zip s.touched flags) ∙ length-zip s.touched flags many ∙ h.touched;
    }

pub shapes_go : (w : World) (ps : List Particle) (t : Ledger) (b : ℕ) (s : Passing) → IsLimit w.limit → length ps ≤ 65536
    → PassGoes w.limit ps t b s → IfOk (shape_part w s) (PassGoes w.limit ps t (b + 2 ^ 47))
shapes_go w ps t b s lim few h =
    let R : Particle → Shaped → Type 0 = λ p x. IsTrue (is_within w.limit p.at) → MovesIn w.limit p x.moved in
    bind-keeps (AllZip R s.motion.particles) (PassGoes w.limit ps t (b + 2 ^ 47))
    (each_from 0 (λ i p. shaped w.limit (shapes_of w.shapes) p) s.motion.particles) (λ ss. Ok (all_shaped s ss))
    (each-keeps R (λ i p. shaped w.limit (shapes_of w.shapes) p)
    (λ i p. shaped_in w.limit (shapes_of w.shapes) p lim) 0 s.motion.particles)
    (λ ss z. all_shaped_goes w.limit ps t b s ss few h z)

-- ---- a pass

pub pass_goes : (w : World) (pairs : List (ℕ × ℕ)) (ps : List Particle) (t : Ledger) (b : ℕ) (s : Passing) → IsLimit w.limit
    → length ps ≤ 65536 → ((k : ℕ) → k < length w.links → AreEnds (length ps) (link_bond w.links k)) → length w.links ≤ 524288
    → AllByRecursion (ArePair (length ps)) pairs → length pairs ≤ 262144
    → PassGoes w.limit ps t b s → IfOk (pass w pairs s) (PassGoes w.limit ps t (b + 2 ^ 57))
unfolding pass
pass_goes w pairs ps t b s lim few ends links all contacts h =
    bind-keeps (Goes w.limit ps t (b + 2 ^ 56)) (PassGoes w.limit ps t (b + 2 ^ 57))
    (with_fault (leaves w phases.Link) (link_part w s.motion)) _
    (fault-keeps (Goes w.limit ps t (b + 2 ^ 56)) (leaves w phases.Link) (link_part w s.motion)
    (links_go w ps t b s.motion lim ends links h.motion))
    (λ m km. bind-keeps (Goes w.limit ps t (b + 2 ^ 56 + 2 ^ 55)) (PassGoes w.limit ps t (b + 2 ^ 57))
    (with_fault (leaves w phases.Contact) (contact_part w pairs m)) _
    (fault-keeps (Goes w.limit ps t (b + 2 ^ 56 + 2 ^ 55)) (leaves w phases.Contact) (contact_part w pairs m)
    (contacts_go w pairs ps t (b + 2 ^ 56) m lim all contacts km))
    (λ n kn. fault-keeps (PassGoes w.limit ps t (b + 2 ^ 57)) (leaves w phases.Shape) (shape_part w (record s { motion = n }))
    (ok_weaker (PassGoes w.limit ps t (b + 2 ^ 56 + 2 ^ 55 + 2 ^ 47)) (PassGoes w.limit ps t (b + 2 ^ 57))
    (shape_part w (record s { motion = n }))
    (λ u k. pass_weaker w.limit ps t (b + 2 ^ 56 + 2 ^ 55 + 2 ^ 47) (b + 2 ^ 57) u (omega arith) k)
    (shapes_go w ps t (b + 2 ^ 56 + 2 ^ 55) (record s { motion = n }) lim few (record { motion = kn; touched = h.touched })))))
