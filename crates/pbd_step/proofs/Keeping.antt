-- What a solver keeps over its commands.
use Rattle.std.proofs.Common.{◌≡◌, refl, sym, ap, ◌∙◌, ℕ, ◌<◌, ◌≤◌, List, [], ◌∷◌, Bool, true, false, length, map, ◌≢◌, arith, subst}
use Rattle.std.proofs.Common.{◌+◌, ℤ, MatchResult, OnErr, Result, Ok, Err, ◌⊎◌, inl, inr}
use Rattle.pbd_world.specs.declared.parts.Particle.{Particle}
use Rattle.pbd_world.specs.declared.parts.Link.{Link}
use Rattle.pbd_world.specs.declared.parts.Parts.{Parts}
use Rattle.pbd_world.specs.declared.command.Command.{Command}
use Rattle.pbd_world.specs.declared.command.Command.TheVariants as commands
use Rattle.pbd_world.specs.declared.command.Refusal.{Refusal}
use Rattle.pbd_num.specs.declared.Vec3.{Vec3}
use Rattle.pbd_world.specs.declared.command.Reply.{Reply}
use Rattle.pbd_world.specs.declared.command.Reply.TheVariants as replies
use Rattle.pbd_world.specs.Meaning.{steps_of, outcome, answer, deed}
use Rattle.pbd_world.specs.Meaning.{refusals as world_refusals}
use Rattle.pbd_world.specs.World.{World, IsSound, AreOfOneScene, live_count, opened, parts_of}
use Rattle.pbd_world.proofs.CommandSound.{command-sound, command-scene}
use Rattle.pbd_world.proofs.Deeds.{done-world, done-reply, refused-world, refused-reply}
use Rattle.pbd_world.proofs.KeepingOn.{length-mapped}
use Rattle.pbd_colour.specs.Pairs.{Coloured, InRange}
use Rattle.pbd_step.specs.declared.state.Setting.{Setting}
use Rattle.pbd_step.specs.declared.state.State.{State}
use Rattle.pbd_step.specs.declared.state.Scratch.{Scratch}
use Rattle.std.specs.Prelude.{IsTrue, count_by, nat_le, nat_lt, not, ◌&&◌}
use Rattle.std.proofs.lemmas.Bool.{le-leb, lt-leb, le-ltb, lt-ltb}
use Rattle.std.proofs.lemmas.List.Sums.{length-filter}
use Rattle.std.proofs.lemmas.Simd.{map-map}
use Rattle.pbd_world.specs.declared.command.Refusal.TheVariants as refusals
use Rattle.pbd_world.specs.Outcomes.{◌>>=◌, unless}
use Rattle.std.proofs.lemmas.Bool.{and_parts, leb-true, false≢true}
use Rattle.std.proofs.lemmas.List.{get_or-map}
use Rattle.std.proofs.lemmas.List.Sums.{AllPass-from_list_all}
use Rattle.pbd_world.specs.Bonds.{link_at, no_link, link_bond}
use Rattle.pbd_world.specs.Step.{link_order}
use Rattle.pbd_store.specs.Gathering.{index_at}
use Rattle.pbd_pair.specs.Laid.{lists_in, AreLaid}
use Rattle.pbd_world.specs.Contacts.{link_pairs, live_flags}
use Rattle.pbd_world.specs.Valid.{is_valid, is_well_formed, is_valid_link, are_valid_links}
use Rattle.pbd_world.proofs.WorldParts.{Formed, formed}
use Rattle.pbd_step.proofs.UnderWay.{link_is_bond, link_parts}
use Rattle.pbd_world.specs.Particles.{effective_weight}
use Rattle.pbd_tear.specs.Tearing.{numbers_with_tear_length}
use Rattle.pbd_step.specs.States.{world_of, fixed_links, AreWeights, HasLinks, HaveSpace, AreLinksLaid, KnowsLinks}
use Rattle.pbd_step.proofs.Settling.{fixed_numbers, same_links}
use Rattle.pbd_world.proofs.OpenedLemmas.{opened-is_sound}
use Rattle.pbd_step.specs.Opening.{AreCopied, IsFirst, IsUnused}
use Rattle.pbd_step.specs.Solving.{AreAlike, IsKept, IsTakenOver, Solved}
use Rattle.pbd_step.specs.Obeying.{Obeys, Commanded, IsAnswered}
use Rattle.pbd_world.proofs.OrderCounts.{flags_kept}
use Rattle.pbd_world.proofs.SameShape.{scene_particles, scene_links}

-- ---- what a command leads to

-- a command that a part obeys leads from a sound world to a sound world of the same scene
pub commanded : {S : Type 0} {world : S → World} {r : Result (Unit {0}) Refusal} {old new : S} (c : Command)
    → Obeys world r (outcome (world old) c) old new → IsSound (world old) → Commanded r (outcome (world old) c) (world old) (world new)
commanded {S} {world} {r} {old} {new} c h sound = commanded_by r h.outcome h.kept
  where
    commanded_by : (r : Result (Unit {0}) Refusal)
        → MatchResult r (λ x. outcome (world old) c ≡ Ok (world new)) (λ refusal. outcome (world old) c ≡ Err refusal)
        → OnErr r (new ≡ old) → Commanded r (outcome (world old) c) (world old) (world new)
    commanded_by (Ok x) e kept =
        let there = done-world (world old) (world new) c e in
        record {
          obeys = record { outcome = e; kept = kept };
          sound = subst IsSound there (command-sound (world old) c sound);
          one_scene = subst (AreOfOneScene (world old)) there (command-scene (world old) c sound);
        }
    commanded_by (Err refusal) e kept =
        record {
          obeys = record { outcome = e; kept = ap world kept };
          sound = subst IsSound (sym (ap world kept)) sound;
          one_scene = subst (AreOfOneScene (world old)) (sym (ap world kept)) refl;
        }

-- the same of the world as callers see it
pub seen_commanded : {P : Type 0} {inside seen : Solved P} {r : Result (Unit {0}) Refusal} {new : World} (c : Command)
    → inside ≡ seen → Commanded r (outcome inside.world c) inside.world new → Commanded r (outcome seen.world c) seen.world new
seen_commanded {P} {inside} {seen} {r} {new} c is h = subst (λ (s : Solved P). Commanded r (outcome s.world c) s.world new) is h

-- a command that a part obeys, likewise
pub seen_obeyed : {S P : Type 0} {world : S → World} {old new : S} {inside seen : Solved P} {r : Result (Unit {0}) Refusal} (c : Command)
    → Obeys world r (outcome (world old) c) old new → IsSound (world old)
    → inside ≡ seen → inside.world ≡ world old → Commanded r (outcome seen.world c) seen.world (world new)
seen_obeyed {S} {P} {world} {old} {new} {inside} {seen} {r} c h sound is same =
    seen_commanded c is (subst (λ (w : World). Commanded r (outcome w c) w (world new)) (sym same) (commanded c h sound))

-- a refusal leaves it as it was
pub refused : {P : Type 0} {inside seen : Solved P} {refusal : Refusal} (c : Command) → inside ≡ seen
    → IsSound inside.world → outcome inside.world c ≡ Err refusal → Commanded (Err refusal) (outcome seen.world c) seen.world seen.world
refused {P} {inside} {seen} {refusal} c is sound e =
    subst (λ (s : Solved P). Commanded (Err refusal) (outcome s.world c) s.world s.world) is
    (record { obeys = record { outcome = e; kept = refl }; sound = sound; one_scene = refl })

-- a command that is answered alone
pub answered : {P : Type 0} {inside seen : Solved P} (c : Command) → inside ≡ seen → IsSound inside.world
    → outcome inside.world c ≡ Ok inside.world → Commanded (Ok tt) (outcome seen.world c) seen.world seen.world
answered {P} {inside} {seen} c is sound e =
    subst (λ (s : Solved P). Commanded (Ok tt) (outcome s.world c) s.world s.world) is
    (record { obeys = record { outcome = e; kept = tt }; sound = sound; one_scene = refl })

-- the same command by another name
pub commanded_as : {r : Result (Unit {0}) Refusal} {w v : World} (c d : Command) → c ≡ d → Commanded r (outcome w d) w v
    → Commanded r (outcome w c) w v
commanded_as {r} {w} {v} c d is h = subst (λ (x : Command). Commanded r (outcome w x) w v) (sym is) h

-- a command that was done is answered as it is meant
pub answers : {r : Result (Unit {0}) Refusal} {w v : World} {x : Reply} (c : Command) → Commanded r (outcome w c) w v
    → MatchResult r (λ y. x ≡ answer (deed c)) (λ refusal. x ≡ replies.Refused refusal) → IsAnswered w v c x
answers {r} {w} {v} {x} c h told = answered_by r h.obeys.outcome h.obeys.kept told
  where
    answered_by : (r : Result (Unit {0}) Refusal) → MatchResult r (λ y. outcome w c ≡ Ok v) (λ refusal. outcome w c ≡ Err refusal)
        → OnErr r (v ≡ w) → MatchResult r (λ y. x ≡ answer (deed c)) (λ refusal. x ≡ replies.Refused refusal) → IsAnswered w v c x
    answered_by (Ok y) e kept is = record {
      reply = is ∙ sym (done-reply w v c e);
      world = sym (done-world w v c e);
      sound = h.sound;
      one_scene = h.one_scene;
    }
    answered_by (Err refusal) e kept is = record {
      reply = is ∙ sym (refused-reply w c refusal e);
      world = kept ∙ sym (refused-world w c refusal e);
      sound = h.sound;
      one_scene = h.one_scene;
    }

-- ---- worlds of one scene

-- two worlds that callers see as worlds of one scene are of one
pub inner_scene : {P : Type 0} {mine seen : World} {inside outside : Solved P} → mine ≡ seen → inside ≡ outside
    → AreOfOneScene seen outside.world → AreOfOneScene mine inside.world
inner_scene e f h = coe 0 1 (i. AreOfOneScene (sym e i) (sym f i).world) h

dead_many : (ls : List Link) → length (map {A = Link} {B = Link} (λ l. record l { live = false }) ls) ≡ length ls
dead_many ls = length-mapped {A = Link} {B = Link} (λ l. record l { live = false }) ls

pub scene_limit : (v w : World) → AreOfOneScene v w → v.limit ≡ w.limit
scene_limit v w e = ap (λ (u : World). u.limit) e

-- ---- what a solver keeps

-- as many weights as particles
pub weights_many : {l : ℕ} (s : State l) → AreWeights s → length s.weights.items ≡ length s.store.particles
weights_many s w = ap (λ (ws : List ℕ). length ws) w ∙ length-mapped effective_weight s.store.particles

as_many : {l : ℕ} (s t : State l) → AreWeights s → AreWeights t → length s.store.particles ≡ length t.store.particles
    → length s.weights.items ≡ length t.weights.items
as_many s t ws wt e = weights_many s ws ∙ e ∙ sym (weights_many t wt)

-- two states of one scene have room for the same
pub scene_alike : {l : ℕ} (setting setting' : Setting) (s t : State l) → AreWeights s → AreWeights t
    → AreOfOneScene (world_of setting s) (world_of setting' t) → AreAlike s t
scene_alike setting setting' s t ws wt e = record {
  particles = scene_particles (world_of setting s) (world_of setting' t) e;
  limit = scene_limit (world_of setting s) (world_of setting' t) e;
  weights = as_many s t ws wt (scene_particles (world_of setting s) (world_of setting' t) e);
  links = scene_links (world_of setting s) (world_of setting' t) e;
}

pub scene_fixed : {l : ℕ} (setting setting' : Setting) (s t : State l)
    → AreOfOneScene (world_of setting s) (world_of setting' t) → fixed_links s.links.items ≡ fixed_links t.links.items
scene_fixed setting setting' s t e = ap (λ (w : World). w.links) e

-- links join the same pairs whether they are live or not
dead_pairs : (links : List Link) → link_pairs (map {A = Link} {B = Link} (λ l. record l { live = false }) links) ≡ link_pairs links
dead_pairs links = map-map {A = Link} {B = Link} {C = ℕ × ℕ} (λ l. (l.a, l.b)) (λ l. record l { live = false }) links

pub fixed_pairs : (links others : List Link) → fixed_links links ≡ fixed_links others → link_pairs links ≡ link_pairs others
fixed_pairs links others e = sym (dead_pairs links) ∙ ap link_pairs e ∙ dead_pairs others

pub scene_pairs : {l : ℕ} (setting setting' : Setting) (s t : State l)
    → AreOfOneScene (world_of setting s) (world_of setting' t) → link_pairs s.links.items ≡ link_pairs t.links.items
scene_pairs setting setting' s t e =
    sym (dead_pairs s.links.items) ∙ ap (λ (w : World). link_pairs w.links) e ∙ dead_pairs t.links.items

fixed_count : (links others : List Link) → fixed_links links ≡ fixed_links others → length links ≡ length others
fixed_count links others e = sym (dead_many links) ∙ ap (λ (ls : List Link). length ls) e ∙ dead_many others

-- a colouring of links that has taken over which others are live, of the same pairs, has those
pub taken_links : {n m : ℕ} {links others : List Link} {mine old new : Coloured} → HasLinks n links mine → HasLinks m others old → n ≡ m
    → fixed_links links ≡ fixed_links others → new ≡ record mine { live = old.live } → HasLinks m others new
taken_links {n} {m} {links} {others} h k many fixed is = record {
  particles = ap (λ (c : Coloured). c.particles) is ∙ h.particles ∙ many;
  pairs = ap (λ (c : Coloured). c.pairs) is ∙ h.pairs ∙ fixed_pairs links others fixed;
  live = ap (λ (c : Coloured). c.live) is ∙ k.live;
  room = omega (arith, h.room, ap (λ (c : Coloured). c.room) is, fixed_count links others fixed);
}

pub same_alike : {l : ℕ} (s t : State l) (setting : Setting) → s.weights.items ≡ t.weights.items → world_of setting s ≡ world_of setting t
    → AreAlike s t
same_alike s t setting w e = record {
  particles = ap (λ (u : World). length u.particles) e;
  limit = ap (λ (u : World). u.limit) e;
  weights = ap (λ (ws : List ℕ). length ws) w;
  links = ap (λ (u : World). length u.links) e;
}

pub taken_alike : {l : ℕ} {old new other : State l} → IsTakenOver old new other → AreAlike other new
taken_alike h = record {
  particles = ap (λ (ps : List Particle). length ps) (sym h.particles);
  limit = sym h.limit;
  weights = ap (λ (ws : List ℕ). length ws) (sym h.weights);
  links = ap (λ (ls : List Link). length ls) (sym h.links);
}

-- the weights of a state that was taken over
pub weights_taken : {l : ℕ} (s t : State l) → s.weights.items ≡ t.weights.items → s.store.particles ≡ t.store.particles → AreWeights t
    → AreWeights s
weights_taken s t w e h = w ∙ h ∙ ap (λ (ps : List Particle). map effective_weight ps) (sym e)

pub alike_join : {l : ℕ} (r s t : State l) → AreAlike r s → AreAlike s t → AreAlike r t
alike_join r s t h k = record {
  particles = h.particles ∙ k.particles;
  limit = h.limit ∙ k.limit;
  weights = h.weights ∙ k.weights;
  links = h.links ∙ k.links;
}

-- the same is kept of a state that moved, with the colours of its links and scratch of the same room
pub kept_moved : {l : ℕ} (setting : Setting) (old new kept : State l) (colours : Coloured) (scratch : Scratch)
    → IsSound (world_of setting new)
    → AreWeights new → AreAlike old new
    → AreAlike kept old → HasLinks (length old.store.particles) new.links.items colours
    → HaveSpace (length old.store.particles) (length old.links.items) scratch → KnowsLinks new scratch
    → IsKept setting new kept colours scratch
kept_moved setting old new kept colours scratch sound weights same alike links space knows = record {
  sound = sound;
  weights = weights;
  links = subst (λ (n : ℕ). HasLinks n new.links.items colours) same.particles links;
  space = subst (λ (m : ℕ). HaveSpace (length new.store.particles) m scratch) same.links
      (subst (λ (n : ℕ). HaveSpace n (length old.links.items) scratch) same.particles space);
  knows = knows;
  alike = alike_join kept old new alike same;
}

pub said_room : {n m : ℕ} {scratch : Scratch} (said : Bool) → HaveSpace n m scratch
    → HaveSpace n m (record scratch { are_links_laid = said })
said_room said h = search

-- where it is said that no links are laid, nothing is said of the columns
pub none_laid : {A : Type 0} → IsTrue false → A
none_laid {A} h = absurd (false≢true h)

-- the same is kept where a command has left particles and links of as many, with their colours, and the scratch say rightly whether
-- the live links are laid
pub kept_commanded : {l : ℕ} {setting setting' : Setting} {old new kept : State l} {colours colours' : Coloured} {scratch : Scratch}
    {r : Result (Unit {0}) Refusal} {meant : Result World Refusal} → IsKept setting old kept colours scratch
    → Commanded r meant (world_of setting old) (world_of setting' new) → AreWeights new
    → HasLinks (length old.store.particles) new.links.items colours'
    → (said : Bool) → (IsTrue said → AreLinksLaid new scratch.laid_links)
    → IsKept setting' new kept colours' (record scratch { are_links_laid = said })
kept_commanded {l} {setting} {setting'} {old} {new} {kept} {colours} {colours'} {scratch} h done weights links said laid =
    kept_moved setting' old new kept colours' (record scratch { are_links_laid = said })
    done.sound weights (scene_alike setting setting' old new h.weights weights done.one_scene) h.alike links (said_room said h.space)
    (record {
      numbers = h.knows.numbers ∙ fixed_numbers old.links.items new.links.items (ap (λ (w : World). w.links) done.one_scene);
      laid = laid;
    })

-- the same of a command that a state obeys, where it has left the links as they were
pub kept_linked : {l : ℕ} {setting : Setting} {old new kept : State l} {colours : Coloured} {scratch : Scratch}
    {r : Result (Unit {0}) Refusal} (c : Command)
    → IsKept setting old kept colours scratch → Obeys (λ (s : State l). world_of setting s) r (outcome (world_of setting old) c) old new
    → AreWeights new → new.links.items ≡ old.links.items
    → (said : Bool) → (IsTrue said → AreLinksLaid new scratch.laid_links)
    → IsKept setting new kept colours (record scratch { are_links_laid = said })
kept_linked {l} {setting} {old} {new} {kept} {colours} c h obeys weights same said laid =
    kept_commanded h (commanded c obeys h.sound) weights
    (subst (λ (ls : List Link). HasLinks (length old.store.particles) ls colours) (sym same) h.links) said laid

-- what is known of the links of a state that becomes another one of the same scene
pub known_again : {l : ℕ} {old new : State l} (other : State l) {scratch then : Scratch} {flags : List Bool} {coloured weighed : Bool}
    → KnowsLinks old scratch → fixed_links old.links.items ≡ fixed_links other.links.items
    → new.links.items ≡ other.links.items → new.weights.items ≡ other.weights.items
    → flags ≡ live_flags old.links.items → (IsTrue coloured → flags ≡ live_flags other.links.items)
    → (IsTrue weighed → old.weights.items ≡ other.weights.items)
    → then ≡ record scratch {
      are_links_laid = (scratch.are_links_laid && coloured) && weighed;
      pairs = then.pairs;
      numbers = then.numbers;
    } → KnowsLinks new then
known_again {l} {old} {new} other {scratch} {then} h fixed el ew live coloured_so weighed_so kept = record {
  numbers = ap (λ (t : Scratch). t.with_tear_length.entries) kept ∙ h.numbers ∙ fixed_numbers old.links.items other.links.items fixed
      ∙ sym (ap numbers_with_tear_length el);
  laid = λ is.
      let last = and_parts _ _ (sym (ap (λ (t : Scratch). t.are_links_laid) kept) ∙ is) in
      let first = and_parts _ _ last.0 in
      let links = same_links old.links.items other.links.items fixed (sym live ∙ coloured_so first.1) ∙ sym el in
      let weights = weighed_so last.1 ∙ sym ew in
      coe 0 1 (i. AreLaid (link_bond (links i)) (index_at (weights i)) (link_order (links i)) (lists_in (sym kept i).laid_links))
      (h.laid first.0);
}

-- ---- links in range

pub links_in_range : (limit : ℤ) (n : ℕ) (links : List Link) → IsTrue (are_valid_links limit n links) → InRange n (link_pairs links)
links_in_range limit n links valid = λ k lt.
    let ends : Link → ℕ × ℕ = λ l. (l.a, l.b) in
    let l : k < length links = omega (arith, lt, length-mapped ends links) in
    let is = link_is_bond limit n (link_at links k) (AllPass-from_list_all (is_valid_link limit n) links
    (link_parts limit n links valid).1 k no_link l) in
    subst (λ (pair : ℕ × ℕ). (pair.0 < n) × (pair.1 < n) × (pair.0 ≢ pair.1)) (sym (get_or-map ends links k _ _ l))
    (is.first, is.second, is.different)

-- so many particles and links as a world may have, the links between its particles
pub record HasFit (ps : List Particle) (ls : List Link) : Type 0 where
  pub particles : length ps ≤ 65536
  pub links : length ls ≤ 524288
  pub in_range : InRange (length ps) (link_pairs ls)

pub formed_fit : (w : World) → IsTrue (is_well_formed (parts_of w)) → HasFit w.particles w.links
formed_fit w h =
    let f = formed (parts_of w) h in
    record {
      particles = leb-true (length w.particles) 65536 (and_parts _ _ f.particles).0;
      links = (link_parts w.limit (length w.particles) w.links f.links).0;
      in_range = links_in_range w.limit (length w.particles) w.links f.links;
    }

-- so many tracks as a world may have
pub formed_tracks : (w : World) → IsTrue (is_well_formed (parts_of w)) → length w.tracks ≤ 4096
formed_tracks w h = leb-true (length w.tracks) 4096 (and_parts _ _ (and_parts _ _ (formed (parts_of w) h).tracks).0).0

pub taken_fit : (ps qs : List Particle) (links others : List Link) → ps ≡ qs → links ≡ others → HasFit qs others → HasFit ps links
taken_fit ps qs links others e f h = subst (λ (xs : List Particle). HasFit xs links) (sym e)
    (subst (λ (ls : List Link). HasFit qs ls) (sym f) h)

-- the live flags of links count the live links
pub flags_count : (links : List Link) → count_by (λ b. b) (live_flags links) ≡ live_count links
flags_count links = sym (length-filter (λ b. b) (live_flags links)) ∙ flags_kept links

-- ---- steps of a command

-- what the tests of a count come to
tests_are : (w : World) (n : ℕ) (some few late : Bool) → nat_le 1 n ≡ some → nat_le n 100000 ≡ few → nat_lt 1000000 (w.steps + n) ≡ late
    → unless (world_refusals w (commands.Step n)) w ≡ unless ((not (some && few), refusals.BadCount) ∷ (late, refusals.StepLimit) ∷ []) w
tests_are w n some few late e f g = λ i. unless ((not (e i && f i), refusals.BadCount) ∷ (g i, refusals.StepLimit) ∷ []) w

-- what the steps come to where the tests do
run_is : (w : World) (n : ℕ) (r : Result World Refusal) → unless (world_refusals w (commands.Step n)) w ≡ r
    → outcome w (commands.Step n) ≡ (r >>= steps_of n)
run_is w n r e = ap (λ (s : Result World Refusal). s >>= steps_of n) e

-- a count in its range that stays below the step limit
pub goes_on : (w : World) (n : ℕ) → 1 ≤ n → n ≤ 100000 → w.steps + n ≤ 1000000 → unless (world_refusals w (commands.Step n)) w ≡ Ok w
goes_on w n low high few = tests_are w n true true false (le-leb 1 n low) (le-leb n 100000 high) (le-ltb 1000000 (w.steps + n) few)

pub run_goes : (w : World) (n : ℕ) → 1 ≤ n → n ≤ 100000 → w.steps + n ≤ 1000000 → outcome w (commands.Step n) ≡ steps_of n w
run_goes w n low high few = run_is w n (Ok w) (goes_on w n low high few)

-- counts that are refused
pub run_uncounted : (w : World) (n : ℕ) → (n < 1) ⊎ ((1 ≤ n) × (100000 < n)) → outcome w (commands.Step n) ≡ Err refusals.BadCount
run_uncounted w n out = elim out [
  | inl none ↦ run_is w n (Err refusals.BadCount) (tests_are w n false (nat_le n 100000) (nat_lt 1000000 (w.steps + n))
      (lt-leb 1 n none) refl refl)
  | inr both ↦ run_is w n (Err refusals.BadCount) (tests_are w n true false (nat_lt 1000000 (w.steps + n)) (le-leb 1 n both.0)
      (lt-leb n 100000 both.1) refl)
]

pub run_late : (w : World) (n : ℕ) → 1 ≤ n → n ≤ 100000 → 1000000 < w.steps + n → outcome w (commands.Step n) ≡ Err refusals.StepLimit
run_late w n low high late = run_is w n (Err refusals.StepLimit)
    (tests_are w n true true true (le-leb 1 n low) (le-leb n 100000 high) (lt-ltb 1000000 (w.steps + n) late))

-- ---- another world of one scene

-- a setting with the gravity of another, and the state of another, make up the other's world
pub scene_world : {l : ℕ} (mine other : Setting) (state now : State l) → AreOfOneScene (world_of mine state) (world_of other now)
    → world_of (record mine { gravity = other.gravity }) now ≡ world_of other now
scene_world mine other state now e = λ i. record (world_of other now) {
  tracks = (ap (λ (u : World). u.tracks) e) i;
  shapes = (ap (λ (u : World). u.shapes) e) i;
  passes = (ap (λ (u : World). u.passes) e) i;
  damping = (ap (λ (u : World). u.damping) e) i;
  thickness = (ap (λ (u : World). u.thickness) e) i;
  friction = (ap (λ (u : World). u.friction) e) i;
  opening = (ap (λ (u : World). u.opening) e) i;
}

-- valid parts, part by part
pub valid_formed : (parts : Parts) → IsTrue (is_valid parts) → Formed parts
unfolding is_valid
valid_formed parts h = formed parts (and_parts _ _ (and_parts _ _ (and_parts _ _ h).0).0).0

pub valid_fit : (parts : Parts) → IsTrue (is_valid parts) → HasFit parts.particles parts.links
unfolding is_valid
valid_fit parts h = formed_fit (opened parts) (and_parts _ _ (and_parts _ _ (and_parts _ _ h).0).0).0

-- ---- opening

pub opened_world : {l : ℕ} (parts : Parts) (setting : Setting) (state : State l) → AreCopied parts setting → IsFirst parts state
    → world_of setting state ≡ opened parts
opened_world parts setting state h f = λ i. record {
  limit = f.limit i;
  steps = f.steps i;
  particles = f.particles i;
  links = f.links i;
  tracks = h.tracks i;
  shapes = h.shapes i;
  gravity = h.gravity i;
  passes = h.passes i;
  damping = h.damping i;
  thickness = h.thickness i;
  friction = h.friction i;
  contacts = f.contacts i;
  totals = f.totals i;
  opening = h.opening i;
}

-- what opens on valid parts keeps them
pub opened_kept : {l : ℕ} (parts : Parts) (setting : Setting) (state kept : State l) (colours : Coloured) (scratch : Scratch) (n m : ℕ)
    → IsTrue (is_valid parts) → AreCopied parts setting → IsFirst parts state → IsFirst parts kept
    → n ≡ length parts.particles → m ≡ length parts.links → HasLinks n parts.links colours → HaveSpace n m scratch
    → IsUnused parts.links scratch → IsKept setting state kept colours scratch
opened_kept parts setting state kept colours scratch n m valid h f k en em links space unused =
    let particles : n ≡ length state.store.particles = en ∙ sym (ap (λ (ps : List Particle). length ps) f.particles) in
    let count : m ≡ length state.links.items = em ∙ sym (ap (λ (ls : List Link). length ls) f.links) in
    record {
      sound = subst IsSound (sym (opened_world parts setting state h f)) (opened-is_sound parts valid);
      weights = f.weights;
      links = subst (λ (ls : List Link). HasLinks (length state.store.particles) ls colours) (sym f.links)
          (subst (λ (k : ℕ). HasLinks k parts.links colours) particles links);
      space = subst (λ (k : ℕ). HaveSpace (length state.store.particles) k scratch) count
          (subst (λ (k : ℕ). HaveSpace k m scratch) particles space);
      knows = record {
        numbers = unused.numbers ∙ sym (ap numbers_with_tear_length f.links);
        laid = λ is. absurd (false≢true (sym unused.unlaid ∙ is));
      };
      alike = record {
        particles = ap (λ (ps : List Particle). length ps) (k.particles ∙ sym f.particles);
        limit = k.limit ∙ sym f.limit;
        weights = as_many kept state k.weights f.weights (ap (λ (ps : List Particle). length ps) (k.particles ∙ sym f.particles));
        links = ap (λ (ls : List Link). length ls) (k.links ∙ sym f.links);
      };
    }
