use Rattle.std.proofs.Common.{◌≡◌, ◌≢◌, ◌∙◌, ◌≤ℤ◌, sym, ap, ℕ, ℤ, pos, List, [], length, to_z, of_z, w64, arith, unsigned_abs}
use Rattle.std.proofs.lemmas.Int.{ints, to_z-of_z}
use Rattle.std.proofs.lemmas.List.{length-map}
use Rattle.std.proofs.lemmas.Result.{on_ok_weaker, on_err_weaker}
use Rattle.pbd_num.specs.declared.Vec3.{Vec3}
use Rattle.pbd_world.specs.declared.parts.Particle.{Particle}
use Rattle.pbd_world.specs.Room.{Roomed}
use Rattle.pbd_colour.specs.Pairs.{Coloured}
use Rattle.pbd_grid.specs.Looks.{Searched, looks_for}
use Rattle.pbd_grid.specs.Near.{near_pairs}
use Rattle.pbd_self.specs.Apart.{may_touch}
use Rattle.pbd_self.specs.Touching.{Found, AreOrdered, touching, looks_at}
use Rattle.pbd_self.proofs.Finding.{places_inside, grid_finds, touching_ordered, ordered_in_range, recoloured, result_ordered, result_fits}
use Rattle.pbd_self.proofs.Finding.{looks_are, found_parts, none_touch, none_looked}
use Rattle.pbd_self.proofs.contacts.SelfContacts.detect.Goals.{After-as_slice-held, After-find-found}
use Rattle.pbd_self.proofs.contacts.SelfContacts.detect.Goals as goal
use Rattle.pbd_world.proofs.KeepingOn.{on_both}

-- ---- where the thickness is 0

pub returns-then-thickness-eq0-clause-found : goal.returns-then-thickness-eq0-clause-found
returns-then-thickness-eq0-clause-found g c =
    let zero = sym (to_z-of_z w64 c.args.thickness c.ranges.thickness) ∙ ap (to_z w64) c.if-thickness-eq0.true in
    let none : touching c.args.thickness c.args.links.now c.args.store.now.particles
    ≡ [] = none_touch c.args.thickness c.args.links.now c.args.store.now.particles zero in
    let unread : looks_at c.args.self.now.chains c.args.thickness c.args.store.now.particles
    ≡ 0 = none_looked c.args.self.now.chains c.args.thickness c.args.store.now.particles zero in
    c.clear.ensures ∙ ap (λ (ps : List (ℕ × ℕ)). record c.args.self.now { pairs = ps; looks = 0 }) (sym none)
    ∙ ap (λ (n : ℕ). record c.args.self.now { pairs = touching c.args.thickness c.args.links.now c.args.store.now.particles; looks = n })
    (sym unread)

pub returns-then-thickness-eq0-clause-most : goal.returns-then-thickness-eq0-clause-most
returns-then-thickness-eq0-clause-most g c = omega (arith, ap (λ (f : Found). f.looks) c.clear.ensures)

pub returns-then-thickness-eq0-clause-few : goal.returns-then-thickness-eq0-clause-few
returns-then-thickness-eq0-clause-few g c =
    let none : touching c.args.thickness c.args.links.now c.args.store.now.particles
    ≡ [] = none_touch c.args.thickness c.args.links.now c.args.store.now.particles
    (sym (to_z-of_z w64 c.args.thickness c.ranges.thickness) ∙ ap (to_z w64) c.if-thickness-eq0.true) in
    omega (arith, ap length none)

-- ---- what the grid finds, once places and flags are copied

size : (g : _) (c : After-as_slice-held g) → length c.args.store.now.particles ≡ c.self.inside.particles
size g c = rw (← c.self.view_is) at c.requires.len

abbrev near : (g : _) → After-as_slice-held g → List (ℕ × ℕ)
near g c = near_pairs c.as_slice-places.result.now (to_z w64 (of_z w64 c.args.thickness)) (may_touch c.as_slice-held.result.now c.args.links.now)

near_touch : (g : _) (c : After-as_slice-held g) → near g c ≡ touching c.args.thickness c.args.links.now c.args.store.now.particles
near_touch g c =
    grid_finds (to_z w64 (of_z w64 c.args.thickness)) c.args.thickness c.args.links.now c.args.store.now.particles c.self.inside.places
    c.copy_particles.new.places c.self.inside.held c.copy_particles.new.held c.as_slice-places.result.now c.as_slice-held.result.now
    (to_z-of_z w64 c.args.thickness c.ranges.thickness) c.as_slice-places.ensures c.copy_particles.ensures.places c.as_slice-held.ensures
    c.copy_particles.ensures.held

near_ordered : (g : _) (c : After-as_slice-held g) → AreOrdered c.self.inside.particles (near g c)
near_ordered g c = rw (near_touch g c, ← size g c) (touching_ordered c.args.thickness c.args.links.now c.args.store.now.particles)

chains : (g : _) (c : After-as_slice-held g) → c.self.inside.grid.chains ≡ c.args.self.now.chains
chains g c = ap (λ (f : Found). f.chains) c.self.view_is

from_one : (t : ℤ) → pos 0 ≤ℤ t → t ≢ pos 0 → pos 1 ≤ℤ t
from_one t low some = omega (arith, ints, low, some)

-- as the thickness isn't 0
looked : (g : _) (c : After-as_slice-held g)
    → looks_for c.self.inside.grid.chains (to_z w64 (of_z w64 c.args.thickness)) c.as_slice-places.result.now
    ≡ looks_at c.args.self.now.chains c.args.thickness c.args.store.now.particles
looked g c =
    looks_are (to_z w64 (of_z w64 c.args.thickness)) c.args.thickness c.self.inside.grid.chains c.args.self.now.chains
    c.args.store.now.particles c.self.inside.places c.copy_particles.new.places c.as_slice-places.result.now
    (to_z-of_z w64 c.args.thickness c.ranges.thickness) (chains g c) c.as_slice-places.ensures c.copy_particles.ensures.places
    (from_one c.args.thickness c.requires.low (λ e. c.if-thickness-eq0.false (ap (of_z w64) e)))

-- the pairs that were found, or none, are in order
found_ordered : (g : _) (c : After-find-found g)
    → AreOrdered c.self.inside.particles (near_pairs c.as_slice-places.result.now (to_z w64 (of_z w64 c.args.thickness))
    (may_touch c.as_slice-held.result.now c.args.links.now))
    → AreOrdered c.self.inside.particles c.find-found.new.out.entries
found_ordered g c ordered = result_ordered c.find-found.result c.find-found.new.out.entries _ c.self.inside.particles ordered
    c.find-found.ensures.pairs c.find-found.ensures.emptied

pub find-found-requires-clause-places : goal.find-found-requires-clause-places
find-found-requires-clause-places g c =
    ap length c.as_slice-places.ensures ∙ ap (λ (r : Roomed Vec3). length r.entries) c.copy_particles.ensures.places
    ∙ length-map c.args.store.now.particles (λ (p : Particle). p.at)
    ∙ size g (goal.at.find-found-requires-clause-places g c).After-as_slice-held ∙ sym c.self.invariant.grid_size

pub find-found-requires-clause-inside : goal.find-found-requires-clause-inside
find-found-requires-clause-inside g c =
    places_inside c.args.store.now.limit c.args.store.now.particles c.copy_particles.new.places c.self.inside.places c.as_slice-places.result.now
    c.copy_particles.ensures.limit c.requires.inside
    c.copy_particles.ensures.places c.as_slice-places.ensures

pub colour-requires-clause-in_range : goal.colour-requires-clause-in_range
colour-requires-clause-in_range g c =
    let at = goal.at.colour-requires-clause-in_range g c in
    let count : c.self.inside.colouring.particles ≡ c.self.inside.particles =
    ap (λ (k : Coloured). k.particles) c.self.invariant.coloured in
    rw (c.as_slice.ensures, count) (ordered_in_range c.self.inside.particles c.find-found.new.out.entries
    (found_ordered g at.After-find-found (near_ordered g at.After-as_slice-held)))

-- ---- what comes out

pub invariant_of-self : goal.invariant_of-self
invariant_of-self g c =
    let at = goal.at.invariant_of-self g c in
    record {
      few = c.self.invariant.few;
      grid_size = ap (λ (s : Searched). s.particles) c.find-found.ensures.same ∙ c.self.invariant.grid_size;
      fits = result_fits c.find-found.result c.find-found.new.out.entries (near g at.After-as_slice-held) c.self.inside.pairs.room
          c.self.invariant.room c.find-found.ensures.pairs c.find-found.ensures.fits c.find-found.ensures.emptied;
      room = c.find-found.ensures.room ∙ c.self.invariant.room;
      ordered = found_ordered g at.After-find-found (near_ordered g at.After-as_slice-held);
      coloured = recoloured c.self.inside.particles c.self.inside.colouring c.colour.new.colouring c.self.inside.pairs.entries
          c.find-found.new.out.entries c.as_slice.result.now c.self.invariant.coloured c.as_slice.ensures c.colour.ensures;
      places_room = ap (λ (r : Roomed _). r.room) c.copy_particles.ensures.places ∙ c.self.invariant.places_room;
      held_room = ap (λ (r : Roomed _). r.room) c.copy_particles.ensures.held ∙ c.self.invariant.held_room;
    }

pub returns-clause-found : goal.returns-clause-found
returns-clause-found g c =
    let at = (goal.at.returns-clause-found g c).After-as_slice-held in
    on_both c.find-found.result (λ e f. found_parts _ _ (ap (λ (f : Found). f.particles) c.self.view_is) (e ∙ near_touch g at)
    (ap (λ (s : Searched). s.chains) c.find-found.ensures.same ∙ chains g at) (c.looks-self-inside.ensures ∙ f ∙ looked g at))
    c.find-found.ensures.pairs c.find-found.ensures.looks

pub returns-clause-most : goal.returns-clause-most
returns-clause-most g c =
    let looks = looked g (goal.at.returns-clause-most g c).After-as_slice-held in
    omega (arith, c.looks-self-inside.ensures, c.find-found.ensures.most, looks)

pub returns-clause-few : goal.returns-clause-few
returns-clause-few g c =
    let touch = near_touch g (goal.at.returns-clause-few g c).After-as_slice-held in
    on_ok_weaker c.find-found.result (λ l. omega (arith, l, ap length touch, c.self.invariant.room)) c.find-found.ensures.fits

pub returns-clause-full : goal.returns-clause-full
returns-clause-full g c =
    let touch = near_touch g (goal.at.returns-clause-full g c).After-as_slice-held in
    on_err_weaker c.find-found.result (λ l. omega (arith, l, ap length touch, c.self.invariant.room)) c.find-found.ensures.full
