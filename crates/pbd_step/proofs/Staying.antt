-- What the parts of a step leave as it was, one after another.
use Rattle.std.proofs.Common.{◌≡◌, refl, sym, ap, ◌∙◌, ℕ, ◌<◌, ◌≤◌, ◌^◌, ℤ, List, Bool, length, arith, subst, IsTrue, MatchResult, Result, Ok, Err}
use Rattle.pbd_colour.specs.Pairs.{Coloured}
use Rattle.pbd_world.specs.declared.bond.Bond.{Bond}
use Rattle.pbd_world.specs.declared.command.Left.{Left}
use Rattle.pbd_world.specs.declared.totals.Totals.{Totals}
use Rattle.pbd_world.specs.Bonds.{projected}
use Rattle.pbd_store.specs.Stored.{Stored}
use Rattle.pbd_store.specs.Moving.{motion_of, fixed_parts}
use Rattle.pbd_store.proofs.Fixed.{same_length}
use Rattle.pbd_self.specs.Touching.{Found}
use Rattle.pbd_world.specs.World.{IsSound}
use Rattle.pbd_step.specs.declared.state.Setting.{Setting}
use Rattle.pbd_step.specs.declared.state.State.{State}
use Rattle.pbd_step.specs.declared.state.Scratch.{Scratch}
use Rattle.pbd_step.specs.declared.state.Running.{Running}
use Rattle.pbd_step.specs.Solving.{AreAlike}
use Rattle.pbd_tear.specs.Tearing.{numbers_with_tear_length}
use Rattle.pbd_step.specs.Projecting.{AreProjected}
use Rattle.pbd_step.specs.States.{world_of, now_of, fixed_links, AreWeights, HasLinks, HaveSpace, AreLinksLaid, KnowsLinks, IsUnderWay}
use Rattle.pbd_pair.specs.declared.laid.BondColumns.{BondColumns}
use Rattle.pbd_pair.specs.declared.bonds.Bonds.{Bonds}
use Rattle.pbd_pair.specs.Bonds.{bond_of}
use Rattle.pbd_pair.specs.Laid.{HaveRows}
use Rattle.pbd_pair.proofs.LaidParts.{weights_kept}
use Rattle.pbd_step.specs.Staying.{AreBondsLaid, AreContactsLaid, IsReady, IsGoing, IsMoved, StaysInPass, ProjectsInPass, StaysInStep}
use Rattle.pbd_step.proofs.UnderWay.{still_movable}
use Rattle.pbd_world.proofs.KeepingOn.{on_both}

-- ---- states and scratch

same_room : (old new : Scratch) → new ≡ record old { touched = new.touched } → length new.touched ≡ length old.touched → (n m : ℕ)
    → HaveSpace n m old → HaveSpace n m new
same_room old new scratch flags n m h = record {
  found = ap (λ (t : Scratch). t.found.particles) scratch ∙ h.found;
  touched = flags ∙ h.touched;
  pairs = omega (arith, ap (λ (t : Scratch). t.pairs.room) scratch, h.pairs);
  numbers = omega (arith, ap (λ (t : Scratch). t.numbers.room) scratch, h.numbers);
  laid_links = subst (λ (t : Scratch). HaveRows m t.laid_links) (sym scratch) h.laid_links;
  laid_contacts = subst (λ (t : Scratch). HaveRows 262144 t.laid_contacts) (sym scratch) h.laid_contacts;
}

pub both_moved : {l : ℕ} (old mid new : State l) → IsMoved old mid → IsMoved mid new → IsMoved old new
both_moved {l} old mid new h k = record {
  same = k.same ∙ ap (λ (s : State l). record s { store = new.store; totals = new.totals }) h.same;
  limit = k.limit ∙ h.limit;
  copies = k.copies ∙ h.copies;
  whole = k.whole ∙ h.whole;
  weights = k.weights ∙ h.weights;
}

-- the weights of a state stay those of its particles
pub weights_moved : {l : ℕ} (old new : State l) → IsMoved old new → AreWeights old → AreWeights new
weights_moved {l} old new h w = ap (λ (s : State l). s.weights.items) h.same ∙ w ∙ sym h.weights

-- what is known of the links stays so where places, totals and flags of what was touched change
pub still_known : {l : ℕ} (old new : State l) (scratch then : Scratch) → new ≡ record old { store = new.store; totals = new.totals }
    → then ≡ record scratch { touched = then.touched } → KnowsLinks old scratch → KnowsLinks new then
still_known {l} old new scratch then same kept h = record {
  numbers = coe 0 1 (i. (sym kept i).with_tear_length.entries ≡ numbers_with_tear_length (sym same i).links.items) h.numbers;
  laid = coe 0 1 (i. IsTrue (sym kept i).are_links_laid → AreLinksLaid (sym same i) (sym kept i).laid_links) h.laid;
}

-- with other contacts and flags
pub known_with : {l : ℕ} (state : State l) (scratch : Scratch) (found : Found) → KnowsLinks state scratch
    → KnowsLinks state (record scratch { found = found })
known_with {l} state scratch found h = record { numbers = h.numbers; laid = h.laid }

-- with the links laid
pub known_laid : {l : ℕ} (state : State l) (scratch : Scratch) (links contacts : BondColumns) (flags : List Bool) (said : Bool)
    → AreLinksLaid state links → KnowsLinks state scratch
    → KnowsLinks state (record scratch { laid_links = links; laid_contacts = contacts; are_links_laid = said; touched = flags })
known_laid {l} state scratch links contacts flags said laid h = record { numbers = h.numbers; laid = λ is. laid }

pub moved_alike : {l : ℕ} (old new : State l) → IsMoved old new → AreAlike new old
moved_alike {l} old new h = record {
  particles = h.whole;
  limit = h.limit;
  weights = ap (λ (s : State l). length s.weights.items) h.same;
  links = ap (λ (s : State l). length s.links.items) h.same;
}

-- with other rows in the columns, as many, and as many flags
pub prepared : (scratch : Scratch) (links contacts : BondColumns) (flags : List Bool) (said : Bool)
    → HaveRows (length scratch.laid_links.first.items) links
    → HaveRows (length scratch.laid_contacts.first.items) contacts → length flags ≡ length scratch.touched → (n m : ℕ)
    → HaveSpace n m scratch
    → HaveSpace n m (record scratch { laid_links = links; laid_contacts = contacts; are_links_laid = said; touched = flags })
prepared scratch links contacts flags said a b many n m h = record {
  found = h.found;
  touched = many ∙ h.touched;
  pairs = h.pairs;
  numbers = h.numbers;
  laid_links = record { even = a.even; rows = a.rows ∙ h.laid_links.rows };
  laid_contacts = record { even = b.even; rows = b.rows ∙ h.laid_contacts.rows };
}

-- with the contacts of as many particles
pub refound : (scratch : Scratch) (found : Found) → found.particles ≡ scratch.found.particles → (n m : ℕ) → HaveSpace n m scratch
    → HaveSpace n m (record scratch { found = found })
refound scratch found same n m h = record {
  found = same ∙ h.found;
  touched = h.touched;
  pairs = h.pairs;
  numbers = h.numbers;
  laid_links = h.laid_links;
  laid_contacts = h.laid_contacts;
}

-- ---- parts of a pass

module _ {l : ℕ} {P : Type 0} {count : P → ℕ} {lanes : P → ℕ} where
  pub both_in_pass : (old mid new : Running l P) → StaysInPass count lanes old mid → StaysInPass count lanes mid new
      → StaysInPass count lanes old new
  both_in_pass old mid new h k = record {
    moved = both_moved old.state mid.state new.state h.moved k.moved;
    fixed = k.fixed ∙ h.fixed;
    colours = k.colours ∙ h.colours;
    scratch = k.scratch ∙ ap (λ (t : Scratch). record t { touched = new.scratch.touched }) h.scratch;
    flags = k.flags ∙ h.flags;
    not_fallen = omega (arith, k.not_fallen, h.not_fallen);
    width = k.width ∙ h.width;
  }

  -- what moves places within a limit, books it, and sets flags or hands bonds to the projector
  pub part_in_pass : (run : Running l P) (state : State l) (flags : List Bool) (projector : P)
      → state ≡ record run.state { store = state.store; totals = state.totals } → state.store.limit ≡ run.state.store.limit
      → state.store.copies ≡ run.state.store.copies
      → fixed_parts state.store.particles ≡ fixed_parts run.state.store.particles → length flags ≡ length run.scratch.touched
      → count run.projector ≤ count projector → lanes projector ≡ lanes run.projector
      → StaysInPass count lanes run (record run { state = state; scratch = record run.scratch { touched = flags }; projector = projector })
  part_in_pass run state flags projector same limit copies fixed many not_fallen width = record {
    moved = record {
      same = same;
      limit = limit;
      copies = copies;
      whole = same_length state.store.particles run.state.store.particles fixed;
      weights = weights_kept run.state.store.particles state.store.particles fixed;
    };
    fixed = fixed;
    colours = refl;
    scratch = refl;
    flags = many;
    not_fallen = not_fallen;
    width = width;
  }

  -- what projects some bonds
  pub projects : {r : Result (Unit {0}) Left} {bonds : Bonds} {bond : ℕ → Bond} {projected_ones numbers : List ℕ} (run : Running l P)
      (store : Stored) (totals : Totals) (projector : P)
      → AreProjected r bonds projected_ones (2 ^ 60) run.state.store store run.state.totals totals
      → bond_of bonds ≡ bond → projected_ones ≡ numbers
      → count run.projector ≤ count projector → lanes projector ≡ lanes run.projector
      → ProjectsInPass count lanes r bond numbers run
      (record run { state = record run.state { store = store; totals = totals }; projector = projector })
  projects {r} run store totals projector done eb en not_fallen width = record {
    outcome = coe 0 1 (i. MatchResult r
        (λ _. projected run.state.store.limit (eb i) (en i) (now_of run.state) ≡ Ok (motion_of store totals))
        (λ left. projected run.state.store.limit (eb i) (en i) (now_of run.state) ≡ Err left.element)) done.outcome;
    stays = part_in_pass run (record run.state { store = store; totals = totals }) run.scratch.touched projector refl
        done.limit done.copies done.fixed refl not_fallen width;
    scratch = refl;
    movable = on_both r (still_movable (2 ^ 60) done.limit done.fixed) done.inside done.room;
  }

  pub none_in_pass : (run : Running l P) → StaysInPass count lanes run run
  none_in_pass run = part_in_pass run run.state run.scratch.touched run.projector refl refl refl refl refl (omega arith) refl

  -- ---- parts of a step

  pub both_in_step : (old mid new : Running l P) → StaysInStep count lanes old mid → StaysInStep count lanes mid new
      → StaysInStep count lanes old new
  both_in_step old mid new h k = record {
    alike = record {
      particles = k.alike.particles ∙ h.alike.particles;
      limit = k.alike.limit ∙ h.alike.limit;
      weights = k.alike.weights ∙ h.alike.weights;
      links = k.alike.links ∙ h.alike.links;
    };
    weights = λ w. k.weights (h.weights w);
    fixed = k.fixed ∙ h.fixed;
    links = λ has. k.links (h.links has);
    knows = λ known. k.knows (h.knows known);
    copies = k.copies ∙ h.copies;
    pairs = k.pairs ∙ ap (λ (c : Coloured). record c { live = new.colours.live }) h.pairs;
    space = λ n m room. k.space n m (h.space n m room);
    not_fallen = omega (arith, k.not_fallen, h.not_fallen);
    width = k.width ∙ h.width;
  }

  pub pass_in_step : (old new : Running l P) → StaysInPass count lanes old new → StaysInStep count lanes old new
  pass_in_step old new h = record {
    alike = moved_alike old.state new.state h.moved;
    weights = weights_moved old.state new.state h.moved;
    fixed = ap (λ (s : State l). fixed_links s.links.items) h.moved.same;
    links = λ has. coe 0 1 (i. HasLinks (sym h.moved.whole i) (sym h.moved.same i).links.items (sym h.colours i)) has;
    knows = still_known old.state new.state old.scratch new.scratch h.moved.same h.scratch;
    copies = h.moved.copies;
    pairs = λ i. record (h.colours i) { live = new.colours.live };
    space = same_room old.scratch new.scratch h.scratch h.flags;
    not_fallen = h.not_fallen;
    width = h.width;
  }

  pub move_in_step : (run : Running l P) (state : State l) → IsMoved run.state state
      → StaysInStep count lanes run (record run { state = state })
  move_in_step run state h = record {
    alike = moved_alike run.state state h;
    weights = weights_moved run.state state h;
    fixed = ap (λ (s : State l). fixed_links s.links.items) h.same;
    links = λ has. coe 0 1 (i. HasLinks (sym h.whole i) (sym h.same i).links.items run.colours) has;
    knows = still_known run.state state run.scratch run.scratch h.same refl;
    copies = h.copies;
    pairs = refl;
    space = λ n m room. room;
    not_fallen = omega arith;
    width = refl;
  }

  -- with flags, contacts or numbers alone
  pub tools_in_step : (run : Running l P) (scratch : Scratch) → ((n m : ℕ) → HaveSpace n m run.scratch → HaveSpace n m scratch)
      → (KnowsLinks run.state run.scratch → KnowsLinks run.state scratch)
      → StaysInStep count lanes run (record run { scratch = scratch })
  tools_in_step run scratch space knows = record {
    alike = record { particles = refl; limit = refl; weights = refl; links = refl };
    weights = λ h. h;
    fixed = refl;
    links = λ h. h;
    knows = knows;
    copies = refl;
    pairs = refl;
    space = space;
    not_fallen = omega arith;
    width = refl;
  }

  pub none_in_step : (run : Running l P) → StaysInStep count lanes run run
  none_in_step run = tools_in_step run run.scratch (λ n m h. h) (λ h. h)

-- ---- a step that goes on

module _ {l : ℕ} {P : Type 0} where
  -- after a part of a pass
  pub pass_goes : {count : P → ℕ} {lanes : P → ℕ} {bound : ℕ} (more : ℕ) (setting : Setting) (old new : Running l P)
      → IsGoing bound setting old → StaysInPass count lanes old new → IsUnderWay more (world_of setting new.state)
      → IsGoing more setting new
  pass_goes {count} {lanes} {bound} more setting old new g h under_way = record {
    count = omega (arith, ap (λ (s : State l). s.steps) h.moved.same, g.count);
    under_way = under_way;
    weights = weights_moved old.state new.state h.moved g.weights;
    links = coe 0 1 (i. HasLinks (sym h.moved.whole i) (sym h.moved.same i).links.items (sym h.colours i)) g.links;
    space = coe 0 1 (i. HaveSpace (sym h.moved.whole i) (length (sym h.moved.same i).links.items) new.scratch)
        (same_room old.scratch new.scratch h.scratch h.flags (length old.state.store.particles) (length old.state.links.items) g.space);
    knows = still_known old.state new.state old.scratch new.scratch h.moved.same h.scratch g.knows;
  }

  -- after its beginning
  pub begun_goes : (bound : ℕ) (setting : Setting) (run : Running l P) (state : State l) → IsReady setting run → run.state.steps < 1000000
      → IsMoved run.state state → IsUnderWay bound (world_of setting state) → IsGoing bound setting (record run { state = state })
  begun_goes bound setting run state ready few h under_way = record {
    count = omega (arith, ap (λ (s : State l). s.steps) h.same, few);
    under_way = under_way;
    weights = weights_moved run.state state h ready.weights;
    links = coe 0 1 (i. HasLinks (sym h.whole i) (sym h.same i).links.items run.colours) ready.links;
    space = coe 0 1 (i. HaveSpace (sym h.whole i) (length (sym h.same i).links.items) run.scratch) ready.space;
    knows = still_known run.state state run.scratch run.scratch h.same refl ready.knows;
  }

  -- with other scratch of the same room
  pub tools_go : {bound : ℕ} (setting : Setting) (run : Running l P) (scratch : Scratch)
      → ((n m : ℕ) → HaveSpace n m run.scratch → HaveSpace n m scratch)
      → (KnowsLinks run.state run.scratch → KnowsLinks run.state scratch) → IsGoing bound setting run
      → IsGoing bound setting (record run { scratch = scratch })
  tools_go setting run scratch space knows g = record {
    count = g.count;
    under_way = g.under_way;
    weights = g.weights;
    links = g.links;
    space = space (length run.state.store.particles) (length run.state.links.items) g.space;
    knows = knows g.knows;
  }

  -- a state that a step led to may begin the next one
  pub ready_on : {count : P → ℕ} {lanes : P → ℕ} (setting : Setting) (old new : Running l P) → IsReady setting old
      → StaysInStep count lanes old new → IsSound (world_of setting new.state)
      → HasLinks (length old.state.store.particles) new.state.links.items new.colours → IsReady setting new
  ready_on setting old new h stays sound links = record {
    sound = sound;
    weights = stays.weights h.weights;
    links = subst (λ (n : ℕ). HasLinks n new.state.links.items new.colours) (sym stays.alike.particles) links;
    space = coe 0 1 (i. HaveSpace (sym stays.alike.particles i) (sym stays.alike.links i) new.scratch)
        (stays.space (length old.state.store.particles) (length old.state.links.items) h.space);
    knows = stays.knows h.knows;
  }

  -- bonds that are laid stay laid after a part of a pass
  pub still_laid : {count : P → ℕ} {lanes : P → ℕ} (thickness : ℤ) (old new : Running l P) → StaysInPass count lanes old new
      → AreBondsLaid thickness old.state old.scratch → AreBondsLaid thickness new.state new.scratch
  still_laid thickness old new h laid = record {
    links = coe 0 1 (i. AreLinksLaid (sym h.moved.same i) (sym h.scratch i).laid_links) laid.links;
    contacts = coe 0 1 (i. AreContactsLaid thickness (sym h.moved.same i) (sym h.scratch i).found.pairs (sym h.scratch i).laid_contacts)
        laid.contacts;
  }
