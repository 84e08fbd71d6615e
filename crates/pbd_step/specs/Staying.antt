-- What a part of a step works on, and what it leaves as it was.
use Rattle.std.specs.Prelude.{◌≡◌, ℕ, ◌+◌, ◌<◌, ◌≤◌, ◌^◌, ℤ, List, length, map, MatchResult, OnOk, Result, Ok, Err}
use Rattle.pbd_world.specs.declared.bond.Bond.{Bond}
use Rattle.pbd_world.specs.declared.command.Left.{Left}
use Rattle.pbd_world.specs.Bonds.{projected, contact_bond}
use Rattle.pbd_world.specs.Ledger.{ledger_of}
use Rattle.pbd_world.specs.Particles.{effective_weight}
use Rattle.pbd_store.specs.Moving.{fixed_parts}
use Rattle.pbd_world.specs.Step.{Passing, contact_order}
use Rattle.pbd_store.specs.Gathering.{index_at}
use Rattle.pbd_pair.specs.declared.laid.BondColumns.{BondColumns}
use Rattle.pbd_pair.specs.Laid.{lists_in, AreLaid}
use Rattle.pbd_world.specs.World.{IsSound}
use Rattle.pbd_step.specs.declared.state.Setting.{Setting}
use Rattle.pbd_step.specs.declared.state.State.{State}
use Rattle.pbd_step.specs.declared.state.Scratch.{Scratch}
use Rattle.pbd_step.specs.declared.state.Running.{Running}
use Rattle.pbd_step.specs.Projecting.{AreMovable}
use Rattle.pbd_step.specs.States.{world_of, now_of, fixed_links, AreWeights, HasLinks, HaveSpace, AreLinksLaid, KnowsLinks, IsUnderWay}
use Rattle.pbd_step.specs.Solving.{AreAlike}

-- the contacts are laid in columns, in the order in which they are projected
abbrev pub AreContactsLaid : {l : ℕ} → ℤ → State l → List (ℕ × ℕ) → BondColumns → Type 0
AreContactsLaid thickness state pairs columns =
    AreLaid (contact_bond thickness pairs) (index_at state.weights.items) (contact_order pairs) (lists_in columns)

-- links and contacts are laid
pub record AreBondsLaid {l : ℕ} (thickness : ℤ) (state : State l) (scratch : Scratch) : Type 0 where
  pub links : AreLinksLaid state scratch.laid_links
  pub contacts : AreContactsLaid thickness state scratch.found.pairs scratch.laid_contacts

-- a step may begin: the world is sound, its links are coloured, and the scratch have room and know the links
pub record IsReady {l : ℕ} {P : Type 0} (setting : Setting) (run : Running l P) : Type 0 where
  pub sound : IsSound (world_of setting run.state)
  pub weights : AreWeights run.state
  pub links : HasLinks (length run.state.store.particles) run.state.links.items run.colours
  pub space : HaveSpace (length run.state.store.particles) (length run.state.links.items) run.scratch
  pub knows : KnowsLinks run.state run.scratch

-- a step goes on: it may still be counted, its world is under way, the links are coloured, and the scratch have room and know
-- the links
pub record IsGoing {l : ℕ} {P : Type 0} (bound : ℕ) (setting : Setting) (run : Running l P) : Type 0 where
  pub count : run.state.steps < 2 ^ 63
  pub under_way : IsUnderWay bound (world_of setting run.state)
  pub weights : AreWeights run.state
  pub links : HasLinks (length run.state.store.particles) run.state.links.items run.colours
  pub space : HaveSpace (length run.state.store.particles) (length run.state.links.items) run.scratch
  pub knows : KnowsLinks run.state run.scratch

-- the particles and totals, and what the shapes have touched
abbrev pub passing_of : {l : ℕ} {P : Type 0} → Running l P → Passing
passing_of run = record { motion = now_of run.state; touched = run.scratch.touched }

-- of a state the particles and the totals alone were changed: there are as many, with the same effective weights and within the
-- same limit, and no store was taken over
pub record IsMoved {l : ℕ} (old new : State l) : Type 0 where
  pub same : new ≡ record old { store = new.store; totals = new.totals }
  pub limit : new.store.limit ≡ old.store.limit
  pub copies : new.store.copies ≡ old.store.copies
  pub whole : length new.store.particles ≡ length old.store.particles
  pub weights : map effective_weight new.store.particles ≡ map effective_weight old.store.particles

-- a part of a pass changes the places, the totals, the flags of what was touched, and what the projector keeps of itself
-- beside its width
pub record StaysInPass {l : ℕ} {P : Type 0} (count : P → ℕ) (lanes : P → ℕ) (old new : Running l P) : Type 0 where
  pub moved : IsMoved old.state new.state
  pub fixed : fixed_parts new.state.store.particles ≡ fixed_parts old.state.store.particles
  pub colours : new.colours ≡ old.colours
  pub scratch : new.scratch ≡ record old.scratch { touched = new.scratch.touched }
  pub flags : length new.scratch.touched ≡ length old.scratch.touched
  pub not_fallen : count old.projector ≤ count new.projector
  pub width : lanes new.projector ≡ lanes old.projector

-- a part of a pass projects the bonds of some numbers one after another, or the first that would leave the limit is told; it
-- leaves the scratch, and where none would leave the limit, the totals grow by no more than 2^60
pub record ProjectsInPass {l : ℕ} {P : Type 0} (count lanes : P → ℕ) (r : Result (Unit {0}) Left) (bond : ℕ → Bond)
    (numbers : List ℕ) (old new : Running l P) : Type 0 where
  pub outcome : MatchResult r
      (λ _. projected old.state.store.limit bond numbers (now_of old.state) ≡ Ok (now_of new.state))
      (λ left. projected old.state.store.limit bond numbers (now_of old.state) ≡ Err left.element)
  pub stays : StaysInPass count lanes old new
  pub scratch : new.scratch ≡ old.scratch
  pub movable : OnOk r
      ((n : ℕ) → AreMovable n old.state.store.limit old.state.store.particles (ledger_of old.state.totals)
      → AreMovable (n + 2 ^ 60) new.state.store.limit new.state.store.particles (ledger_of new.state.totals))

-- a part of a step leaves the limit, how many particles there are, the links but for which of them are live, whose weights are
-- listed and which links are coloured and known, how often the store was taken over, the coloured pairs, the room of the scratch
-- and the projector's width
pub record StaysInStep {l : ℕ} {P : Type 0} (count : P → ℕ) (lanes : P → ℕ) (old new : Running l P) : Type 0 where
  pub alike : AreAlike new.state old.state
  pub weights : AreWeights old.state → AreWeights new.state
  pub fixed : fixed_links new.state.links.items ≡ fixed_links old.state.links.items
  pub links : HasLinks (length old.state.store.particles) old.state.links.items old.colours
      → HasLinks (length new.state.store.particles) new.state.links.items new.colours
  pub knows : KnowsLinks old.state old.scratch → KnowsLinks new.state new.scratch
  pub copies : new.state.store.copies ≡ old.state.store.copies
  pub pairs : new.colours ≡ record old.colours { live = new.colours.live }
  pub space : (n m : ℕ) → HaveSpace n m old.scratch → HaveSpace n m new.scratch
  pub not_fallen : count old.projector ≤ count new.projector
  pub width : lanes new.projector ≡ lanes old.projector
