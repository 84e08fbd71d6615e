-- The world that the parts of a solver make up, and what they keep.
use Rattle.std.specs.Prelude.{◌≡◌, ℕ, ◌≤◌, false, List, length, map, IsTrue}
use Rattle.pbd_world.specs.declared.parts.Link.{Link}
use Rattle.pbd_world.specs.Ledger.{sum_of, ledger_of, HaveRoom}
use Rattle.pbd_world.specs.Bonds.{link_bond}
use Rattle.pbd_world.specs.Contacts.{link_pairs, live_flags}
use Rattle.pbd_world.specs.Step.{link_order}
use Rattle.pbd_world.specs.Particles.{Motion, effective_weight}
use Rattle.pbd_world.specs.World.{World, parts_of}
use Rattle.pbd_world.specs.Valid.{is_well_formed}
use Rattle.pbd_colour.specs.Pairs.{Coloured}
use Rattle.pbd_store.specs.Gathering.{index_at}
use Rattle.pbd_store.specs.Moving.{motion_of}
use Rattle.pbd_pair.specs.declared.laid.BondColumns.{BondColumns}
use Rattle.pbd_pair.specs.Laid.{lists_in, AreLaid, HaveRows}
use Rattle.pbd_tear.specs.Tearing.{numbers_with_tear_length}
use Rattle.pbd_step.specs.declared.state.Setting.{Setting}
use Rattle.pbd_step.specs.declared.state.State.{State}
use Rattle.pbd_step.specs.declared.state.Scratch.{Scratch}

-- the world of a setting and a state
abbrev pub world_of : {l : ℕ} → Setting → State l → World
world_of setting state = record {
  limit = state.store.limit;
  steps = state.steps;
  particles = state.store.particles;
  links = state.links.items;
  tracks = setting.tracks;
  shapes = setting.shapes;
  gravity = setting.gravity;
  passes = setting.passes;
  damping = setting.damping;
  thickness = setting.thickness;
  friction = setting.friction;
  contacts = state.contacts;
  totals = ledger_of state.totals;
  opening = sum_of setting.opening;
}

-- the particles and totals of a state
abbrev pub now_of : {l : ℕ} → State l → Motion
now_of state = motion_of state.store state.totals

-- the weights of a state are the effective ones of its particles
abbrev pub AreWeights : {l : ℕ} → State l → Type 0
AreWeights state = state.weights.items ≡ map effective_weight state.store.particles

-- a colouring has the links, with those live that are
pub record HasLinks (n : ℕ) (links : List Link) (colours : Coloured) : Type 0 where
  pub particles : colours.particles ≡ n
  pub pairs : colours.pairs ≡ link_pairs links
  pub live : colours.live ≡ live_flags links
  pub room : length links ≤ colours.room

-- the scratch have room for what a step of n particles and m links leaves in them
pub record HaveSpace (n m : ℕ) (scratch : Scratch) : Type 0 where
  pub found : scratch.found.particles ≡ n
  pub touched : length scratch.touched ≡ n
  pub pairs : m ≤ scratch.pairs.room
  pub numbers : m ≤ scratch.numbers.room
  pub laid_links : HaveRows m scratch.laid_links
  pub laid_contacts : HaveRows 262144 scratch.laid_contacts

-- what of links no command changes
abbrev pub fixed_links : List Link → List Link
fixed_links links = map {A = Link} {B = Link} (λ l. record l { live = false }) links

-- the live links are laid in columns, in the order in which they are projected
abbrev pub AreLinksLaid : {l : ℕ} → State l → BondColumns → Type 0
AreLinksLaid state columns =
    AreLaid (link_bond state.links.items) (index_at state.weights.items) (link_order state.links.items) (lists_in columns)

-- the scratch have the numbers of the links with a tear length, and where they say so, the live links are laid
pub record KnowsLinks {l : ℕ} (state : State l) (scratch : Scratch) : Type 0 where
  pub numbers : scratch.with_tear_length.entries ≡ numbers_with_tear_length state.links.items
  pub laid : IsTrue scratch.are_links_laid → AreLinksLaid state scratch.laid_links

-- a world in the middle of a step: places are inside, weights and all that no step changes are in their ranges, and totals have
-- grown no further than to `bound`
pub record IsUnderWay (bound : ℕ) (w : World) : Type 0 where
  pub well_formed : IsTrue (is_well_formed (parts_of w))
  pub room : HaveRoom bound w.totals
