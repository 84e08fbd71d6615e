-- What a solver is seen as and keeps, and how many bonds its steps hand to its projector.
use Rattle.std.specs.Prelude.{◌≡◌, ℕ, zero, suc, ◌+◌, ◌-◌, ◌*◌, ◌^◌, min, length, Result, Ok, Err}
use Rattle.pbd_world.specs.declared.command.Refusal.{Refusal}
use Rattle.pbd_world.specs.World.{World, IsSound, live_count}
use Rattle.pbd_world.specs.Step.{step}
use Rattle.pbd_colour.specs.Pairs.{Coloured}
use Rattle.pbd_step.specs.declared.state.Setting.{Setting}
use Rattle.pbd_step.specs.declared.state.State.{State}
use Rattle.pbd_step.specs.declared.state.Scratch.{Scratch}
use Rattle.pbd_step.specs.States.{world_of, AreWeights, HasLinks, HaveSpace, KnowsLinks}

-- a world, the projector that its steps go through, and how often the stores of its two states were taken over as a whole
pub record Solved (P : Type 0) : Type 0 where
  pub world : World
  pub projector : P
  pub copies : ℕ

-- how many bonds a step from w to v projects: in each pass, the links that are live before the step and the contacts found in it
abbrev pub bonds_of : World → World → ℕ
bonds_of w v = w.passes * (live_count w.links + v.contacts)

abbrev pub bonds_from : World → (World → ℕ) → Result World Refusal → ℕ
bonds_from w rest (Ok v) = bonds_of w v + rest v
bonds_from w rest (Err refusal) = 0

-- how many bonds n steps project, or those before the first that is refused
unfoldable pub bonds_over : ℕ → World → ℕ
bonds_over zero w = 0
bonds_over (suc n) w = bonds_from w (bonds_over n) (step w)

-- two states have room for the same, within the same limit
pub record AreAlike {l : ℕ} (s t : State l) : Type 0 where
  pub particles : length s.store.particles ≡ length t.store.particles
  pub limit : s.store.limit ≡ t.store.limit
  pub weights : length s.weights.items ≡ length t.weights.items
  pub links : length s.links.items ≡ length t.links.items

-- a state has become another one, and its store was taken over once more
pub record IsTakenOver {l : ℕ} (old new other : State l) : Type 0 where
  pub world : (setting : Setting) → world_of setting new ≡ world_of setting other
  pub particles : new.store.particles ≡ other.store.particles
  pub limit : new.store.limit ≡ other.store.limit
  pub copies : new.store.copies ≡ min (old.store.copies + 1) (2 ^ 64 - 1)
  pub links : new.links.items ≡ other.links.items
  pub weights : new.weights.items ≡ other.weights.items

-- a world that is kept is sound, with the weights of its particles, and its links are coloured
pub record IsSnapshot {l : ℕ} (setting : Setting) (state : State l) (colours : Coloured) : Type 0 where
  pub sound : IsSound (world_of setting state)
  pub weights : AreWeights state
  pub links : HasLinks (length state.store.particles) state.links.items colours

-- the world is sound, its links are coloured, the scratch have room for it and know its links, and the second state has room
pub record IsKept {l : ℕ} (setting : Setting) (state kept : State l) (colours : Coloured) (scratch : Scratch) : Type 0 where
  pub sound : IsSound (world_of setting state)
  pub weights : AreWeights state
  pub links : HasLinks (length state.store.particles) state.links.items colours
  pub space : HaveSpace (length state.store.particles) (length state.links.items) scratch
  pub knows : KnowsLinks state scratch
  pub alike : AreAlike kept state
