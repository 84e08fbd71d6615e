-- What a solver opens on.
use Rattle.std.specs.Prelude.{◌≡◌, ℕ, List, false}
use Rattle.pbd_world.specs.declared.parts.Link.{Link}
use Rattle.pbd_world.specs.declared.parts.Parts.{Parts}
use Rattle.pbd_world.specs.Ledger.{sum_of, ledger_of, zero_totals}
use Rattle.pbd_world.specs.Momentum.{momentum}
use Rattle.pbd_world.specs.Shapes.{shapes_in}
use Rattle.pbd_step.specs.declared.state.Setting.{Setting}
use Rattle.pbd_step.specs.declared.state.State.{State}
use Rattle.pbd_step.specs.declared.state.Scratch.{Scratch}
use Rattle.pbd_tear.specs.Tearing.{numbers_with_tear_length}
use Rattle.pbd_step.specs.States.{AreWeights}

-- a setting has what no step changes of some parts
pub record AreCopied (parts : Parts) (setting : Setting) : Type 0 where
  pub tracks : setting.tracks ≡ parts.tracks
  pub shapes : setting.shapes ≡ shapes_in parts
  pub gravity : setting.gravity ≡ parts.gravity
  pub passes : setting.passes ≡ parts.passes
  pub damping : setting.damping ≡ parts.damping
  pub thickness : setting.thickness ≡ parts.thickness
  pub friction : setting.friction ≡ parts.friction
  pub opening : sum_of setting.opening ≡ momentum parts.particles

-- a state has the particles and links of some parts, at step 0
pub record IsFirst {l : ℕ} (parts : Parts) (state : State l) : Type 0 where
  pub particles : state.store.particles ≡ parts.particles
  pub limit : state.store.limit ≡ parts.limit
  pub weights : AreWeights state
  pub copies : state.store.copies ≡ 0
  pub links : state.links.items ≡ parts.links
  pub totals : ledger_of state.totals ≡ zero_totals
  pub steps : state.steps ≡ 0
  pub contacts : state.contacts ≡ 0

-- scratch for some links before the first step: they have the numbers of those with a tear length, and none is laid
pub record IsUnused (links : List Link) (scratch : Scratch) : Type 0 where
  pub numbers : scratch.with_tear_length.entries ≡ numbers_with_tear_length links
  pub unlaid : scratch.are_links_laid ≡ false
