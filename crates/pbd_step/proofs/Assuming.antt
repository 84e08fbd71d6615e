-- A world that is told, as a state has it.
use Rattle.std.proofs.Common.{◌≡◌, refl, sym, ap, ◌∙◌, ℕ, List, length}
use Rattle.pbd_num.specs.declared.Vec3.{Vec3}
use Rattle.pbd_world.specs.declared.parts.Track.{Track}
use Rattle.pbd_world.specs.World.{World}
use Rattle.pbd_sound.specs.Described.{Description, told, particle_told, link_told}
use Rattle.pbd_sound.specs.Soundness.{Checked, soundness}
use Rattle.pbd_sound.specs.declared.judging.Numbers.{Numbers}
use Rattle.pbd_sound.specs.Numbers.{standing}
use Rattle.pbd_sound.proofs.Telling.{numbered_length}
use Rattle.pbd_step.specs.declared.state.Setting.{Setting}
use Rattle.pbd_step.specs.declared.state.State.{State}
use Rattle.pbd_step.specs.States.{world_of, AreWeights}
use Rattle.pbd_step.proofs.Keeping.{weights_many}
use Rattle.pbd_step.specs.Solving.{AreAlike}

-- the numbers of a state with this gravity
abbrev pub numbers_of : {l : ℕ} → Setting → State l → Vec3 → Numbers
numbers_of setting state gravity = record {
  steps = state.steps;
  gravity = gravity;
  damping = setting.damping;
  contacts = state.contacts;
  totals = state.totals;
  opening = setting.opening;
}

-- a test of soundness looks at no link and at no shape
standing_is : {l : ℕ} (setting : Setting) (state : State l) (gravity : Vec3)
    → soundness (standing setting.tracks state.store (numbers_of setting state gravity))
    ≡ soundness (world_of (record setting { gravity = gravity }) state)
unfolding soundness
standing_is setting state gravity = refl

-- a state has the world that is told, with this gravity
pub record Holds {l : ℕ} (d : Description) (setting : Setting) (kept : State l) (w : World) (gravity : Vec3) : Type 0 where
  pub gravity_is : gravity ≡ d.gravity
  pub world : world_of (record setting { gravity = d.gravity }) kept ≡ told d w

pub held_world : {l : ℕ} {d : Description} {setting : Setting} {kept : State l} {w : World} {gravity : Vec3}
    → Holds d setting kept w gravity → world_of (record setting { gravity = gravity }) kept ≡ told d w
held_world {l} {d} {setting} {kept} h = ap (λ (v : Vec3). world_of (record setting { gravity = v }) kept) h.gravity_is ∙ h.world

pub judged : {l : ℕ} {d : Description} {setting : Setting} {kept : State l} {w : World} {gravity : Vec3} (tracks : List Track)
    (numbers : Numbers) (r : Checked) → Holds d setting kept w gravity
    → tracks ≡ setting.tracks → numbers ≡ numbers_of setting kept gravity → r ≡ soundness (standing tracks kept.store numbers)
    → r ≡ soundness (told d w)
judged {l} {d} {setting} {kept} {w} {gravity} tracks numbers r h et en er =
    er ∙ (λ i. soundness (standing (et i) kept.store (en i))) ∙ standing_is setting kept gravity ∙ ap soundness (held_world h)

pub flipped : {l : ℕ} (s t : State l) → AreAlike s t → AreAlike t s
flipped s t h = record { particles = sym h.particles; limit = sym h.limit; weights = sym h.weights; links = sym h.links }

-- a state with the world that is told on another's has room for the same
pub told_alike : {l : ℕ} (d : Description) (setting : Setting) (kept state : State l) → AreWeights kept → AreWeights state
    → world_of (record setting { gravity = d.gravity }) kept ≡ told d (world_of setting state) → AreAlike kept state
told_alike d setting kept state wk ws e = record {
  particles = many;
  weights = weights_many kept wk ∙ many ∙ sym (weights_many state ws);
  limit = ap (λ (v : World). v.limit) e;
  links = ap (λ (v : World). length v.links) e ∙ numbered_length (link_told d) 0 state.links.items;
} where
  many : length kept.store.particles ≡ length state.store.particles
  many = ap (λ (v : World). length v.particles) e ∙ numbered_length (particle_told d) 0 state.store.particles
