-- What the events of a batch work on, what they ask of it, and what they leave as it was.
use Rattle.std.specs.Prelude.{◌≡◌, ℕ, List, length}
use Rattle.pbd_world.specs.Ledger.{ledger_of, HaveRoom}
use Rattle.pbd_store.specs.Stored.{Stored}
use Rattle.pbd_store.specs.Moving.{fixed_parts, AreInside}
use Rattle.pbd_pair.specs.declared.bonds.Bonds.{Bonds}
use Rattle.pbd_pair.specs.Projecting.{IsBatch}
use Rattle.pbd_schedule.specs.declared.mix.Mix.{Mix}
use Rattle.pbd_schedule.specs.Mixed.{Mixed}
use Rattle.pbd_schedule.specs.Stages.{mix_of, AreSound}

-- the particles, the ledger and the notes
abbrev pub mixed_in : {l : ℕ} {G : Type 0} → Mix l G → Mixed
mixed_in mix = mix_of mix.store.now.particles (ledger_of mix.totals.now) mix.notes.now

-- The events of a batch may come: each bond has a note, which is sound, the particles are inside the limit, and the ledger
-- has room.
pub record CanMix {l : ℕ} {G : Type 0} (bound : ℕ) (bonds : Bonds) (numbers : List ℕ) (mix : Mix l G) : Type 0 where
  pub batch : IsBatch mix.store.now.limit (length mix.store.now.particles) bonds numbers
  pub notes : length mix.notes.now ≡ length numbers
  pub sound : AreSound mix.store.now.limit mix.notes.now
  pub inside : AreInside mix.store.now.limit mix.store.now.particles
  pub room : HaveRoom bound (ledger_of mix.totals.now)

-- of a store the places alone were changed, and are inside the limit
pub record IsMoved (old new : Stored) : Type 0 where
  pub limit : new.limit ≡ old.limit
  pub copies : new.copies ≡ old.copies
  pub fixed : fixed_parts new.particles ≡ fixed_parts old.particles
  pub inside : AreInside old.limit new.particles

-- what is worked on is still the same notes, the same store, the same totals and the same count
pub record WorksOnSame {l : ℕ} {G : Type 0} (old new : Mix l G) : Type 0 where
  pub notes : new.notes.ghost_name ≡ old.notes.ghost_name
  pub store : new.store.ghost_name ≡ old.store.ghost_name
  pub totals : new.totals.ghost_name ≡ old.totals.ghost_name
  pub steps : new.steps.ghost_name ≡ old.steps.ghost_name
