-- Tracks that can be followed, and particles that follow them.
use Rattle.std.specs.Prelude.{◌≡◌, ℕ, ◌<◌, ◌≤◌, ◌^◌, ℤ, List, length, IsTrue}
use Rattle.pbd_num.specs.Vectors.{Within}
use Rattle.pbd_world.specs.declared.parts.Key.{Key}
use Rattle.pbd_world.specs.declared.parts.Track.{Track}
use Rattle.pbd_world.specs.declared.parts.Particle.{Particle}
use Rattle.pbd_world.specs.Particles.{particle_at}
use Rattle.pbd_world.specs.Tracks.{track_of, held_place}
use Rattle.pbd_world.specs.Valid.{is_limit, is_valid_track}

-- a key up to step 1,000,000, at a place within the greater limit
pub record IsKey (key : Key) : Type 0 where
  pub step : key.step ≤ 1000000
  pub place : Within (2 ^ 29) key.place

-- a track that is valid with one of the two limits, on one of some number of particles
pub record IsTrack (track : Track) : Type 0 where
  pub limit : ℤ
  pub particles : ℕ
  pub either : IsTrue (is_limit limit)
  pub valid : IsTrue (is_valid_track limit particles track)

-- particle i at the place of its track at step t, if it has one
abbrev pub attached_at : List Track → ℕ → List Particle → ℕ → Particle
attached_at tracks t ps i = record (particle_at ps i) { at = held_place (track_of tracks i) t (particle_at ps i).at }

-- each particle that has a track is at its place at step t, and all else is as it was
pub record Attached (tracks : List Track) (t : ℕ) (old new : List Particle) : Type 0 where
  pub whole : length new ≡ length old
  pub each : (i : ℕ) → i < length old → particle_at new i ≡ attached_at tracks t old i
