-- What the entries of links, pins and tracks name, once all particles are known.
use Rattle.std.specs.Prelude.{ℕ, ◌+◌, nat_lt, ◌==◌, ℤ, pos, int_le, int_lt, unsigned_abs, true, not, ◌&&◌, if◌then◌else◌, List, [], ◌∷◌}
use Rattle.std.specs.Prelude.{◌++◌, length, Ok, unwrap_or}
use Rattle.std.specs.List.{list_any}
use Rattle.pbd_num.specs.Vectors.{minus, length_of}
use Rattle.pbd_world.specs.declared.parts.Particle.{Particle}
use Rattle.pbd_world.specs.declared.parts.Link.{Link}
use Rattle.pbd_world.specs.declared.parts.Kind.TheVariants.{Plain}
use Rattle.pbd_world.specs.declared.parts.Track.{Track}
use Rattle.pbd_world.specs.Particles.{particle_at}
use Rattle.pbd_world.specs.Neighbours.{neighbours, is_among}
use Rattle.pbd_scene.specs.declared.raw.LinkEntry.{LinkEntry}
use Rattle.pbd_scene.specs.declared.raw.TrackEntry.{TrackEntry}
use Rattle.pbd_scene.specs.declared.fault.SceneRule.TheVariants.{BadIndex, SelfLink, DoubleLink, TooMany, TooManyAtParticle, BadTrack}
use Rattle.pbd_scene.specs.declared.fault.Place.{Place}
use Rattle.pbd_scene.specs.declared.tables.KeyName.{KeyName}
use Rattle.pbd_scene.specs.declared.tables.TableName.TheVariants as tables
use Rattle.pbd_scene.specs.declared.tables.KeyName.TheVariants as keys
use Rattle.pbd_scene.specs.Checks.{Checked, expect, ◌>>=◌, each}
use Rattle.pbd_scene.specs.Values.{at}

-- a number that names one of so many particles
unfoldable pub particle_number : ℕ → Place → KeyName → ℤ → Checked ℕ
particle_number count place key n = do
  _ ← expect (int_le (pos 0) n && int_lt n (pos count)) BadIndex place key
  Ok (unsigned_abs n)

-- the length from one particle to another
unfoldable pub length_between : List Particle → ℕ → ℕ → ℤ
length_between ps a b = pos (length_of (minus (particle_at ps a).at (particle_at ps b).at))

-- a live link of kind Plain, with what its entry says
unfoldable pub plain_link : ℕ → ℕ → ℤ → LinkEntry → Link
plain_link a b rest l = record { a = a; b = b; rest = rest; k = l.k; tear = l.tear; kind = Plain; live = true }

-- a link to b is no double and at most the 32nd at each of its ends, where these are the other ends of the links at both
unfoldable pub room_for_link : Place → ℕ → List ℕ → List ℕ → Checked (Unit {0})
room_for_link place b at_a at_b = do
  _ ← expect (not (is_among b at_a)) DoubleLink place keys.NoKey
  _ ← expect (nat_lt (length at_a) 32) TooManyAtParticle place keys.A
  expect (nat_lt (length at_b) 32) TooManyAtParticle place keys.B

-- the link of an entry, where so many entries and these links stand before it
unfoldable pub entry_link : List Particle → ℕ → List Link → LinkEntry → Checked Link
entry_link ps position earlier l =
    let place = at tables.Link position in do
      _ ← expect (nat_lt (length earlier) 524288) TooMany place keys.NoKey
      a ← particle_number (length ps) place keys.A l.a
      b ← particle_number (length ps) place keys.B l.b
      _ ← expect (not (a == b)) SelfLink place keys.NoKey
      _ ← room_for_link place b (neighbours a earlier) (neighbours b earlier)
      Ok (plain_link a b (unwrap_or l.rest (length_between ps a b)) l)

-- a link after those of the meshes and those of the entries before it
abbrev pub link_after : List Particle → List Link → List Link → LinkEntry → Checked Link
link_after ps meshes before l = entry_link ps (length before) (meshes ++ before) l

-- the links of the meshes and then those of the entries
unfoldable pub all_links : List Particle → List Link → List LinkEntry → Checked (List Link)
all_links ps meshes ls = do
  links ← each (link_after ps meshes) [] ls
  Ok (meshes ++ links)

-- a number of `pins`
unfoldable pub pinned : ℕ → List ℕ → ℤ → Checked ℕ
pinned count before n = particle_number count (at tables.Scene 0) keys.Pins n

-- a track of a particle that no track before it names
unfoldable pub placed_track : ℕ → List Track → TrackEntry → Checked Track
placed_track count before t =
    let place = at tables.Track (length before) in do
      particle ← particle_number count place keys.Particle t.particle
      _ ← expect (not (list_any (λ u. u.particle == particle) before)) BadTrack place keys.Particle
      Ok (record { particle = particle; keys = t.keys })

-- a particle that is held, at rest where it is
abbrev pub held_still : Particle → Particle
held_still p = record { at = p.at; before = p.at; weight = p.weight; held = true }

-- the particles from number i on, where those that are named are held, at rest where they are
unfoldable pub holding : List ℕ → ℕ → List Particle → List Particle
holding named i [] = []
holding named i (p ∷ ps) = (if is_among i named then held_still p else p) ∷ holding named (i + 1) ps
