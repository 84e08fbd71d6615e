-- Which parts are a scene.
use Rattle.std.specs.Prelude.{◌≢◌, ℕ, ◌^◌, ◌<◌, ◌≤◌, nat_le, nat_lt, ◌==◌, ℤ, pos, ◌≤ℤ◌, ◌*ℤ◌, int_le, Bool, true, not, ◌&&◌}
use Rattle.std.specs.Prelude.{◌||◌, IsTrue, List, [], ◌∷◌, length, filter, All}
use Rattle.std.specs.List.{list_all, list_any, range_with_len}
use Rattle.std.specs.Ordering.{int_eq}
use Rattle.pbd_num.specs.Vectors.{is_within, squared_length, minus}
use Rattle.pbd_world.specs.declared.parts.Particle.{Particle}
use Rattle.pbd_world.specs.declared.parts.Link.{Link}
use Rattle.pbd_world.specs.declared.parts.Key.{Key}
use Rattle.pbd_world.specs.declared.parts.Track.{Track}
use Rattle.pbd_world.specs.declared.parts.Parts.{Parts}
use Rattle.pbd_world.specs.Particles.{particle_at}
use Rattle.pbd_world.specs.Shapes.{shapes_in, are_valid_shapes}

abbrev pub is_between : ℤ → ℤ → ℤ → Bool
is_between low high n = int_le low n && int_le n high

-- no item stands in the relation to a later one
abbrev pub none_twice : {A : Type 0} → (A → A → Bool) → List A → Bool
none_twice same [] = true
none_twice same (x ∷ xs) = not (list_any (same x) xs) && none_twice same xs

-- 2^28 or 2^29
abbrev pub is_limit : ℤ → Bool
is_limit n = int_eq n (pos (2 ^ 28)) || int_eq n (pos (2 ^ 29))

-- both places are within the limit, and the weight is in 1..=65,535
abbrev pub is_valid_particle : ℤ → Particle → Bool
is_valid_particle limit p = is_within limit p.at && is_within limit p.before && nat_le 1 p.weight && nat_le p.weight 65535

abbrev pub are_valid_particles : ℤ → List Particle → Bool
are_valid_particles limit ps = nat_le (length ps) 65536 && list_all (is_valid_particle limit) ps

-- two different ones of n particles, with lengths up to four times the limit and a stiffness up to 256
abbrev pub is_valid_link : ℤ → ℕ → Link → Bool
is_valid_link limit n l =
    nat_lt l.a n
    && nat_lt l.b n
    && not (l.a == l.b)
    && is_between (pos 0) (pos 4 *ℤ limit) l.rest
    && is_between (pos 0) (pos 4 *ℤ limit) l.tear
    && nat_le l.k 256

-- the same as facts
pub record ValidLink (limit : ℤ) (n : ℕ) (l : Link) : Type 0 where
  pub first : l.a < n
  pub second : l.b < n
  pub apart : l.a ≢ l.b
  pub rest_low : pos 0 ≤ℤ l.rest
  pub rest_high : l.rest ≤ℤ (pos 4 *ℤ limit)
  pub tear_low : pos 0 ≤ℤ l.tear
  pub tear_high : l.tear ≤ℤ (pos 4 *ℤ limit)
  pub stiffness : l.k ≤ 256

-- two links join the same particles
abbrev pub join_alike : Link → Link → Bool
join_alike l m = l.a == m.a && l.b == m.b || l.a == m.b && l.b == m.a

-- how many links are at particle i
abbrev pub links_at : List Link → ℕ → ℕ
links_at links i = length (filter (λ l. l.a == i || l.b == i) links)

-- at most 524,288, each valid, of which at most one joins two particles, and at most 32 are at a particle
abbrev pub are_valid_links : ℤ → ℕ → List Link → Bool
are_valid_links limit n links =
    nat_le (length links) 524288
    && list_all (is_valid_link limit n) links
    && none_twice join_alike links
    && list_all (λ i. nat_le (links_at links i) 32) (range_with_len 0 n)

-- the same as facts
pub record ValidLinks (limit : ℤ) (n : ℕ) (links : List Link) : Type 0 where
  pub number : length links ≤ 524288
  pub each : All (ValidLink limit n) links
  pub once : IsTrue (none_twice join_alike links)
  pub few : (i : ℕ) → i < n → links_at links i ≤ 32

-- steps up to 1,000,000 that increase, and places within the limit
abbrev pub are_valid_keys : ℤ → List Key → Bool
are_valid_keys limit [] = true
are_valid_keys limit (key ∷ keys) =
    nat_le key.step 1000000
    && is_within limit key.place
    && list_all (λ later. nat_lt key.step later.step) keys
    && are_valid_keys limit keys

-- a key that may stand where the steps before it are below `low`
abbrev pub is_next_key : ℤ → ℕ → Key → Bool
is_next_key limit low key = nat_le low key.step && nat_le key.step 1000000 && is_within limit key.place

-- a track of one of n particles with 1 to 1,024 valid keys
abbrev pub is_valid_track : ℤ → ℕ → Track → Bool
is_valid_track limit n track =
    nat_lt track.particle n
    && nat_le 1 (length track.keys)
    && nat_le (length track.keys) 1024
    && are_valid_keys limit track.keys

abbrev pub are_valid_tracks : ℤ → ℕ → List Track → Bool
are_valid_tracks limit n tracks =
    nat_le (length tracks) 4096
    && list_all (is_valid_track limit n) tracks
    && none_twice {A = Track} (λ t u. t.particle == u.particle) tracks

-- passes, damping, thickness and friction
abbrev pub are_valid_numbers : Parts → Bool
are_valid_numbers parts =
    nat_le parts.passes 64
    && is_between (pos 0) (pos 1024) parts.damping
    && is_between (pos 0) (pos 1048576) parts.thickness
    && is_between (pos 0) (pos 256) parts.friction

-- all that is asked of parts but what is held, at rest and live
unfoldable pub is_well_formed : Parts → Bool
is_well_formed parts =
    is_limit parts.limit
    && are_valid_particles parts.limit parts.particles
    && are_valid_links parts.limit (length parts.particles) parts.links
    && are_valid_shapes parts.limit (shapes_in parts)
    && are_valid_tracks parts.limit (length parts.particles) parts.tracks
    && is_within parts.limit parts.gravity
    && are_valid_numbers parts

abbrev pub is_at_rest : Particle → Bool
is_at_rest p = nat_le (squared_length (minus p.at p.before)) 0

-- each tracked particle is held
abbrev pub are_tracked_held : List Track → List Particle → Bool
are_tracked_held tracks ps = list_all (λ t. (particle_at ps t.particle).held) tracks

-- parts that are a scene: well formed, all links are live, held particles are at rest, and tracked ones are held
unfoldable pub is_valid : Parts → Bool
is_valid parts =
    is_well_formed parts
    && list_all (λ l. l.live) parts.links
    && list_all (λ p. not p.held || is_at_rest p) parts.particles
    && are_tracked_held parts.tracks parts.particles
