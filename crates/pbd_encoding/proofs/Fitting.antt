-- The numbers of a sound world that no command changes are in the ranges that its bytes have room for.
use Rattle.std.proofs.Common.{ℕ, ◌<◌, ◌≤◌, ◌^◌, ◌&&◌, List, [], ◌∷◌, length, arith, ℤ, pos, ◌≤ℤ◌, ◌*ℤ◌, unsigned_abs}
use Rattle.std.specs.Prelude.{IsTrue, FitsSigned, nat_le, nat_lt}
use Rattle.std.specs.Int.{w64}
use Rattle.std.specs.List.{AllByRecursion, list_all}
use Rattle.std.proofs.lemmas.Int.{ints}
use Rattle.std.proofs.lemmas.Bool.{and_parts, leb-true, ltb-true}
use Rattle.std.proofs.lemmas.List.Elements.{recursion_from_All}
use Rattle.pbd_num.specs.Vectors.{is_within}
use Rattle.pbd_num.proofs.Sizes.{fits}
use Rattle.pbd_world.specs.declared.parts.Particle.{Particle}
use Rattle.pbd_world.specs.declared.parts.Link.{Link}
use Rattle.pbd_world.specs.declared.parts.Key.{Key}
use Rattle.pbd_world.specs.declared.parts.Track.{Track}
use Rattle.pbd_world.specs.Ledger.{SumFits}
use Rattle.pbd_world.specs.Valid.{is_between, is_valid_particle, is_valid_track, are_valid_keys, ValidLink}
use Rattle.pbd_world.specs.World.{World, IsSound, parts_of}
use Rattle.pbd_world.proofs.KeptLemmas.{IsLimit}
use Rattle.pbd_world.proofs.ValidLinks.{links_facts}
use Rattle.pbd_world.proofs.WorldParts.{Formed, formed, limit_of, IsFit, all_fit}
use Rattle.pbd_log.specs.Entries.{VectorFits}
use Rattle.pbd_encoding.proofs.Ranges.{inside_fits, between_fits, sum_fits, few_from}
use Rattle.pbd_encoding.proofs.Shapes.{ShapesFit, shapes_fit}
use Rattle.pbd_encoding.proofs.Texts.{AreFew}

-- ---- the settings

pub record SettingsFit (w : World) : Type 0 where
  pub limit : FitsSigned w64 w.limit
  pub passes : w.passes < 2 ^ 32
  pub damping : FitsSigned w64 w.damping
  pub thickness : FitsSigned w64 w.thickness
  pub friction : FitsSigned w64 w.friction
  pub opening : SumFits w.opening

settings_fit : (w : World) → IsSound w → Formed (parts_of w) → SettingsFit w
settings_fit w sound f =
    let passes = nat_le w.passes 64 in
    let damping = is_between (pos 0) (pos 1024) w.damping in
    let thickness = is_between (pos 0) (pos 1048576) w.thickness in
    let p3 = and_parts (passes && damping && thickness) (is_between (pos 0) (pos 256) w.friction) f.numbers in
    let p2 = and_parts (passes && damping) thickness p3.0 in
    let p1 = and_parts passes damping p2.0 in
    let opening = sound.opening in
    record {
      limit = fits w.limit (omega (arith, (limit_of w f).high));
      passes = omega (arith, leb-true w.passes 64 p1.0);
      damping = between_fits 1024 w.damping (omega arith) p1.1;
      thickness = between_fits 1048576 w.thickness (omega arith) p2.1;
      friction = between_fits 256 w.friction (omega arith) p3.1;
      opening = sum_fits w.opening (record { x = omega (arith, opening.x); y = omega (arith, opening.y); z = omega (arith, opening.z) });
    }

-- ---- items

abbrev pub WeightFits : Particle → Type 0
WeightFits p = p.weight < 2 ^ 16

weights_fit : (limit : ℤ) (ps : List Particle) → AllByRecursion (IsFit limit) ps → AllByRecursion WeightFits ps
weights_fit limit [] h = tt
weights_fit limit (p ∷ ps) h = (omega (arith, leb-true p.weight 65535 h.0.high), weights_fit limit ps h.1)

pub record LinkFits (l : Link) : Type 0 where
  pub a : l.a < 2 ^ 32
  pub b : l.b < 2 ^ 32
  pub rest : FitsSigned w64 l.rest
  pub k : l.k < 2 ^ 16
  pub tear : FitsSigned w64 l.tear

reach_size : (limit z : ℤ) → pos 0 ≤ℤ limit → unsigned_abs limit ≤ 2 ^ 29 → pos 0 ≤ℤ z → z ≤ℤ (pos 4 *ℤ limit) → unsigned_abs z ≤ 2 ^ 31
reach_size limit z low high h k = grind (arith, ints)

link_fits : (limit : ℤ) (n : ℕ) (l : Link) → IsLimit limit → n ≤ 65536 → ValidLink limit n l → LinkFits l
link_fits limit n l lim few v = record {
  a = omega (arith, few, v.first);
  b = omega (arith, few, v.second);
  rest = fits l.rest (omega (arith, reach_size limit l.rest lim.low lim.high v.rest_low v.rest_high));
  k = omega (arith, v.stiffness);
  tear = fits l.tear (omega (arith, reach_size limit l.tear lim.low lim.high v.tear_low v.tear_high));
}

links_fit : (limit : ℤ) (n : ℕ) (ls : List Link) → IsLimit limit → n ≤ 65536 → AllByRecursion (ValidLink limit n) ls
    → AllByRecursion LinkFits ls
links_fit limit n [] lim few h = tt
links_fit limit n (l ∷ ls) lim few h = (link_fits limit n l lim few h.0, links_fit limit n ls lim few h.1)

pub record KeyFits (key : Key) : Type 0 where
  pub step : key.step < 2 ^ 32
  pub place : VectorFits key.place

keys_fit : (limit : ℤ) (keys : List Key) → IsLimit limit → IsTrue (are_valid_keys limit keys) → AllByRecursion KeyFits keys
keys_fit limit [] lim h = tt
keys_fit limit (k ∷ keys) lim h =
    let rises = list_all (λ (later : Key). nat_lt k.step later.step) keys in
    let p3 = and_parts (nat_le k.step 1000000 && is_within limit k.place && rises) (are_valid_keys limit keys) h in
    let p2 = and_parts (nat_le k.step 1000000 && is_within limit k.place) rises p3.0 in
    let p1 = and_parts (nat_le k.step 1000000) (is_within limit k.place) p2.0 in (
      record { step = omega (arith, leb-true k.step 1000000 p1.0); place = inside_fits limit k.place lim p1.1 },
      keys_fit limit keys lim p3.1,
    )

pub record TrackFits (t : Track) : Type 0 where
  pub particle : t.particle < 2 ^ 32
  pub keys : AreFew KeyFits t.keys

track_fits : (limit : ℤ) (n : ℕ) (t : Track) → IsLimit limit → n ≤ 65536 → IsTrue (is_valid_track limit n t) → TrackFits t
track_fits limit n t lim few h =
    let p3 = and_parts (nat_lt t.particle n && nat_le 1 (length t.keys) && nat_le (length t.keys) 1024) (are_valid_keys limit t.keys) h in
    let p2 = and_parts (nat_lt t.particle n && nat_le 1 (length t.keys)) (nat_le (length t.keys) 1024) p3.0 in
    let p1 = and_parts (nat_lt t.particle n) (nat_le 1 (length t.keys)) p2.0 in
    record {
      particle = omega (arith, few, ltb-true t.particle n p1.0);
      keys = record { few = omega (arith, leb-true (length t.keys) 1024 p2.1); each = keys_fit limit t.keys lim p3.1 };
    }

-- ---- all of it

pub record FixedFit (w : World) : Type 0 where
  pub settings : SettingsFit w
  pub weights : AreFew WeightFits w.particles
  pub links : AreFew LinkFits w.links
  pub tracks : AreFew TrackFits w.tracks
  pub shapes : ShapesFit w.shapes

pub fixed_fit : (w : World) → IsSound w → FixedFit w
fixed_fit w sound =
    let n = length w.particles in
    let f : Formed (parts_of w) = formed (parts_of w) sound.well_formed in
    let lim = limit_of w f in
    let particles = and_parts (nat_le n 65536) (list_all (is_valid_particle w.limit) w.particles) f.particles in
    let few = leb-true n 65536 particles.0 in
    let links = (links_facts w.limit n w.links).0 f.links in
    record {
      settings = settings_fit w sound f;
      weights = record { few = omega (arith, few); each = weights_fit w.limit w.particles (all_fit w.limit w.particles particles.1) };
      links = record {
        few = omega (arith, links.number);
        each = links_fit w.limit n w.links lim few (recursion_from_All (ValidLink w.limit n) w.links links.each);
      };
      tracks = few_from 4096 (is_valid_track w.limit n) TrackFits w.tracks (omega arith) (λ t h. track_fits w.limit n t lim few h)
          (and_parts _ _ f.tracks).0;
      shapes = shapes_fit w.limit w.shapes lim f.shapes;
    }
