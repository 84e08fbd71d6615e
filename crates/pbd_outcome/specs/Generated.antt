-- The scene that `large` generates from a number and a size, and what it prints.
use Rattle.std.specs.Prelude.{ℕ, ◌+◌, ◌*◌, ◌%◌, ◌^◌, ◌==◌, ◌||◌, ℤ, pos, neg_ℤ, ◌-ℤ◌, Bool, if◌then◌else◌, codes, decimal, List, [], ◌∷◌}
use Rattle.std.specs.Prelude.{◌++◌}
use Rattle.std.specs.Fmt.{signed_decimal}
use Rattle.rand_pcg.specs.Lcg.{Lcg, started, increment_of}
use Rattle.rand_pcg.specs.Pcg.{multiplier_64, pcg32}
use Rattle.pbd_num.specs.declared.Vec3.{Vec3}
use Rattle.pbd_num.specs.Vectors.{is_within, minus}
use Rattle.pbd_mesh.specs.declared.spec.ClothSpec.{ClothSpec}
use Rattle.pbd_mesh.specs.Cloth.{cloth_particles, cloth_links}
use Rattle.pbd_world.specs.declared.parts.Particle.{Particle}
use Rattle.pbd_world.specs.declared.parts.Sphere.{Sphere}
use Rattle.pbd_world.specs.declared.parts.Parts.{Parts}
use Rattle.pbd_world.specs.declared.command.FrameSums.{FrameSums}
use Rattle.pbd_world.specs.declared.command.Reply.{Reply}
use Rattle.pbd_world.specs.declared.command.Reply.TheVariants.{Ledger}
use Rattle.pbd_world.specs.Replay.{frame_sums}
use Rattle.pbd_world.specs.Text.{line, text}
use Rattle.pbd_world.specs.World.{World, no_parts}
use Rattle.pbd_session.specs.Replaying.{axis}

abbrev pub vector : ℤ → ℤ → ℤ → Vec3
vector x y z = record { x = x; y = y; z = z }

-- a level cloth of so many rows and as many columns, a tenth of a metre apart
abbrev pub level_cloth : ℕ → ClothSpec
level_cloth size = record {
  origin = vector (pos 0) (pos 65536) (pos 0);
  across = vector (pos 6554) (pos 0) (pos 0);
  down = vector (pos 0) (pos 0) (pos 6554);
  rows = size;
  columns = size;
  weight = 1;
  stretch = 256;
  shear = 256;
  bend = 64;
  stretch_tear = pos 0;
  shear_tear = pos 0;
  bend_tear = pos 0;
}

-- the sphere under it, half a spacing past its middle both ways
abbrev pub middle_sphere : ℕ → Sphere
middle_sphere size = record { centre = vector (pos (3277 * size)) (pos 0) (pos (3277 * size)); radius = pos 32768 }

-- ---- velocities

-- what a word gives: -64 to 64
abbrev pub speed : ℕ → ℤ
speed word = pos (word % 129) -ℤ pos 64

-- the velocity of the next three words, and the generator after them
abbrev pub velocity_of : Lcg → Vec3
velocity_of g = vector (speed (pcg32 g).0) (speed (pcg32 (pcg32 g).1).0) (speed (pcg32 (pcg32 (pcg32 g).1).1).0)

abbrev pub after_three : Lcg → Lcg
after_three g = (pcg32 (pcg32 (pcg32 g).1).1).1

-- the first and the last particle of row 0 are held
abbrev pub is_hung : ℕ → ℕ → Bool
is_hung size n = n == 0 || n + 1 == size

-- a held particle stays where it is, and another one has come from where its velocity says
abbrev pub set_off : Bool → Vec3 → Particle → Particle
set_off held v p = record p { held = held; before = if held then p.at else minus p.at v }

-- its place is within the range
abbrev pub is_near : Particle → Bool
is_near p = is_within (pos (2 ^ 29)) p.at

-- Each particle from number n on draws its velocity, held ones too.
unfoldable pub all_set_off : ℕ → ℕ → Lcg → List Particle → List Particle
all_set_off size n g [] = []
all_set_off size n g (p ∷ ps) = set_off (is_hung size n) (velocity_of g) p ∷ all_set_off size (n + 1) (after_three g) ps

-- the generator of a number
abbrev pub words_of : ℕ → Lcg
words_of number = started 64 multiplier_64 number (increment_of 64 0)

-- ---- the scene

-- the scene without its cloth
abbrev pub bare_parts : ℕ → Parts
bare_parts size = record (no_parts (pos (2 ^ 29))) {
  spheres = middle_sphere size ∷ [];
  gravity = vector (pos 0) (neg_ℤ (pos 179)) (pos 0);
  passes = 8;
  damping = pos 10;
  thickness = pos 3000;
}

unfoldable pub generated : ℕ → ℕ → Parts
generated number size = record (bare_parts size) {
  particles = all_set_off size 0 (words_of number) (cloth_particles (level_cloth size));
  links = cloth_links (level_cloth size) 0;
}

-- ---- what is printed

unfoldable pub large_line : ℕ → ℕ → List ℕ
large_line number size = line (codes "large" ∷ decimal number ∷ decimal size ∷ [])

unfoldable pub sums_line : FrameSums → List ℕ
sums_line s = line (codes "sums" ∷ decimal s.steps ∷ decimal s.live ∷ decimal s.contacts
    ∷ signed_decimal (axis s.at 0) ∷ signed_decimal (axis s.at 1) ∷ signed_decimal (axis s.at 2)
    ∷ signed_decimal (axis s.before 0) ∷ signed_decimal (axis s.before 1) ∷ signed_decimal (axis s.before 2) ∷ [])

-- the first line, and the reply to the steps
abbrev pub summary_head : ℕ → ℕ → World → Reply → List ℕ
summary_head number size w reply = large_line number size ++ text w reply

-- the sums and the ledger of a world
abbrev pub summary_tail : World → List ℕ
summary_tail w = sums_line (frame_sums w) ++ text w Ledger

unfoldable pub summary : ℕ → ℕ → World → Reply → List ℕ
summary number size w reply = summary_head number size w reply ++ summary_tail w
