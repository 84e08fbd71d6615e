-- The shape part of a pass.
use Rattle.std.specs.Prelude.{◌≡◌, ℕ, ◌*◌, ◌^◌, ◌<◌, ◌≤◌, ◌==◌, ℤ, List, ◌++◌, length, map, zip, fold, take, drop, Bool, ◌||◌}
use Rattle.std.specs.Prelude.{if◌then◌else◌, IsTrue, Result, Ok}
use Rattle.pbd_world.specs.declared.parts.Particle.{Particle}
use Rattle.pbd_world.specs.Outcomes.{◌>>=◌, each_from}
use Rattle.pbd_world.specs.Ledger.{Ledger, booked, HaveRoom}
use Rattle.pbd_world.specs.Particles.{Moved}
use Rattle.pbd_world.specs.Shapes.{Shape, Shaped, are_valid_shapes, shaped}
use Rattle.pbd_world.specs.Step.{Passing, all_shaped}
use Rattle.pbd_store.specs.Blocks.{blocks_of}
use Rattle.pbd_store.specs.Moving.{AreInside}
use Rattle.pbd_shape.specs.declared.shapes.Shapes.{Shapes}
use Rattle.pbd_shape.specs.Valid.{lists_of}

-- particle by particle, up to the first that leaves the limit
abbrev pub all_pushed : ℤ → List Shape → Passing → Result Passing ℕ
all_pushed limit shapes s = each_from 0 (λ i p. shaped limit shapes p) s.motion.particles >>= λ ss. Ok (all_shaped s ss)

-- how often the shape part reaches a store at most: twice for each block, where there is a shape
abbrev pub push_cost : List Shape → ℕ → ℕ
push_cost shapes blocks = if length shapes == 0 then 0 else 2 * blocks

-- the particles from n on after the shapes, while those before n stay as they are
abbrev pub shaped_after : ℕ → Passing → List Shaped → Passing
shaped_after n s ss =
    let ms = map {A = Shaped} {B = Moved} (λ x. x.moved) ss in
    record {
      motion = record {
        particles = take n s.motion.particles ++ map {A = Moved} {B = Particle} (λ m. m.particle) ms;
        totals = fold {A = Moved} {B = Ledger} (λ u m. booked u m.entries) s.motion.totals ms;
      };
      touched = take n s.touched ++ map {A = Bool × Bool} {B = Bool}
          (λ pair. pair.0 || pair.1) (zip (drop n s.touched) (map {A = Shaped} {B = Bool} (λ x. x.touched) ss));
    }

unfoldable pub pushed_from : ℤ → List Shape → ℕ → Passing → Result Passing ℕ
pushed_from limit shapes n s = each_from n (λ i p. shaped limit shapes p) (drop n s.motion.particles) >>= λ ss. Ok (shaped_after n s ss)

-- what has to hold so that the particles of a block of so many lanes can be pushed
pub record CanPush (width number : ℕ) (limit : ℤ) (particles : List Particle) (shapes : Shapes) (touched : List Bool)
    (totals : Ledger) : Type 0 where
  pub lanes_low : 0 < width
  pub lanes_high : width ≤ 16
  pub block : number < blocks_of (length particles) width
  pub valid : IsTrue (are_valid_shapes limit (lists_of shapes))
  pub inside : AreInside limit particles
  pub flags : length touched ≡ length particles
  pub room : HaveRoom (2 ^ 125) totals
