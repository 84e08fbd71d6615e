-- PlaceSums of vectors, one particle after another.
use Rattle.std.proofs.Common.{◌≡◌, ◌∙◌, sym, ap, refl, ℕ, ◌+◌, ◌*◌, ◌<◌, ◌≤◌, ◌^◌, List, length, get_or, drop, map, arith}
use Rattle.std.specs.Prelude.{fold}
use Rattle.std.proofs.lemmas.List.{drop_more, drop_all}
use Rattle.pbd_num.specs.declared.Vec3.{Vec3}
use Rattle.pbd_num.specs.Vectors.{Within, plus, zero_vector}
use Rattle.pbd_world.specs.declared.parts.Particle.{Particle}
use Rattle.pbd_world.specs.Replay.{sum_over}

-- with the particles from number i on it makes the sum of all, and it is at most i places in size
pub record IsSumTo (f : Particle → Vec3) (ps : List Particle) (i : ℕ) (sum : Vec3) : Type 0 where
  pub whole : fold plus sum (map f (drop i ps)) ≡ sum_over f ps
  pub size : Within (i * 2 ^ 29) sum

pub sum_begins : (f : Particle → Vec3) (ps : List Particle) → IsSumTo f ps 0 zero_vector
sum_begins f ps = record { whole = refl; size = record { x = omega arith; y = omega arith; z = omega arith } }

pub sum_next : (f : Particle → Vec3) (ps : List Particle) (i : ℕ) (d : Particle) (sum next : Vec3)
    → IsSumTo f ps i sum → i < length ps → next ≡ plus sum (f (get_or ps i d)) → Within (i * 2 ^ 29 + 2 ^ 29) next
    → IsSumTo f ps (i + 1) next
sum_next f ps i d sum next so_far lt is size = record {
  whole = rw is (ap (λ qs. fold plus sum (map {A = Particle} {B = Vec3} f qs)) (sym (drop_more ps i d lt)) ∙ so_far.whole);
  size = record { x = omega (arith, size.x); y = omega (arith, size.y); z = omega (arith, size.z) };
}

pub sum_ends : (f : Particle → Vec3) (ps : List Particle) (i : ℕ) (sum : Vec3) → IsSumTo f ps i sum → length ps ≤ i → sum ≡ sum_over f ps
sum_ends f ps i sum so_far all = rw (drop_all i ps all) at so_far.whole
