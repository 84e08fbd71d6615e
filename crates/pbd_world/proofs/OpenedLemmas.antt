-- The world that opens from valid parts is sound.
use Rattle.std.proofs.Common.{◌≡◌, refl, ℕ, ◌+◌, ◌*◌, ◌≤◌, ◌^◌, Bool, true, false, not, ◌&&◌, ◌||◌, List, [], ◌∷◌, length, map, arith, ℤ}
use Rattle.std.proofs.Common.{pos, ◌+ℤ◌, ◌≤ℤ◌, unsigned_abs}
use Rattle.std.specs.Prelude.{IsTrue, filter, fold, nat_le, cond}
use Rattle.std.specs.List.{list_all, enumerate_from}
use Rattle.std.proofs.lemmas.Int.{ints}
use Rattle.std.proofs.lemmas.Bool.{and_parts, and_from, leb-true}
use Rattle.pbd_num.specs.Vectors.{is_within, Within}
use Rattle.pbd_num.proofs.Ranges.{within_facts}
use Rattle.pbd_num.proofs.Sizes.{size-sub}
use Rattle.pbd_world.specs.declared.parts.Particle.{Particle}
use Rattle.pbd_world.specs.declared.parts.Track.{Track}
use Rattle.pbd_world.specs.declared.parts.Parts.{Parts}
use Rattle.pbd_world.specs.Ledger.{Sum, SumWithin, zero_sum, sum_plus, both_sums, zero_totals, all_totals}
use Rattle.pbd_world.specs.Particles.{velocity, is_free}
use Rattle.pbd_world.specs.Momentum.{momentum}
use Rattle.pbd_world.specs.Valid.{is_valid_particle, is_at_rest, is_valid}
use Rattle.pbd_world.specs.World.{opened, is_tracked, IsSound}
use Rattle.pbd_world.proofs.Rooms.{sum_grows, sum_wider}
use Rattle.pbd_world.proofs.WorldParts.{formed}
use Rattle.pbd_world.proofs.WholeLemmas.{limit_low, limit_high}

-- ---- the size of the momentum

-- a valid particle's velocity has axes up to twice the limit
velocity_within : (limit : ℤ) (b : ℕ) (p : Particle) → pos 0 ≤ℤ limit → unsigned_abs limit ≤ b → IsTrue (is_valid_particle limit p)
    → Within (2 * b) (velocity p)
velocity_within limit b p h hb v =
    let places = and_parts (is_within limit p.at && is_within limit p.before && nat_le 1 p.weight) (nat_le p.weight 65535) v in
    let both = and_parts (is_within limit p.at && is_within limit p.before) (nat_le 1 p.weight) places.0 in
    let each = and_parts (is_within limit p.at) (is_within limit p.before) both.0 in
    let at = (within_facts limit p.at h).0 each.0 in
    let before = (within_facts limit p.before h).0 each.1 in
    record {
      x = omega (arith, size-sub p.at.x p.before.x, at.x, before.x);
      y = omega (arith, size-sub p.at.y p.before.y, at.y, before.y);
      z = omega (arith, size-sub p.at.z p.before.z, at.z, before.z);
    }

-- one particle more, held or free
one_more : (limit : ℤ) (b : ℕ) (p : Particle) (ps : List Particle) (s : Sum) (a : ℕ) (held : Bool)
    → ((t : Sum) (u : ℕ) → SumWithin u t → SumWithin (u + length ps * (2 * b)) (fold sum_plus t (map velocity (filter is_free ps))))
    → SumWithin a s → Within (2 * b) (velocity p)
    → SumWithin (a + length (p ∷ ps) * (2 * b)) (fold sum_plus s
    (map velocity (cond (not held) (p ∷ filter is_free ps) (filter is_free ps))))
one_more limit b p ps s a true rest w v = sum_wider _ (a + length ps * (2 * b)) _ (omega arith) (rest s a w)
one_more limit b p ps s a false rest w v = sum_wider _ ((a + 2 * b) + length ps * (2 * b)) _ (omega arith)
    (rest (sum_plus s (velocity p)) (a + 2 * b) (sum_grows s (velocity p) a (2 * b) w v))

-- the sum grows by at most so much with each particle
momentum_from : (limit : ℤ) (b : ℕ) (ps : List Particle) (s : Sum) (a : ℕ) → pos 0 ≤ℤ limit → unsigned_abs limit ≤ b
    → IsTrue (list_all (is_valid_particle limit) ps) → SumWithin a s
    → SumWithin (a + length ps * (2 * b)) (fold sum_plus s (map velocity (filter is_free ps)))
momentum_from limit b [] s a h hb v w = sum_wider s a (a + length {A = Particle} [] * (2 * b)) (omega arith) w
momentum_from limit b (p ∷ ps) s a h hb v w =
    let parts = and_parts (is_valid_particle limit p) (list_all (is_valid_particle limit) ps) v in
    one_more limit b p ps s a p.held
    (λ t u x. momentum_from limit b ps t u h hb parts.1 x) w (velocity_within limit b p h hb parts.0)

-- ---- what is held

either : (a b c : Bool) → IsTrue (a || c) → IsTrue (a || b || c)
either true b c t = refl
either false true c t = refl
either false false c t = t

at_rest_from : (tracks : List Track) (ps : List Particle) (n : ℕ) → IsTrue (list_all (λ p. not p.held || is_at_rest p) ps)
    → IsTrue (list_all {X = ℕ × Particle} (λ m. not m.1.held || is_tracked tracks m.0 || is_at_rest m.1) (enumerate_from n ps))
at_rest_from tracks [] n t = refl
at_rest_from tracks (p ∷ ps) n t =
    let parts = and_parts (not p.held || is_at_rest p) (list_all (λ q. not q.held || is_at_rest q) ps) t in
    and_from _ _ (either (not p.held) (is_tracked tracks n) (is_at_rest p) parts.0) (at_rest_from tracks ps (n + 1) parts.1)

-- ---- the balance

nothing_more : (s : Sum) → s ≡ both_sums s (all_totals zero_totals)
nothing_more s =
    let x : s.x ≡ s.x +ℤ pos 0 = omega (arith, ints) in
    let y : s.y ≡ s.y +ℤ pos 0 = omega (arith, ints) in
    let z : s.z ≡ s.z +ℤ pos 0 = omega (arith, ints) in
    λ i. record { x = x i; y = y i; z = z i }

-- ---- soundness

nothing : (n : ℕ) → SumWithin n zero_sum
nothing n = record { x = omega arith; y = omega arith; z = omega arith }

pub opened-is_sound : (parts : Parts) → IsTrue (is_valid parts) → IsSound (opened parts)
unfolding is_valid
opened-is_sound parts v =
    let p4 = and_parts _ _ v in
    let p3 = and_parts _ _ p4.0 in
    let p2 = and_parts _ _ p3.0 in
    let form = formed parts p2.0 in
    let particles = and_parts (nat_le (length parts.particles) 65536) (list_all (is_valid_particle parts.limit) parts.particles) form.particles in
    let few : length parts.particles ≤ 65536 = leb-true (length parts.particles) 65536 particles.0 in
    record {
      well_formed = p2.0;
      tracked = p4.1;
      at_rest = at_rest_from parts.tracks parts.particles 0 p3.1;
      steps = omega arith;
      contacts = omega arith;
      bounded = record { gravity = nothing 0; damping = nothing 0; link = nothing 0; contact = nothing 0; shape = nothing 0 };
      opening = sum_wider (momentum parts.particles) (0 + length parts.particles * (2 * 2 ^ 29)) (2 ^ 46) (omega arith)
          (momentum_from parts.limit (2 ^ 29) parts.particles zero_sum 0 (limit_low parts.limit form.limit)
          (limit_high parts.limit form.limit) particles.1 (nothing 0));
      balanced = nothing_more (momentum parts.particles);
      undamped = λ e. refl;
      one_weight = λ weight all. (refl, refl);
    }
