-- How a move changes the momentum, and the ledger with it.
use Rattle.std.proofs.Common.{◌≡◌, refl, sym, ap, ◌∙◌, ℕ, zero, suc, ◌<◌, Bool, true, false, not, List, [], ◌∷◌, length, map, arith, ℤ, pos}
use Rattle.std.proofs.Common.{◌+ℤ◌}
use Rattle.std.specs.Prelude.{filter, fold, cond, slice_set}
use Rattle.std.proofs.lemmas.Int.{ints}
use Rattle.pbd_num.specs.declared.Vec3.{Vec3}
use Rattle.pbd_world.specs.declared.parts.Particle.{Particle}
use Rattle.pbd_world.specs.declared.totals.Class.{Class}
use Rattle.pbd_world.specs.declared.totals.Class.TheVariants as classes
use Rattle.pbd_world.specs.Ledger.{Sum, Ledger, zero_sum, sum_plus, both_sums, added, all_totals}
use Rattle.pbd_world.specs.Particles.{velocity, is_free, particle_at}
use Rattle.pbd_world.specs.Momentum.{momentum}

pub same_sum : (s t : Sum) → s.x ≡ t.x → s.y ≡ t.y → s.z ≡ t.z → s ≡ t
same_sum s t x y z = λ i. record { x = x i; y = y i; z = z i }

-- ---- sums from any start

pub three_terms : (a b c : ℤ) → (a +ℤ b) +ℤ c ≡ a +ℤ ((pos 0 +ℤ b) +ℤ c)
three_terms a b c = omega (arith, ints)

fold_from : (vs : List Vec3) (s : Sum) → fold sum_plus s vs ≡ both_sums s (fold sum_plus zero_sum vs)
fold_from [] s = same_sum s (both_sums s zero_sum) (omega (arith, ints)) (omega (arith, ints)) (omega (arith, ints))
fold_from (v ∷ vs) s =
    let rest = fold sum_plus zero_sum vs in
    fold_from vs (sum_plus s v)
    ∙ same_sum (both_sums (sum_plus s v) rest) (both_sums s (both_sums (sum_plus zero_sum v) rest)) (three_terms s.x v.x rest.x)
    (three_terms s.y v.y rest.y) (three_terms s.z v.z rest.z)
    ∙ ap (both_sums s) (sym (fold_from vs (sum_plus zero_sum v)))

-- ---- one particle's part in the momentum

abbrev pub part_by : Bool → Vec3 → Sum
part_by true v = zero_sum
part_by false v = sum_plus zero_sum v

abbrev pub part : Particle → Sum
part p = part_by p.held (velocity p)

cons_by : (held : Bool) (v : Vec3) (p : Particle) (ps : List Particle) → velocity p ≡ v
    → fold sum_plus zero_sum (map velocity (cond (not held) (p ∷ filter is_free ps) (filter is_free ps)))
    ≡ both_sums (part_by held v) (momentum ps)
cons_by true v p ps e = same_sum (momentum ps) (both_sums zero_sum (momentum ps)) (omega (arith, ints)) (omega (arith, ints))
    (omega (arith, ints))
cons_by false v p ps e = fold_from (map velocity (filter is_free ps)) (sum_plus zero_sum (velocity p))
    ∙ ap (λ (u : Vec3). both_sums (sum_plus zero_sum u) (momentum ps)) e

pub momentum_cons : (p : Particle) (ps : List Particle) → momentum (p ∷ ps) ≡ both_sums (part p) (momentum ps)
momentum_cons p ps = cons_by p.held (velocity p) p ps refl

swap_terms : (a b c : ℤ) → (a +ℤ b) +ℤ c ≡ (c +ℤ b) +ℤ a
swap_terms a b c = omega (arith, ints)

under_terms : (a b c d e : ℤ) → b +ℤ c ≡ d +ℤ e → (a +ℤ b) +ℤ c ≡ (a +ℤ d) +ℤ e
under_terms a b c d e h = omega (arith, ints, h)

-- another particle in place of particle i
pub momentum_set : (ps : List Particle) (i : ℕ) (q : Particle) → i < length ps
    → both_sums (momentum (slice_set ps i q)) (part (particle_at ps i)) ≡ both_sums (momentum ps) (part q)
momentum_set [] i q h = absurd (omega (arith, h))
momentum_set (p ∷ ps) zero q h =
    let m = momentum ps in
    ap (λ (s : Sum). both_sums s (part p)) (momentum_cons q ps)
    ∙ same_sum (both_sums (both_sums (part q) m) (part p)) (both_sums (both_sums (part p) m) (part q))
    (swap_terms (part q).x m.x (part p).x) (swap_terms (part q).y m.y (part p).y) (swap_terms (part q).z m.z (part p).z)
    ∙ ap (λ (s : Sum). both_sums s (part q)) (sym (momentum_cons p ps))
momentum_set (p ∷ ps) (suc i) q h =
    let m = momentum ps in
    let n = momentum (slice_set ps i q) in
    let old = part (particle_at ps i) in
    let ih : both_sums n old ≡ both_sums m (part q) = momentum_set ps i q (omega (arith, h)) in
    ap (λ (s : Sum). both_sums s old) (momentum_cons p (slice_set ps i q))
    ∙ same_sum (both_sums (both_sums (part p) n) old) (both_sums (both_sums (part p) m) (part q))
    (under_terms (part p).x n.x old.x m.x (part q).x (ap (λ (s : Sum). s.x) ih))
    (under_terms (part p).y n.y old.y m.y (part q).y (ap (λ (s : Sum). s.y) ih))
    (under_terms (part p).z n.z old.z m.z (part q).z (ap (λ (s : Sum). s.z) ih))
    ∙ ap (λ (s : Sum). both_sums s (part q)) (sym (momentum_cons p ps))

-- ---- the ledger

-- a move in one of two sums moves both together
move_first : (s t : Sum) (v : Vec3) → both_sums (sum_plus s v) t ≡ sum_plus (both_sums s t) v
move_first s t v = same_sum (both_sums (sum_plus s v) t) (sum_plus (both_sums s t) v) (omega (arith, ints)) (omega (arith, ints))
    (omega (arith, ints))

shift_terms : (a b c : ℤ) → a +ℤ (b +ℤ c) ≡ (a +ℤ b) +ℤ c
shift_terms a b c = omega (arith, ints)

move_second : (s t now : Sum) (v : Vec3) → now ≡ sum_plus t v → both_sums s now ≡ sum_plus (both_sums s t) v
move_second s t now v is =
    ap (both_sums s) is
    ∙ same_sum (both_sums s (sum_plus t v)) (sum_plus (both_sums s t) v) (shift_terms s.x t.x v.x) (shift_terms s.y t.y v.y)
    (shift_terms s.z t.z v.z)

-- an entry raises all totals together by its move
pub added_all : (t : Ledger) (c : Class) (v : Vec3) → all_totals (added t c v) ≡ sum_plus (all_totals t) v
added_all t classes.Gravity v = move_first t.gravity _ v
added_all t classes.Damping v = move_second t.gravity _ _ v (move_first t.damping _ v)
added_all t classes.Link v = move_second t.gravity _ _ v (move_second t.damping _ _ v (move_first t.link _ v))
added_all t classes.Contact v = move_second t.gravity _ _ v
    (move_second t.damping _ _ v (move_second t.link _ _ v (move_first t.contact _ v)))
added_all t classes.Pin v = move_second t.gravity _ _ v (move_second t.damping _ _ v
    (move_second t.link _ _ v (move_second t.contact _ _ v (move_first t.pin t.shape v))))
added_all t classes.Shape v = move_second t.gravity _ _ v
    (move_second t.damping _ _ v (move_second t.link _ _ v (move_second t.contact _ _ v (move_second t.pin t.shape _ v refl))))
