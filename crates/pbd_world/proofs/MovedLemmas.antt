-- Particles that carry their entries: many moved at once keep the balance.
use Rattle.std.proofs.Common.{◌≡◌, refl, sym, ap, ◌∙◌, ℕ, Bool, true, false, not, List, [], ◌∷◌, map, arith, ℤ, pos, ◌+ℤ◌, ◌-ℤ◌, neg_ℤ}
use Rattle.std.specs.Prelude.{fold, Option, Some, None, IfSome, if◌then◌else◌, ◌&&◌, option_map}
use Rattle.std.specs.List.{AllZip}
use Rattle.std.proofs.lemmas.Int.{ints}
use Rattle.pbd_num.specs.Vectors.{is_within}
use Rattle.pbd_world.specs.declared.parts.Particle.{Particle}
use Rattle.pbd_world.specs.Ledger.{Sum, Ledger, zero_sum, sum_plus, both_sums, added, Entry, booked, all_totals}
use Rattle.pbd_world.specs.Particles.{Moved, all_moved, velocity}
use Rattle.pbd_world.specs.Momentum.{momentum}
use Rattle.pbd_world.specs.World.{World}
use Rattle.pbd_world.specs.Shapes.{Shape, Way, stays, still, shaped_by, way_through, shaped, rubbed_away, slowed, rubbed}
use Rattle.pbd_world.specs.Step.{attached, damped_away, flown, if_within, predicted}
use Rattle.pbd_world.proofs.MomentumLemmas.{same_sum, part_by, part, momentum_cons, added_all}
use Rattle.pbd_world.proofs.BalanceLemmas.{Balances}
use Rattle.std.proofs.Math.IntN.{+ℤ_assoc}
use Rattle.pbd_num.specs.declared.Vec3.{Vec3}

-- ---- the moves of entries

abbrev pub moves_of : List Entry → Sum
moves_of [] = zero_sum
moves_of (e ∷ es) = sum_plus (moves_of es) e.1

abbrev pub all_moves : List Moved → Sum
all_moves [] = zero_sum
all_moves (m ∷ ms) = both_sums (moves_of m.entries) (all_moves ms)

pub zero_term : (a : ℤ) → a ≡ a +ℤ pos 0
zero_term a = omega (arith, ints)

pub plus_zero : (s : Sum) → s ≡ both_sums s zero_sum
plus_zero s = same_sum s (both_sums s zero_sum) (zero_term s.x) (zero_term s.y) (zero_term s.z)

late_terms : (a b c : ℤ) → (a +ℤ b) +ℤ c ≡ a +ℤ (c +ℤ b)
late_terms a b c = omega (arith, ints)

booked_all : (es : List Entry) (t : Ledger) → all_totals (booked t es) ≡ both_sums (all_totals t) (moves_of es)
booked_all [] t = plus_zero (all_totals t)
booked_all (e ∷ es) t =
    let a = all_totals t in
    let m = moves_of es in
    booked_all es (added t e.0 e.1)
    ∙ ap (λ (s : Sum). both_sums s m) (added_all t e.0 e.1)
    ∙ same_sum (both_sums (sum_plus a e.1) m) (both_sums a (sum_plus m e.1)) (late_terms a.x e.1.x m.x) (late_terms a.y e.1.y m.y)
    (late_terms a.z e.1.z m.z)

moved_all : (ms : List Moved) (t : Ledger) → all_totals (fold {A = Moved} (λ u m. booked u m.entries) t ms)
    ≡ both_sums (all_totals t) (all_moves ms)
moved_all [] t = plus_zero (all_totals t)
moved_all (m ∷ ms) t =
    let a = all_totals t in
    let b = moves_of m.entries in
    let c = all_moves ms in
    moved_all ms (booked t m.entries)
    ∙ ap (λ (s : Sum). both_sums s c) (booked_all m.entries t)
    ∙ same_sum (both_sums (both_sums a b) c) (both_sums a (both_sums b c)) (+ℤ_assoc a.x b.x c.x) (+ℤ_assoc a.y b.y c.y)
    (+ℤ_assoc a.z b.z c.z)

-- ---- a particle that carries its entries

-- its part in the momentum grows by the moves of its entries
abbrev pub Carries : Particle → Moved → Type 0
Carries p m = part m.particle ≡ both_sums (part p) (moves_of m.entries)

four_terms : (a b c d : ℤ) → (a +ℤ b) +ℤ (c +ℤ d) ≡ (a +ℤ c) +ℤ (b +ℤ d)
four_terms a b c d = omega (arith, ints)

carried : (ps : List Particle) (ms : List Moved) → AllZip Carries ps ms
    → momentum (map {A = Moved} {B = Particle} (λ m. m.particle) ms) ≡ both_sums (momentum ps) (all_moves ms)
carried [] [] h = refl
carried [] (m ∷ ms) h = absurd h
carried (p ∷ ps) [] h = absurd h
carried (p ∷ ps) (m ∷ ms) h =
    let qs = map {A = Moved} {B = Particle} (λ x. x.particle) ms in
    let a = part p in
    let b = moves_of m.entries in
    let c = momentum ps in
    let d = all_moves ms in
    momentum_cons m.particle qs
    ∙ ap (λ (s : Sum). both_sums s (momentum qs)) h.0
    ∙ ap (both_sums (both_sums a b)) (carried ps ms h.1)
    ∙ same_sum (both_sums (both_sums a b) (both_sums c d)) (both_sums (both_sums a c) (both_sums b d)) (four_terms a.x b.x c.x d.x)
    (four_terms a.y b.y c.y d.y) (four_terms a.z b.z c.z d.z)
    ∙ ap (λ (s : Sum). both_sums s (both_sums b d)) (sym (momentum_cons p ps))

-- many such particles keep the balance
pub moved-balanced : (o : Sum) (ps : List Particle) (t : Ledger) (ms : List Moved) → AllZip Carries ps ms
    → momentum ps ≡ both_sums o (all_totals t) → Balances o (all_moved t ms)
moved-balanced o ps t ms h balance =
    let a = all_totals t in
    let d = all_moves ms in
    carried ps ms h
    ∙ ap (λ (s : Sum). both_sums s d) balance
    ∙ same_sum (both_sums (both_sums o a) d) (both_sums o (both_sums a d)) (+ℤ_assoc o.x a.x d.x) (+ℤ_assoc o.y a.y d.y)
    (+ℤ_assoc o.z a.z d.z)
    ∙ ap (both_sums o) (sym (moved_all ms t))

-- ---- those of a step

-- a held particle has no part, wherever it is
stays_held : (p q : Particle) → p.held ≡ true → q.held ≡ true → Carries p (stays q)
stays_held p q e f =
    ap (λ (x : Bool). part_by x (velocity q)) f ∙ plus_zero zero_sum
    ∙ ap (λ (x : Bool). both_sums (part_by x (velocity p)) zero_sum) (sym e)

pub stays_carries : (p : Particle) → Carries p (stays p)
stays_carries p = plus_zero (part p)

flown_terms : (at before g l : ℤ) → pos 0 +ℤ (((at +ℤ ((at -ℤ before) -ℤ l)) +ℤ g) -ℤ at)
    ≡ (pos 0 +ℤ (at -ℤ before)) +ℤ ((pos 0 +ℤ neg_ℤ l) +ℤ g)
flown_terms at before g l = omega (arith, ints)

shaped_terms : (at before to : ℤ) → pos 0 +ℤ (to -ℤ before) ≡ (pos 0 +ℤ (at -ℤ before)) +ℤ (pos 0 +ℤ (to -ℤ at))
shaped_terms at before to = omega (arith, ints)

rubbed_terms : (at before l : ℤ) → pos 0 +ℤ (at -ℤ (before +ℤ l)) ≡ (pos 0 +ℤ (at -ℤ before)) +ℤ (pos 0 +ℤ neg_ℤ l)
rubbed_terms at before l = omega (arith, ints)

-- a free particle, where its new part is known
free_carries : (p : Particle) (m : Moved) → m.particle.held ≡ p.held → p.held ≡ false
    → part_by false (velocity m.particle) ≡ both_sums (part_by false (velocity p)) (moves_of m.entries) → Carries p m
free_carries p m same e h =
    ap (λ (x : Bool). part_by x (velocity m.particle)) (same ∙ e) ∙ h
    ∙ ap (λ (x : Bool). both_sums (part_by x (velocity p)) (moves_of m.entries)) (sym e)

within_by : (p : Particle) (m : Moved) (b : Bool) → Carries p m → IfSome (if b then Some m else None) (Carries p)
within_by p m true h = h
within_by p m false h = tt

flown_carries : (w : World) (p : Particle) → p.held ≡ false → Carries p (flown w p)
flown_carries w p e =
    let m = flown w p in
    free_carries p m refl e
    (same_sum (part_by false (velocity m.particle)) (both_sums (part_by false (velocity p)) (moves_of m.entries))
    (flown_terms p.at.x p.before.x w.gravity.x (damped_away w.damping (velocity p)).x)
    (flown_terms p.at.y p.before.y w.gravity.y (damped_away w.damping (velocity p)).y)
    (flown_terms p.at.z p.before.z w.gravity.z (damped_away w.damping (velocity p)).z))

predicted_by : (w : World) (i : ℕ) (p : Particle) (b : Bool) → p.held ≡ b
    → IfSome (if b then Some (stays (attached w i p)) else if_within w.limit (flown w p)) (Carries p)
predicted_by w i p true e = stays_held p (attached w i p) e e
predicted_by w i p false e = within_by p (flown w p) (is_within w.limit (flown w p).particle.at) (flown_carries w p e)

pub predicted_carries : (w : World) (i : ℕ) (p : Particle) → IfSome (predicted w i p) (Carries p)
predicted_carries w i p = predicted_by w i p p.held refl

way_carries : (p : Particle) (way : Way) → p.held ≡ false → Carries p (shaped_by p way).moved
way_carries p way e =
    let m = (shaped_by p way).moved in
    free_carries p m refl e
    (same_sum (part_by false (velocity m.particle)) (both_sums (part_by false (velocity p)) (moves_of m.entries))
    (shaped_terms p.at.x p.before.x way.at.x) (shaped_terms p.at.y p.before.y way.at.y) (shaped_terms p.at.z p.before.z way.at.z))

ways_by : (p : Particle) (way : Option Way) → p.held ≡ false → IfSome (option_map (shaped_by p) way) (λ s. Carries p s.moved)
ways_by p None e = tt
ways_by p (Some way) e = way_carries p way e

shaped_with : (limit : ℤ) (shapes : List Shape) (p : Particle) (b : Bool) → p.held ≡ b
    → IfSome (if b then Some (still p) else option_map (shaped_by p) (way_through limit shapes (record { at = p.at; touched = false })))
    (λ s. Carries p s.moved)
shaped_with limit shapes p true e = stays_carries p
shaped_with limit shapes p false e = ways_by p (way_through limit shapes (record { at = p.at; touched = false })) e

pub shaped_carries : (limit : ℤ) (shapes : List Shape) (p : Particle) → IfSome (shaped limit shapes p) (λ s. Carries p s.moved)
unfolding shaped
shaped_carries limit shapes p = shaped_with limit shapes p p.held refl

slowed_carries : (friction : ℤ) (p : Particle) → p.held ≡ false → Carries p (slowed friction p)
slowed_carries friction p e =
    let m = slowed friction p in
    let l = rubbed_away friction (velocity p) in
    free_carries p m refl e
    (same_sum (part_by false (velocity m.particle)) (both_sums (part_by false (velocity p)) (moves_of m.entries))
    (rubbed_terms p.at.x p.before.x l.x) (rubbed_terms p.at.y p.before.y l.y) (rubbed_terms p.at.z p.before.z l.z))

rubbed_with : (friction : ℤ) (p : Particle) (b touched : Bool) → p.held ≡ b
    → Carries p (if not b && touched then slowed friction p else stays p)
rubbed_with friction p true touched e = stays_carries p
rubbed_with friction p false false e = stays_carries p
rubbed_with friction p false true e = slowed_carries friction p e

pub rubbed_carries : (friction : ℤ) (p : Particle) (touched : Bool) → Carries p (rubbed friction p touched)
unfolding rubbed
rubbed_carries friction p touched = rubbed_with friction p p.held touched refl

-- ---- two shares in either order

in_turn : (s v w : ℤ) → (s +ℤ v) +ℤ w ≡ (s +ℤ w) +ℤ v
in_turn s v w = omega (arith, ints)

pub sum_in_turn : (s : Sum) (v w : Vec3) → sum_plus (sum_plus s v) w ≡ sum_plus (sum_plus s w) v
sum_in_turn s v w = λ i. record { x = in_turn s.x v.x w.x i; y = in_turn s.y v.y w.y i; z = in_turn s.z v.z w.z i }
