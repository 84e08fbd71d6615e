-- A bond keeps the balance of momentum and ledger.
use Rattle.std.proofs.Common.{◌≡◌, ◌≢◌, refl, sym, ap, ◌∙◌, ℕ, ◌<◌, Bool, true, false, List, length, length-set, get_or-set_other, arith, ℤ}
use Rattle.std.proofs.Common.{pos, ◌+ℤ◌, ◌-ℤ◌}
use Rattle.std.specs.Prelude.{if◌then◌else◌}
use Rattle.std.proofs.lemmas.Int.{ints}
use Rattle.pbd_num.specs.declared.Vec3.{Vec3}
use Rattle.pbd_num.specs.Vectors.{plus}
use Rattle.pbd_world.specs.declared.parts.Particle.{Particle}
use Rattle.pbd_world.specs.declared.bond.Bond.{Bond}
use Rattle.pbd_world.specs.declared.bond.Shift.{Shift}
use Rattle.pbd_world.specs.declared.totals.Class.{Class}
use Rattle.pbd_world.specs.declared.totals.Class.TheVariants as classes
use Rattle.pbd_world.specs.Ledger.{Sum, Ledger, sum_plus, both_sums, added, booked, all_totals}
use Rattle.pbd_world.specs.Particles.{Motion, velocity, particle_at, placed}
use Rattle.pbd_world.specs.Momentum.{momentum, IsBalanced}
use Rattle.pbd_world.specs.Bonds.{entries_of, class_of}
use Rattle.pbd_world.proofs.MomentumLemmas.{same_sum, part_by, momentum_set, added_all}
use Rattle.std.proofs.Math.IntN.{+ℤ_assoc}

-- ---- another place for one particle

held_terms : (n a : ℤ) → n +ℤ pos 0 ≡ a +ℤ pos 0 → n ≡ a
held_terms n a h = omega (arith, ints, h)

free_terms : (n m at before v : ℤ) → n +ℤ (pos 0 +ℤ (at -ℤ before)) ≡ m +ℤ (pos 0 +ℤ ((at +ℤ v) -ℤ before)) → n ≡ m +ℤ v
free_terms n m at before v h = omega (arith, ints, h)

-- the same, where it is known whether the particle is held
set_by : (ps : List Particle) (i : ℕ) (to : Vec3) (held : Bool) → i < length ps → (particle_at ps i).held ≡ held
    → both_sums (momentum (placed ps i to)) (part_by held (velocity (particle_at ps i)))
    ≡ both_sums (momentum ps) (part_by held (velocity (record (particle_at ps i) { at = to })))
set_by ps i to held h e =
    let p = particle_at ps i in
    let q : Particle = record p { at = to } in
    ap (λ (x : Bool). both_sums (momentum (placed ps i to)) (part_by x (velocity p))) (sym e)
    ∙ momentum_set ps i q h
    ∙ ap (λ (x : Bool). both_sums (momentum ps) (part_by x (velocity q))) e

-- a held particle's place isn't in the momentum
pub placed_held : (ps : List Particle) (i : ℕ) (to : Vec3) → i < length ps → (particle_at ps i).held ≡ true
    → momentum (placed ps i to) ≡ momentum ps
placed_held ps i to h e =
    let set = set_by ps i to true h e in
    same_sum _ _ (held_terms _ _ (ap (λ (s : Sum). s.x) set)) (held_terms _ _ (ap (λ (s : Sum). s.y) set))
    (held_terms _ _ (ap (λ (s : Sum). s.z) set))

-- a free particle's move is
pub placed_free : (ps : List Particle) (i : ℕ) (v : Vec3) → i < length ps → (particle_at ps i).held ≡ false
    → momentum (placed ps i (plus (particle_at ps i).at v)) ≡ sum_plus (momentum ps) v
placed_free ps i v h e =
    let p = particle_at ps i in
    let m = momentum ps in
    let n = momentum (placed ps i (plus p.at v)) in
    let set = set_by ps i (plus p.at v) false h e in
    same_sum n (sum_plus m v)
    (free_terms n.x m.x p.at.x p.before.x v.x (ap (λ (s : Sum). s.x) set))
    (free_terms n.y m.y p.at.y p.before.y v.y (ap (λ (s : Sum). s.y) set))
    (free_terms n.z m.z p.at.z p.before.z v.z (ap (λ (s : Sum). s.z) set))

-- ---- the moves of two ends

-- a sum with the moves of the free ones of two ends
abbrev pub with_moves : Bool → Bool → Vec3 → Vec3 → Sum → Sum
with_moves false false u v s = sum_plus (sum_plus s u) v
with_moves false true u v s = sum_plus s u
with_moves true false u v s = sum_plus s v
with_moves true true u v s = s

assoc_one : (o t : Sum) (u : Vec3) → sum_plus (both_sums o t) u ≡ both_sums o (sum_plus t u)
assoc_one o t u = same_sum (sum_plus (both_sums o t) u) (both_sums o (sum_plus t u)) (+ℤ_assoc o.x t.x u.x) (+ℤ_assoc o.y t.y u.y)
    (+ℤ_assoc o.z t.z u.z)

moves_under : (p q : Bool) (u v : Vec3) (o t : Sum) → with_moves p q u v (both_sums o t) ≡ both_sums o (with_moves p q u v t)
moves_under false false u v o t = ap (λ (s : Sum). sum_plus s v) (assoc_one o t u) ∙ assoc_one o (sum_plus t u) v
moves_under false true u v o t = assoc_one o t u
moves_under true false u v o t = assoc_one o t v
moves_under true true u v o t = refl

-- the ledger takes just these moves
booked_moves : (p q : Bool) (class : Class) (s : Shift) (t : Ledger)
    → all_totals (booked t (entries_of p q class s)) ≡ with_moves p q s.first_move s.second_move (all_totals t)
booked_moves false false class s t = added_all (added t class s.first_move) class s.second_move
    ∙ ap (λ (x : Sum). sum_plus x s.second_move) (added_all t class s.first_move)
booked_moves false true class s t = added_all t classes.Pin s.first_move
booked_moves true false class s t = added_all t classes.Pin s.second_move
booked_moves true true class s t = refl

-- the place of either end, as it is known whether it is held
placed_by : (ps : List Particle) (i : ℕ) (v : Vec3) (held : Bool) → i < length ps → (particle_at ps i).held ≡ held
    → momentum (placed ps i (plus (particle_at ps i).at v)) ≡ (if held then momentum ps else sum_plus (momentum ps) v)
placed_by ps i v true h e = placed_held ps i (plus (particle_at ps i).at v) h e
placed_by ps i v false h e = placed_free ps i v h e

-- both moves of two different particles
placed_both : (ps : List Particle) (a b : ℕ) (u v : Vec3) (p q : Bool) → a < length ps → b < length ps → b ≢ a → (particle_at ps a).held ≡ p
    → (particle_at ps b).held ≡ q → momentum (placed (placed ps a (plus (particle_at ps a).at u)) b (plus (particle_at ps b).at v))
    ≡ with_moves p q u v (momentum ps)
placed_both ps a b u v p q ha hb apart ea eb =
    let qs = placed ps a (plus (particle_at ps a).at u) in
    let same : particle_at qs b ≡ particle_at ps b = grind (arith, get_or-set_other) in
    let first = placed_by ps a u p ha ea in
    let second : momentum (placed qs b (plus (particle_at qs b).at v))
    ≡ (if q then momentum qs else sum_plus (momentum qs) v) =
    placed_by qs b v q (rw length-set hb) (ap (λ (x : Particle). x.held) same ∙ eb) in
    ap (λ (x : Particle). momentum (placed qs b (plus x.at v))) (sym same) ∙ second ∙ both_by p q u v (momentum ps) (momentum qs) first
  where
    both_by : (p q : Bool) (u v : Vec3) (s t : Sum) → t ≡ (if p then s else sum_plus s u)
        → (if q then t else sum_plus t v) ≡ with_moves p q u v s
    both_by false false u v s t e = ap (λ (x : Sum). sum_plus x v) e
    both_by false true u v s t e = e
    both_by true false u v s t e = ap (λ (x : Sum). sum_plus x v) e
    both_by true true u v s t e = e

abbrev pub Balances : Sum → Motion → Type 0
Balances o m = IsBalanced o m.totals m.particles

-- two ends that move by their shift
pub balanced_moves : (o : Sum) (m : Motion) (bond : Bond) (s : Shift) → bond.a < length m.particles → bond.b < length m.particles
    → bond.b ≢ bond.a
    → s.first ≡ plus (particle_at m.particles bond.a).at s.first_move → s.second ≡ plus (particle_at m.particles bond.b).at s.second_move
    → Balances o m
    → momentum (placed (placed m.particles bond.a s.first) bond.b s.second)
    ≡ both_sums o (all_totals (booked m.totals (entries_of (particle_at m.particles bond.a).held (particle_at m.particles bond.b).held
    (class_of bond) s)))
balanced_moves o m bond s ha hb apart e1 e2 balance =
    let p = (particle_at m.particles bond.a).held in
    let q = (particle_at m.particles bond.b).held in
    ap (λ (x : Vec3). momentum (placed (placed m.particles bond.a x) bond.b s.second)) e1
    ∙ ap (λ (x : Vec3). momentum (placed (placed m.particles bond.a (plus (particle_at m.particles bond.a).at s.first_move)) bond.b x)) e2
    ∙ placed_both m.particles bond.a bond.b s.first_move s.second_move p q ha hb apart refl refl
    ∙ ap (with_moves p q s.first_move s.second_move) balance
    ∙ moves_under p q s.first_move s.second_move o (all_totals m.totals)
    ∙ ap (both_sums o) (sym (booked_moves p q (class_of bond) s m.totals))
