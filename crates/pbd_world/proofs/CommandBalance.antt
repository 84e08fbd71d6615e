-- Every command keeps the balance of momentum and ledger.
use Rattle.std.proofs.Common.{◌≡◌, ◌≢◌, sym, ap, ◌∙◌, ℕ, ◌<◌, Bool, true, not, List, [], ◌∷◌, length, arith, ℤ, ◌+ℤ◌}
use Rattle.std.specs.Prelude.{IsTrue, slice_set, ◌==◌}
use Rattle.std.specs.List.{AllByRecursion, list_all}
use Rattle.std.proofs.lemmas.Int.{ints}
use Rattle.std.proofs.lemmas.Bool.{and_parts, ltb-true, eq-eqb, false≢true}
use Rattle.pbd_world.specs.declared.parts.Particle.{Particle}
use Rattle.pbd_world.specs.declared.parts.Link.{Link}
use Rattle.pbd_world.specs.declared.command.Command.{Command}
use Rattle.pbd_world.specs.Ledger.{Sum, both_sums, all_totals}
use Rattle.pbd_world.specs.Particles.{particle_at}
use Rattle.pbd_world.specs.Momentum.{momentum, IsBalanced}
use Rattle.pbd_world.specs.Valid.{is_valid_link, is_well_formed}
use Rattle.pbd_world.specs.World.{World, parts_of, IsSound}
use Rattle.pbd_world.specs.Bonds.{link_at}
use Rattle.pbd_world.specs.Meaning.{Edit, Deed, deed, edited, steps_of, after}
use Rattle.pbd_world.specs.Meaning.Edit.{OnParticle, OnLink, OnGravity}
use Rattle.pbd_world.specs.Meaning.Deed.{Steps, Edits, Answers}
use Rattle.pbd_world.specs.Step.{step}
use Rattle.pbd_world.proofs.MomentumLemmas.{same_sum, part, momentum_set}
use Rattle.pbd_world.proofs.KeepingOn.{repeat-keeps, all-at}
use Rattle.pbd_world.proofs.CountingOn.{ok_weaker}
use Rattle.pbd_world.proofs.StepBalance.{IsReady, step-ready}
use Rattle.pbd_world.proofs.WorldParts.{formed}
use Rattle.pbd_world.proofs.Deeds.{Leads, command-leads}
use Rattle.pbd_world.proofs.Allowed.{IsAllowed, IsSafe, allowed}

set_terms : (n m a b s o t : ℤ) → n +ℤ a ≡ m +ℤ b → m ≡ o +ℤ s → b +ℤ s ≡ a +ℤ t → n ≡ o +ℤ t
set_terms n m a b s o t h k e = omega (arith, ints, h, k, e)

-- another particle in place of particle i, where the totals get what it has less in the momentum
exchanged : (w : World) (i : ℕ) (q : Particle) (t : Sum) → i < length w.particles
    → both_sums (part q) (all_totals w.totals) ≡ both_sums (part (particle_at w.particles i)) t
    → IsBalanced w.opening w.totals w.particles → momentum (slice_set w.particles i q) ≡ both_sums w.opening t
exchanged w i q t h even k =
    let n = momentum (slice_set w.particles i q) in
    let m = momentum w.particles in
    let a = part (particle_at w.particles i) in
    let b = part q in
    let s = all_totals w.totals in
    let set = momentum_set w.particles i q h in
    same_sum n (both_sums w.opening t)
    (set_terms n.x m.x a.x b.x s.x w.opening.x t.x (ap (λ (u : Sum). u.x) set) (ap (λ (u : Sum). u.x) k) (ap (λ (u : Sum). u.x) even))
    (set_terms n.y m.y a.y b.y s.y w.opening.y t.y (ap (λ (u : Sum). u.y) set) (ap (λ (u : Sum). u.y) k) (ap (λ (u : Sum). u.y) even))
    (set_terms n.z m.z a.z b.z s.z w.opening.z t.z (ap (λ (u : Sum). u.z) set) (ap (λ (u : Sum). u.z) k) (ap (λ (u : Sum). u.z) even))

-- ---- the commands

abbrev Balances : World → Type 0
Balances w = IsBalanced w.opening w.totals w.particles

edit_balances : (w : World) (edit : Edit) → IsSafe w edit → Balances w → Balances (edited w edit)
edit_balances w (OnParticle i change lost) safe h =
    exchanged w i (change (particle_at w.particles i)) (all_totals (edited w (OnParticle i change lost)).totals) safe.there safe.even h
edit_balances w (OnLink n) safe h = h
edit_balances w (OnGravity g) safe h = h

deed_balances : (w : World) (d : Deed) → IsReady w → IsAllowed w d → Leads Balances w d
deed_balances w (Steps n) ready allows =
    ok_weaker IsReady Balances (steps_of n w) (λ v h. h.balance) (repeat-keeps IsReady step (λ u j. step-ready u j) n w ready)
deed_balances w (Edits edit) ready allows = edit_balances w edit allows ready.balance
deed_balances w (Answers reply) ready allows = tt

-- ---- a sound world is ready

all_from : {A : Type 0} (test : A → Bool) (xs : List A) → IsTrue (list_all test xs) → AllByRecursion (λ x. IsTrue (test x)) xs
all_from test [] h = tt
all_from test (x ∷ xs) h = let parts = and_parts (test x) (list_all test xs) h in (parts.0, all_from test xs parts.1)

differ : (a b : ℕ) → not (a == b) ≡ true → b ≢ a
differ a b h e = false≢true (ap not (sym (eq-eqb a b (sym e))) ∙ h)

link_ends : (limit : ℤ) (n : ℕ) (l : Link) → IsTrue (is_valid_link limit n l) → (l.a < n) × (l.b < n) × (l.b ≢ l.a)
link_ends limit n l t =
    let p5 = and_parts _ _ t in let p4 = and_parts _ _ p5.0 in let p3 = and_parts _ _ p4.0 in let p2 = and_parts _ _ p3.0 in
    let p1 = and_parts _ _ p2.0 in
    (ltb-true l.a n p1.0, ltb-true l.b n p1.1, differ l.a l.b p2.1)

well_formed-links : (w : World) → IsTrue (is_well_formed (parts_of w))
    → IsTrue (list_all (is_valid_link w.limit (length w.particles)) w.links)
well_formed-links w t =
    let q3 = and_parts _ _ (formed (parts_of w) t).links in let q2 = and_parts _ _ q3.0 in let q1 = and_parts _ _ q2.0 in q1.1

pub sound-ready : (w : World) → IsSound w → IsReady w
sound-ready w s = record {
  balance = s.balanced;
  ends = λ k h. let e = link_ends w.limit (length w.particles) (link_at w.links k)
      (all-at (λ l. IsTrue (is_valid_link w.limit (length w.particles) l)) w.links k _ h
      (all_from (is_valid_link w.limit (length w.particles)) w.links (well_formed-links w s.well_formed))) in
      record { first = e.0; second = e.1; apart = e.2 };
}

pub sound-balanced : (w : World) (c : Command) → IsSound w → IsBalanced (after w c).opening (after w c).totals (after w c).particles
sound-balanced w c s =
    command-leads Balances w c s.balanced (λ es. deed_balances w (deed c) (sound-ready w s) (allowed w c s es))
