-- Whole sessions: what holds of every world that commands lead to.
use Rattle.std.proofs.Common.{◌≡◌, refl, ap, ◌∙◌, List, [], ◌∷◌, ℕ, ℤ, pos, ◌+ℤ◌, arith}
use Rattle.std.specs.Prelude.{IsTrue}
use Rattle.std.proofs.lemmas.Int.{ints}
use Rattle.pbd_world.specs.declared.parts.Parts.{Parts}
use Rattle.pbd_world.specs.declared.command.Command.{Command}
use Rattle.pbd_world.specs.Ledger.{Sum, both_sums}
use Rattle.pbd_world.specs.Momentum.{momentum}
use Rattle.pbd_world.specs.Valid.{is_valid}
use Rattle.pbd_world.specs.World.{World, opened, IsSound, HaveWeight, AreOfOneScene}
use Rattle.pbd_world.specs.Meaning.{after}
use Rattle.pbd_world.specs.Session.{last_world}
use Rattle.pbd_world.proofs.MomentumLemmas.{same_sum}
use Rattle.pbd_world.proofs.OpenedLemmas.{opened-is_sound}
use Rattle.pbd_world.proofs.CommandSound.{command-sound, command-scene}

last-sound : (w : World) (cs : List Command) → IsSound w → IsSound (last_world w cs) × AreOfOneScene w (last_world w cs)
last-sound w [] s = (s, refl)
last-sound w (c ∷ cs) s =
    let rest = last-sound (after w c) cs (command-sound w c s) in
    (rest.0, command-scene w c s ∙ rest.1)

pub session-sound : (parts : Parts) (cs : List Command) → IsTrue (is_valid parts) → IsSound (last_world (opened parts) cs)
session-sound parts cs v = (last-sound (opened parts) cs (opened-is_sound parts v)).0

pub session-scene : (parts : Parts) (cs : List Command) → IsTrue (is_valid parts)
    → AreOfOneScene (opened parts) (last_world (opened parts) cs)
session-scene parts cs v = (last-sound (opened parts) cs (opened-is_sound parts v)).1

-- with three totals of nothing, three are left
three_left : (m o g d l c p s : ℤ) → m ≡ o +ℤ (g +ℤ (d +ℤ (l +ℤ (c +ℤ (p +ℤ s))))) → d ≡ pos 0 → l ≡ pos 0 → c ≡ pos 0
    → m ≡ o +ℤ (g +ℤ (p +ℤ s))
three_left m o g d l c p s e hd hl hc = omega (arith, ints, e, hd, hl, hc)

pub undamped-balance : (w : World) (weight : ℕ) → IsSound w → w.damping ≡ pos 0 → HaveWeight weight w.particles
    → momentum w.particles ≡ both_sums w.opening (both_sums w.totals.gravity (both_sums w.totals.pin w.totals.shape))
undamped-balance w weight s still all =
    let m = momentum w.particles in
    let o = w.opening in
    let t = w.totals in
    let d = s.undamped still in
    let e = s.one_weight weight all in
    same_sum m (both_sums o (both_sums t.gravity (both_sums t.pin t.shape)))
    (three_left m.x o.x t.gravity.x t.damping.x t.link.x t.contact.x t.pin.x t.shape.x (ap (λ (x : Sum). x.x) s.balanced)
    (ap (λ (x : Sum). x.x) d) (ap (λ (x : Sum). x.x) e.0) (ap (λ (x : Sum). x.x) e.1))
    (three_left m.y o.y t.gravity.y t.damping.y t.link.y t.contact.y t.pin.y t.shape.y (ap (λ (x : Sum). x.y) s.balanced)
    (ap (λ (x : Sum). x.y) d) (ap (λ (x : Sum). x.y) e.0) (ap (λ (x : Sum). x.y) e.1))
    (three_left m.z o.z t.gravity.z t.damping.z t.link.z t.contact.z t.pin.z t.shape.z (ap (λ (x : Sum). x.z) s.balanced)
    (ap (λ (x : Sum). x.z) d) (ap (λ (x : Sum). x.z) e.0) (ap (λ (x : Sum). x.z) e.1))
