-- The totals of a sound world are far from 128 bits.
use Rattle.std.proofs.Common.{ap, ◌*◌, ◌≤◌, ◌^◌, List, [], ◌∷◌, length, arith, ℤ}
use Rattle.std.specs.Prelude.{nat_le}
use Rattle.std.specs.List.{AllByRecursion, list_all}
use Rattle.std.proofs.lemmas.Bool.{and_parts, leb-true}
use Rattle.pbd_world.specs.declared.parts.Particle.{Particle}
use Rattle.pbd_world.specs.Ledger.{Sum, SumWithin, HaveRoom}
use Rattle.pbd_world.specs.Momentum.{momentum}
use Rattle.pbd_world.specs.Valid.{is_valid_particle}
use Rattle.pbd_world.specs.World.{World, parts_of, IsSound}
use Rattle.pbd_sound.proofs.Momenta.{IsPlaced, momentum_within, pin_axis}
use Rattle.pbd_world.proofs.Rooms.{sum_wider}
use Rattle.pbd_world.proofs.WorldParts.{formed, limit_of, IsFit, all_fit}

all_placed : (limit : ℤ) (ps : List Particle) → AllByRecursion (IsFit limit) ps → AllByRecursion (IsPlaced limit) ps
all_placed limit [] fit = tt
all_placed limit (p ∷ ps) fit = (record { at = fit.0.at; before = fit.0.before }, all_placed limit ps fit.1)

-- each axis of each total of a sound world is at most 2^99 in size
pub sound_room : (w : World) → IsSound w → HaveRoom (2 ^ 99) w.totals
sound_room w sound =
    let form = formed (parts_of w) sound.well_formed in
    let lim = limit_of w form in
    let counts = and_parts (nat_le (length w.particles) 65536) (list_all (is_valid_particle w.limit) w.particles) form.particles in
    let few : length w.particles ≤ 65536 = leb-true (length w.particles) 65536 counts.0 in
    let t = w.totals in
    let b = sound.bounded in
    let small : 2 ^ 64 * w.steps ≤ 2 ^ 84 = omega (arith, sound.steps) in
    let up : (s : Sum) → SumWithin (2 ^ 64 * w.steps) s → SumWithin (2 ^ 84) s = λ s h. sum_wider s (2 ^ 64 * w.steps) (2 ^ 84) small h in
    let far : (s : Sum) → SumWithin (2 ^ 84) s → SumWithin (2 ^ 99) s = λ s h. sum_wider s (2 ^ 84) (2 ^ 99) (omega arith) h in
    let m = sum_wider (momentum w.particles) (length w.particles * 2 ^ 30) (2 ^ 84) (omega (arith, few))
    (momentum_within w.limit w.particles lim (all_placed w.limit w.particles (all_fit w.limit w.particles counts.1))) in
    let o = sum_wider w.opening (2 ^ 46) (2 ^ 84) (omega arith) sound.opening in
    let g = up t.gravity b.gravity in let d = up t.damping b.damping in let l = up t.link b.link in let c = up t.contact b.contact in
    let s = up t.shape b.shape in
    let x = pin_axis (momentum w.particles).x w.opening.x t.gravity.x t.damping.x t.link.x t.contact.x t.pin.x t.shape.x (2 ^ 84)
    (ap (λ (u : Sum). u.x) sound.balanced) m.x o.x g.x d.x l.x c.x s.x in
    let y = pin_axis (momentum w.particles).y w.opening.y t.gravity.y t.damping.y t.link.y t.contact.y t.pin.y t.shape.y (2 ^ 84)
    (ap (λ (u : Sum). u.y) sound.balanced) m.y o.y g.y d.y l.y c.y s.y in
    let z = pin_axis (momentum w.particles).z w.opening.z t.gravity.z t.damping.z t.link.z t.contact.z t.pin.z t.shape.z (2 ^ 84)
    (ap (λ (u : Sum). u.z) sound.balanced) m.z o.z g.z d.z l.z c.z s.z in
    record {
      gravity = far t.gravity g;
      damping = far t.damping d;
      link = far t.link l;
      contact = far t.contact c;
      pin = record { x = omega (arith, x); y = omega (arith, y); z = omega (arith, z) };
      shape = far t.shape s;
    }
