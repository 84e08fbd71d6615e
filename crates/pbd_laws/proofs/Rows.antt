-- Worked rows: what the definitions of the laws compute, and that the bounds are met.
use Rattle.std.specs.Prelude.{◌≡◌, refl, ℕ, ℤ, pos, neg_ℤ, true, false, List, [], ◌∷◌, Some, None}
use Rattle.std.proofs.Common.{arith}
use Rattle.pbd_num.specs.declared.Vec3.{Vec3}
use Rattle.pbd_num.specs.Rounding.{rdiv, root}
use Rattle.pbd_num.specs.Vectors.{zero_vector}
use Rattle.pbd_num.specs.PairMove.{pair_moves}
use Rattle.pbd_world.specs.declared.parts.Plane.{Plane}
use Rattle.pbd_world.specs.declared.parts.Sphere.{Sphere}
use Rattle.pbd_world.specs.declared.bond.Bond.{Bond}
use Rattle.pbd_world.specs.declared.bond.End.{End}
use Rattle.pbd_world.specs.declared.command.Command.TheVariants.{Cut, Move, Step}
use Rattle.pbd_world.specs.Particles.{particle_at}
use Rattle.pbd_world.specs.World.{World, opened, no_parts}
use Rattle.pbd_world.specs.Bonds.{shift_of}
use Rattle.pbd_world.specs.Shapes.{no_shapes, plane_shape, sphere_shape}
use Rattle.pbd_world.specs.Meaning.{meaning}
use Rattle.pbd_world.specs.Session.{last_world}
use Rattle.pbd_laws.specs.Machine.Act.{Play, Save, Restore}
use Rattle.pbd_laws.specs.Ring.{Event, all_taken, all_acts, AreInTime}
use Rattle.pbd_laws.specs.Ring.Event.{Plays, Learns}
use Rattle.pbd_laws.specs.Solids.{solids_of, last_solid}
use Rattle.pbd_laws.specs.Solids.Solid.{APlane, ASphere}
use Rattle.pbd_laws.specs.Bonding.{distance_after}

-- ---- a ring of two slots

-- the input of turn 1 is guessed as none, and learnt before turn 2; that of turn 0 is known at once
abbrev late : List Event
late = Plays (Cut 0 ∷ Step 1 ∷ []) ∷ Plays (Step 1 ∷ []) ∷ Learns 1 (Cut 7 ∷ Step 1 ∷ []) ∷ Plays (Cut 2 ∷ []) ∷ Learns 1 [] ∷ []

late_acts : all_acts 2 [] late
    ≡ Save 0 ∷ Play (Cut 0) ∷ Play (Step 1)
    ∷ Save 1 ∷ Play (Step 1)
    ∷ Restore 1 ∷ Save 1 ∷ Play (Cut 7) ∷ Play (Step 1)
    ∷ Save 0 ∷ Play (Cut 2)
    ∷ Restore 1 ∷ Save 1 ∷ Save 0 ∷ Play (Cut 2) ∷ []
late_acts = refl

late_turns : all_taken [] late ≡ (Cut 0 ∷ Step 1 ∷ []) ∷ [] ∷ (Cut 2 ∷ []) ∷ []
late_turns = refl

late_in_time : AreInTime 2 [] late
late_in_time = (tt, (tt, ((omega arith, omega arith), (tt, ((omega arith, omega arith), tt)))))

-- with two slots the input of turn 0 comes too late after turn 2, whose world took its slot
too_late : AreInTime 2 [] (Plays [] ∷ Plays [] ∷ Plays [] ∷ Learns 0 [] ∷ []) → ⊥
too_late (_, (_, (_, ((_, late), _)))) = omega (arith, late)

-- ---- two commands that name one particle

abbrev at : ℕ → ℕ → ℕ → Vec3
at x y z = record { x = pos x; y = pos y; z = pos z }

abbrev nailed : World
nailed = opened (record (no_parts (pos 536870912)) {
  particles = record { at = at 0 0 0; before = at 0 0 0; weight = 1; held = true } ∷ [];
})

-- the later one has its way
first_then_second : (particle_at (last_world nailed (Move 0 (at 1 0 0) ∷ Move 0 (at 2 0 0) ∷ [])).particles 0).at ≡ at 2 0 0
unfolding meaning
first_then_second = refl

second_then_first : (particle_at (last_world nailed (Move 0 (at 2 0 0) ∷ Move 0 (at 1 0 0) ∷ [])).particles 0).at ≡ at 1 0 0
unfolding meaning
second_then_first = refl

-- ---- shapes

-- (The solids go by the order of the shapes, by `shapes_are` of LeftOutside, and which is the last asks for no kind. So two kinds tell
-- the order here, and a new one wants no row.)

abbrev above : ℕ → Plane
above height = record { normal = at 0 1 0; offset = pos height }

abbrev ball : ℕ → Sphere
ball radius = record { centre = zero_vector; radius = pos radius }

-- both planes touch the place; in the other order the first alone does; higher up none; and the sphere after a plane
last_solids : (last_solid (solids_of (record no_shapes { planes = above 10 ∷ above 20 ∷ [] })) (at 0 0 0) ≡ Some (APlane (above 20)))
    × (last_solid (solids_of (record no_shapes { planes = above 20 ∷ above 10 ∷ [] })) (at 0 0 0) ≡ Some (APlane (above 20)))
    × (last_solid (solids_of (record no_shapes { planes = above 20 ∷ above 10 ∷ [] })) (at 0 30 0) ≡ None)
    × (last_solid (solids_of (record no_shapes { planes = above 5 ∷ []; spheres = ball 10 ∷ [] })) (at 0 0 0) ≡ Some (ASphere (ball 10)))
unfolding rdiv root plane_shape sphere_shape
last_solids = (refl, refl, refl, refl)

-- rounding: a plane touches a place and can't move it out, and a sphere leaves a place 1 short of its radius
rounded_away : (plane_shape (record { normal = at 1 1 1; offset = pos 1 }) (at 0 0 0) ≡ Some (at 0 0 0))
    × (sphere_shape (ball 5) (at 1 2 2) ≡ Some (at 2 3 3))
unfolding rdiv root plane_shape sphere_shape
rounded_away = (refl, refl)

-- ---- bonds that meet the bounds

abbrev end : Vec3 → ℕ → End
end v weight = record { at = v; weight = pos weight }

abbrev stiff : ℕ → Bond
stiff rest = record { a = 0; b = 1; rest = pos rest; k = pos 256; contact = false }

abbrev v : ℤ → ℤ → ℤ → Vec3
v x y z = record { x = x; y = y; z = z }

-- two free ends: 3 less than the rest length 4, and 3 more than the rest length 60 and 60 / 31
three_less : distance_after (shift_of (end (v (neg_ℤ (pos 3)) (neg_ℤ (pos 3)) (pos 3)) 1) (end zero_vector 1) (stiff 4)) ≡ 1
unfolding rdiv root pair_moves shift_of
three_less = refl

three_more : distance_after (shift_of (end (v (pos 7) (neg_ℤ (pos 22)) (pos 22)) 1) (end zero_vector 1) (stiff 60)) ≡ 64
unfolding rdiv root pair_moves shift_of
three_more = refl

-- one held end: the ends come within 1, and from a distance of 1 to its square root of 2 times the rest length
held_end : distance_after (shift_of (end (v (pos 1) (pos 1) (pos 0)) 1) (end zero_vector 0) (stiff 50)) ≡ 70
unfolding rdiv root pair_moves shift_of
held_end = refl
